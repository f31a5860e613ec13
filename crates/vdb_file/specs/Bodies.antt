-- The encoding of the blocks of a field.
use Rattle.std.specs.Prelude.{ℕ, Bool, not, if◌then◌else◌, List, ◌∷◌, ◌++◌, length, filter}
use Rattle.std.specs.List.{flat_map}
use Rattle.std.specs.Int.{w16, w32, to_be_bytes}
use Rattle.vdb_coord.specs.Blocks.{block, entry_numbers, sub_block}
use Rattle.vdb_coord.specs.Space.{Box}
use Rattle.vdb_coord.specs.declared.Bits.{Bits}
use Rattle.vdb_coord.specs.declared.Coord.{Coord}
use Rattle.vdb_coord.specs.declared.Level.{Level}
use Rattle.vdb_coord.specs.declared.Level.TheVariants.{Leaf, Lower, Upper}
use Rattle.vdb_value.specs.Values.{number_bytes}
use Rattle.vdb_value.specs.declared.Cell.{Cell}
use Rattle.vdb_tree.specs.ConstantBlocks.{is_background, is_constant, root_keys, roots}
use Rattle.vdb_tree.specs.Field.{Field}

-- the number of a root block along each axis
abbrev pub key_bytes : Coord → List ℕ
key_bytes k = number_bytes w32 k.x ++ (number_bytes w32 k.y ++ number_bytes w32 k.z)

module _ {V : Type 0} (eq : V → V → Bool) (value_bytes : V → List ℕ) where
  -- a cell: the byte 2 if it is active, else 1, and then its value
  abbrev pub cell_bytes : Cell V → List ℕ
  cell_bytes c = (if c.on then 2 else 1) ∷ value_bytes c.value

  module _ (bits : Bits) (f : Field V) where
    -- the entries of a block that hold anything but the background, by their numbers
    abbrev pub listed : Level → Box → List ℕ
    listed level b = filter (λ i. not (is_background eq f (sub_block bits level b i))) (entry_numbers bits level)

    -- the count of those entries, and then each entry after its number
    abbrev pub entries_bytes : (Box → List ℕ) → Level → Box → List ℕ
    entries_bytes entry level b =
        to_be_bytes w16 (length (listed level b)) ++ flat_map (λ i. to_be_bytes w16 i ++ entry (sub_block bits level b i)) (listed level b)

    -- a block of one cell as that cell, any other block as the byte 3 and its entries
    abbrev pub block_bytes : (Box → List ℕ) → Level → Box → List ℕ
    block_bytes entry level b = if is_constant eq f b then cell_bytes (f.cell b.min) else 3 ∷ entries_bytes entry level b

    -- the body of a voxel: its cell
    abbrev pub voxel_body : Box → List ℕ
    voxel_body b = cell_bytes (f.cell b.min)

    -- the bodies of a leaf, lower and root block: in the standard tree 8, 128 and 4,096 voxels along each axis
    abbrev pub leaf_body : Box → List ℕ
    leaf_body = block_bytes voxel_body Leaf

    abbrev pub lower_body : Box → List ℕ
    lower_body = block_bytes leaf_body Lower

    abbrev pub root_body : Box → List ℕ
    root_body = block_bytes lower_body Upper

    -- the count of the root blocks that hold anything but the background, and then each of them after its key
    unfoldable pub roots_bytes : List ℕ
    roots_bytes = to_be_bytes w32 (roots eq bits f) ++ flat_map (λ k. key_bytes k ++ root_body (block bits Upper k)) (root_keys eq bits f)
