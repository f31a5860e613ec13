-- The voxels of a leaf extent while they are read.
use Rattle.std.specs.Prelude.{◌≡◌, ℕ, Bool, true, false, if◌then◌else◌, List, ◌++◌, length, Option}
use Rattle.std.specs.Int.{w16, to_be_bytes}
use Rattle.vdb_coord.specs.Blocks.{block_around, block_number, offset, sub_block}
use Rattle.vdb_coord.specs.Space.{coord_eq}
use Rattle.vdb_coord.specs.declared.Bits.{Bits}
use Rattle.vdb_coord.specs.declared.Coord.{Coord}
use Rattle.vdb_coord.specs.declared.Level.TheVariants.{Leaf}
use Rattle.vdb_node.specs.Leaf.{cell_in, Leaf as LeafOf}
use Rattle.vdb_value.specs.declared.Cell.{Cell}
use Rattle.vdb_tree.specs.ConstantBlocks.{is_constant}
use Rattle.vdb_tree.specs.Field.{Field, off}
use Rattle.vdb_file.specs.Bodies.{cell_bytes, listed, voxel_body}
use Rattle.vdb_file.specs.internal.Loading.{IsIndex, IsSpelled}
use Rattle.vdb_file.specs.internal.Written.{numbered}

-- a field has this background, and its values have P
pub record HasValues {V : Type 0} (P : V → Type 0) (background : V) (f : Field V) : Type 0 where
  pub same : f.background ≡ background
  pub values : (p : Coord) → P (f.cell p).value

module _ {V : Type 0} where
  -- the field with these cells in p's leaf extent, and with the background elsewhere
  abbrev pub cells_field : Bits → Coord → V → (ℕ → Cell V) → Field V
  cells_field bits p background cells = record {
    background = background;
    cell = λ q. if coord_eq (block_number bits Leaf p) (block_number bits Leaf q) then cells (offset bits Leaf q) else off background;
  }

  -- the field with the cells of a leaf there
  abbrev pub leaf_field : Bits → Coord → V → LeafOf V → Field V
  leaf_field bits p background leaf = cells_field bits p background (cell_in (off background) leaf)

  module _ (eq : V → V → Bool) (is_value : V → Type 0) (background : V) where
    -- a voxel that may come next in a leaf of this many: its number is past the one before, and its cell isn't the background
    pub record IsVoxel (most : ℕ) (before : Option ℕ) (e : ℕ × Cell V) : Type 0 where
      pub index : IsIndex most before e.0
      pub cell : IsSpelled eq is_value background e.1

    -- a field whose cells in p's leaf extent differ
    pub record IsMixed (bits : Bits) (p : Coord) (f : Field V) : Type 0 where
      pub values : HasValues is_value background f
      pub differs : is_constant eq f (block_around bits Leaf p) ≡ false

  module _ (eq : V → V → Bool) (value_bytes : V → List ℕ) where
    -- the number of a voxel, and then its cell
    abbrev pub voxel_bytes : ℕ × Cell V → List ℕ
    voxel_bytes e = to_be_bytes w16 e.0 ++ cell_bytes eq value_bytes e.1

    -- these are the bytes of an active voxel with this number and this value
    pub record IsActive (is_value : V → Type 0) (i : ℕ) (value : V) (bytes : List ℕ) : Type 0 where
      pub fits : is_value value
      pub same : voxel_bytes (i, record { value = value; on = true }) ≡ bytes

    -- the listed voxels of p's leaf extent, each after its number
    abbrev pub voxels_bytes : Bits → Coord → Field V → List ℕ
    voxels_bytes bits p f = let b = block_around bits Leaf p in numbered (λ i. voxel_body eq value_bytes bits f (sub_block bits Leaf b i)) (listed eq value_bytes bits f Leaf b)

    abbrev pub voxel_count : Bits → Coord → Field V → ℕ
    voxel_count bits p f = length (listed eq value_bytes bits f Leaf (block_around bits Leaf p))

    -- a field with this many listed voxels in p's leaf extent
    pub record IsFilled (is_value : V → Type 0) (background : V) (bits : Bits) (p : Coord) (count : ℕ) (f : Field V) : Type 0 where
      pub values : HasValues is_value background f
      pub counted : voxel_count bits p f ≡ count
