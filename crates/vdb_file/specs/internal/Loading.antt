-- The heads of blocks, and the numbers of entries.
use Rattle.std.specs.Prelude.{◌≡◌, ℕ, ◌<◌, ◌≤◌, Bool, true, false, List, ◌∷◌, Option}
use Rattle.std.specs.Int.{w16, to_be_bytes}
use Rattle.std.specs.Ordering.{nat_cmp}
use Rattle.vdb_coord.specs.Blocks.{block_numbers}
use Rattle.vdb_coord.specs.Space.{coord_cmp, is_inside}
use Rattle.vdb_coord.specs.declared.Bits.{Bits}
use Rattle.vdb_coord.specs.declared.Coord.{Coord}
use Rattle.vdb_coord.specs.declared.Level.TheVariants.{Upper}
use Rattle.vdb_value.specs.declared.Cell.{Cell}
use Rattle.vdb_tree.specs.ConstantBlocks.{cell_eq}
use Rattle.vdb_tree.specs.Field.{off}
use Rattle.vdb_file.specs.Bodies.{cell_bytes}
use Rattle.vdb_file.specs.declared.loading.block_head.Head.{Head}
use Rattle.vdb_file.specs.declared.loading.block_head.Head.TheVariants.{Node, One}
use Rattle.vdb_file.specs.internal.Following.{Follows}

-- the number of an entry, below `most`, that comes after the one before
pub record IsIndex (most : ℕ) (before : Option ℕ) (i : ℕ) : Type 0 where
  pub within : i < most
  pub later : Follows nat_cmp before i

-- the key of a root block that comes after the one before
pub record IsKey (bits : Bits) (before : Option Coord) (k : Coord) : Type 0 where
  pub inside : is_inside (block_numbers bits Upper) k ≡ true
  pub later : Follows coord_cmp before k

module _ {V : Type 0} (eq : V → V → Bool) where
  -- a cell that a file lists: its value has the type, and it isn't the background
  pub record IsSpelled (is_value : V → Type 0) (background : V) (c : Cell V) : Type 0 where
    pub value : is_value c.value
    pub other : cell_eq eq c (off background) ≡ false

  -- the head of a block with `most` entries
  abbrev pub IsHead : (V → Type 0) → V → ℕ → Head V → Type 0
  IsHead is_value background most (One c) = IsSpelled is_value background c
  IsHead is_value background most (Node n) = (1 ≤ n) × (n ≤ most)

  abbrev pub head_bytes : (V → List ℕ) → Head V → List ℕ
  head_bytes value_bytes (One c) = cell_bytes eq value_bytes c
  head_bytes value_bytes (Node n) = 3 ∷ to_be_bytes w16 n
