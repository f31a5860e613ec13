-- When a box has one cell. Only proofs and private functions use these definitions.
use Rattle.std.specs.Prelude.{◌≡◌, ◌⊎◌, ℕ, IsTrue}
use Rattle.vdb_coord.specs.Blocks.{key, offset}
use Rattle.vdb_coord.specs.Space.{Box, is_inside}
use Rattle.vdb_coord.specs.declared.Bits.{Bits}
use Rattle.vdb_coord.specs.declared.Coord.{Coord}
use Rattle.vdb_coord.specs.declared.Level.TheVariants.{Leaf}
use Rattle.vdb_value.specs.declared.Cell.{Cell}
use Rattle.vdb_tree.specs.Field.{Field}
use Rattle.vdb_tree.specs.Layout.{Layout, field_of}
use Rattle.vdb_tree.specs.Parts.{IsSkipped}
use Rattle.vdb_tree.specs.declared.queries.parts.Skip.{Skip}

module _ {V : Type 0} (bits : Bits) (t : Layout V) (box : Box) (cell : Cell V) where
  -- each coordinate of the box has the cell, or a walk may skip it
  abbrev pub IsCellOrSkipped : Skip → Type 0
  IsCellOrSkipped skip = (q : Coord) → IsTrue (is_inside box q) → ((field_of bits t).cell q ≡ cell) ⊎ IsSkipped bits skip t q

  -- in the root block of each coordinate of the box some coordinate has the cell
  abbrev pub IsInEachRoot : Type 0
  IsInEachRoot = (q : Coord) → IsTrue (is_inside box q) → (r : Coord) × (key bits r ≡ key bits q) × ((field_of bits t).cell r ≡ cell)

-- the coordinates of the box at this index of their leaf blocks have the cell
abbrev pub IsCellAt : {V : Type 0} → Bits → Field V → Box → ℕ → Cell V → Type 0
IsCellAt bits f box index cell = (q : Coord) → IsTrue (is_inside box q) → offset bits Leaf q ≡ index → f.cell q ≡ cell
