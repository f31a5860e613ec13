-- The pieces of a tree one after another.
use Rattle.std.specs.Prelude.{◌≡◌, false, Option, Some, None, IsSome, IsTrue}
use Rattle.std.specs.Ordering.{is_lt}
use Rattle.vdb_coord.specs.Blocks.{block_cmp, is_past, key}
use Rattle.vdb_coord.specs.Space.{everywhere, is_inside}
use Rattle.vdb_coord.specs.declared.Bits.{Bits}
use Rattle.vdb_coord.specs.declared.Coord.{Coord}
use Rattle.vdb_tree.specs.Layout.{Layout, field_of, root_at}
use Rattle.vdb_tree.specs.Pieces.{piece_around}
use Rattle.vdb_tree.specs.declared.queries.pieces.Piece.{Piece}

-- The state of a passage through a tree's pieces.
pub record Passage (V : Type 0) : Type 0 where
  pub tree : Layout V
  -- the last coordinate, in block order, of the piece that was yielded last
  pub last : Option Coord

module _ {V : Type 0} (bits : Bits) where
  -- p lies in a root block that has an entry, and comes past all pieces that were yielded
  pub record IsAhead (passage : Passage V) (p : Coord) : Type 0 where
    pub inside : IsTrue (is_inside everywhere p)
    pub entry : IsSome (root_at passage.tree.root (key bits p))
    pub past : IsTrue (is_past bits passage.last p)

  -- the tree's piece around the first coordinate ahead, or none if none is ahead
  abbrev pub IsNextPiece : Passage V → Option (Piece V) → Type 0
  IsNextPiece passage None = (p : Coord) → IsAhead passage p → ⊥
  IsNextPiece passage (Some piece) =
      IsAhead passage piece.bounds.min
      × ((p : Coord) → IsAhead passage p → is_lt (block_cmp bits p piece.bounds.min) ≡ false)
      × (piece.bounds ≡ piece_around bits passage.tree piece.bounds.min)
      × ((p : Coord) → IsTrue (is_inside piece.bounds p) → (field_of bits passage.tree).cell p ≡ piece.cell)
