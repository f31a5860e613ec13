-- How the walk finds the next leaf: the first of the leaves of a lower node, of an upper node and of the table, each from some
-- offset or key on. Only the calls of this crate speak of it.
use Rattle.std.specs.Prelude.{◌≡◌, ℕ, ◌≤◌, false, Option, Some, None, IsTrue}
use Rattle.std.specs.Ordering.{is_lt}
use Rattle.vdb_coord.specs.Blocks.{block_cmp, block_number, key, offset}
use Rattle.vdb_coord.specs.Space.{everywhere, is_inside}
use Rattle.vdb_coord.specs.declared.Bits.{Bits}
use Rattle.vdb_coord.specs.declared.Coord.{Coord}
use Rattle.vdb_coord.specs.declared.Level.{Level}
use Rattle.vdb_coord.specs.declared.Level.TheVariants.{Leaf, Upper}
use Rattle.vdb_tree.specs.Layout.{Layout, upper_entry}
use Rattle.vdb_tree.specs.Paths.{in_leaf, is_child}
use Rattle.vdb_tree.specs.Table.{IsPast}

module _ (bits : Bits) where
  -- q lies in p's block of the level, at an entry from this index on
  pub record IsFrom (level : Level) (p : Coord) (from : ℕ) (q : Coord) : Type 0 where
    pub block : block_number bits level q ≡ block_number bits level p
    pub from_on : from ≤ offset bits level q

  -- q's key comes past this one
  abbrev pub IsKeyPast : Option Coord → Coord → Type 0
  IsKeyPast after q = IsPast after (key bits q)

  module _ {V : Type 0} (t : Layout V) where
    -- the first coordinate of a leaf
    pub record IsLeafCorner (p : Coord) : Type 0 where
      pub inside : IsTrue (is_inside everywhere p)
      pub first : offset bits Leaf p ≡ 0
      pub leaf : IsTrue (in_leaf bits t p)

    -- the first leaf that begins at one of these coordinates, if there is one
    abbrev pub IsFirstLeaf : (Coord → Type 0) → Option Coord → Type 0
    IsFirstLeaf Here (Some p) = IsLeafCorner p × Here p × ((q : Coord) → IsLeafCorner q → Here q → is_lt (block_cmp bits q p) ≡ false)
    IsFirstLeaf Here None = (q : Coord) → IsLeafCorner q → Here q → ⊥

    -- a coordinate of the first lower node in p's upper extent from an index on, if there is one
    abbrev pub IsNextLower : Coord → ℕ → Option Coord → Type 0
    IsNextLower p from (Some c) =
        IsTrue (is_inside everywhere c) × IsFrom Upper p from c
        × ((q : Coord) → IsFrom Upper p from q → IsTrue (is_child (upper_entry bits t q)) → offset bits Upper c ≤ offset bits Upper q)
    IsNextLower p from None = (q : Coord) → IsFrom Upper p from q → IsTrue (is_child (upper_entry bits t q)) → ⊥
