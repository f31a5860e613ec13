-- How far a box holds what follows a coordinate in block order. Only private functions and proofs use these definitions.
use Rattle.std.specs.Prelude.{IsTrue}
use Rattle.vdb_coord.specs.Blocks.{block_around}
use Rattle.vdb_coord.specs.Order.{ComesBefore, IsUpToBlock}
use Rattle.vdb_coord.specs.Space.{Box, everywhere, is_inside}
use Rattle.vdb_coord.specs.declared.Bits.{Bits}
use Rattle.vdb_coord.specs.declared.Coord.{Coord}
use Rattle.vdb_coord.specs.declared.Level.{Level}
use Rattle.vdb_coord.specs.declared.Level.TheVariants.{Leaf, Lower, Upper}

-- the node of which the level's block around p is an entry; all coordinates for an upper extent
abbrev pub node_of : Bits → Level → Coord → Box
node_of bits Leaf p = block_around bits Lower p
node_of bits Lower p = block_around bits Upper p
node_of bits Upper p = everywhere

module _ (bits : Bits) (box : Box) where
  -- the box holds everything from p on, up to the level's block around `last`
  abbrev pub IsCoveredUpTo : Level → Coord → Coord → Type 0
  IsCoveredUpTo level p last = (q : Coord) → IsTrue (is_inside everywhere q) → (ComesBefore bits q p → ⊥) → IsUpToBlock bits level last q → IsTrue (is_inside box q)

  -- the box holds everything from p on that comes before `next`
  abbrev pub IsCoveredTo : Coord → Coord → Type 0
  IsCoveredTo p next = (q : Coord) → IsTrue (is_inside everywhere q) → (ComesBefore bits q p → ⊥) → ComesBefore bits q next → IsTrue (is_inside box q)
