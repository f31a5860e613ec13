-- The block of a pair, in what each of the two trees has around it.
use Rattle.std.specs.Prelude.{◌≡◌, IsTrue}
use Rattle.vdb_coord.specs.Blocks.{block_around, block_number}
use Rattle.vdb_coord.specs.Space.{Box, everywhere, is_inside}
use Rattle.vdb_coord.specs.declared.Bits.{Bits}
use Rattle.vdb_coord.specs.declared.Coord.{Coord}
use Rattle.vdb_coord.specs.declared.Level.TheVariants.{Leaf}
use Rattle.vdb_tree.specs.Layout.{Layout}
use Rattle.vdb_tree.specs.Parts.{IsEnd, end_level}
use Rattle.vdb_tree.specs.declared.queries.ends.End.{End}

-- the descent to p has this end, a tile or a leaf over the box; for a leaf the box is its block
pub record IsOver {V : Type 0} (bits : Bits) (t : Layout V) (p : Coord) (end : End V) (box : Box) : Type 0 where
  pub ends : IsEnd bits t p end
  pub within : (q : Coord) → IsTrue (is_inside box q) → IsTrue (is_inside everywhere q) × (block_number bits (end_level bits t p) q ≡ block_number bits (end_level bits t p) p)
  pub leaf_block : end_level bits t p ≡ Leaf → box ≡ block_around bits Leaf box.min
