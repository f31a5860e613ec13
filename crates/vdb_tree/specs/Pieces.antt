-- The blocks of one cell that make up a tree.
use Rattle.vdb_coord.specs.Blocks.{block_around}
use Rattle.vdb_coord.specs.Space.{Box}
use Rattle.vdb_coord.specs.declared.Bits.{Bits}
use Rattle.vdb_coord.specs.declared.Coord.{Coord}
use Rattle.vdb_coord.specs.declared.Level.TheVariants.{Leaf, Lower, Upper}
use Rattle.vdb_node.specs.declared.Entry.{Entry}
use Rattle.vdb_node.specs.declared.Entry.TheVariants.{Child, Tile}
use Rattle.vdb_tree.specs.Layout.{Layout, lower_entry, root_entry, upper_entry}

-- the first box for a tile, the second for a child
abbrev pub box_of_entry : {V : Type 0} → Entry V → Box → Box → Box
box_of_entry (Tile cell) tile child = tile
box_of_entry (Child slot) tile child = child

-- the box in which the descent to p ends: a tile, a voxel, or the upper extent if the table has no entry
abbrev pub piece_around : {V : Type 0} → Bits → Layout V → Coord → Box
piece_around bits t p =
    box_of_entry (root_entry bits t p) (block_around bits Upper p)
    (box_of_entry (upper_entry bits t p) (block_around bits Lower p)
    (box_of_entry (lower_entry bits t p) (block_around bits Leaf p) (record { min = p; max = p })))
