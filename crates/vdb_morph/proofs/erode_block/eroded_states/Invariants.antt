use Rattle.vdb_morph.proofs.Common.{◌≡◌, IsTrue, take, offset, vdb, faces, everywhere, is_inside, Coord, Leaf, is_on, field_of, is_around}
use Rattle.vdb_morph.proofs.ErodedBlocks.{stays_by}
use Rattle.vdb_morph.proofs.erode_block.eroded_states.Given as goal

abbrev pub invariant-loop-face : goal.invariant-loop-face
invariant-loop-face g l =
    (q : Coord) → IsTrue (is_inside everywhere q) → IsTrue (is_around vdb l.p q) → is_on l.left (offset vdb Leaf q) ≡ stays_by (field_of vdb l.tree) (take l.face-index faces) q
