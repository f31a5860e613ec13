use Rattle.vdb_morph.proofs.Common.{vdb, field_of, Erodes}
use Rattle.vdb_morph.proofs.Settling.{AreSettled}
use Rattle.vdb_morph.proofs.eroded.erode_box.Given as goal

abbrev pub invariant-loop-face : goal.invariant-loop-face
invariant-loop-face g l =
    record {
      settled : AreSettled (field_of vdb l.tree) l.bounds (field_of vdb l.states) l.face-index;
      erodes : Erodes (field_of vdb l.tree) (field_of vdb l.fn.states) (field_of vdb l.states);
    }
