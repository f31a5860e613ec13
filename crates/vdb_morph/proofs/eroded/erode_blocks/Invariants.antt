use Rattle.vdb_morph.proofs.Common.{vdb, field_of, left_count, Erodes}
use Rattle.vdb_morph.proofs.Eroding.{IsDoneTo}
use Rattle.vdb_morph.proofs.eroded.erode_blocks.Given as goal

abbrev pub invariant-coords : goal.invariant-coords
invariant-coords g l =
    record {
      done : IsDoneTo (field_of vdb l.tree) vdb l.bounds (field_of vdb l.states) l.at;
      erodes : Erodes (field_of vdb l.tree) (field_of vdb l.fn.states) (field_of vdb l.states);
    }

abbrev pub decreases-coords : goal.decreases-coords
decreases-coords g l = left_count vdb l.at
