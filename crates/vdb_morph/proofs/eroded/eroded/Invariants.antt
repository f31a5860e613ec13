use Rattle.vdb_morph.proofs.Common.{◌≡◌, vdb, everywhere, field_of, IsWalk, left_count, Inactive}
use Rattle.vdb_morph.proofs.Eroding.{IsUnderway}
use Rattle.vdb_morph.proofs.eroded.eroded.Given as goal

abbrev pub invariant-parts : goal.invariant-parts
invariant-parts g l =
    record {
      walk : IsWalk vdb l.tree l.walk;
      skip : l.walk.skip ≡ Inactive;
      box : l.walk.box ≡ everywhere;
      underway : IsUnderway vdb l.tree (field_of vdb l.states) l.walk.at;
    }

abbrev pub decreases-parts : goal.decreases-parts
decreases-parts g l = left_count vdb l.walk.at
