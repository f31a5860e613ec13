use Rattle.vdb_walk.proofs.Common.{bits_of, IsWalk, left_count}
use Rattle.vdb_walk.proofs.PartCells.{IsGone}
use Rattle.vdb_walk.proofs.uniform_box.rest_is.Given as goal

abbrev pub invariant-parts : goal.invariant-parts
invariant-parts g l =
    let bits = bits_of g.row.U g.row.L g.row.F in
    record {
      walk : IsWalk bits l.tree l.walk;
      gone : IsGone bits l.tree l.fn.walk.box l.cell l.fn.walk.skip l.walk;
    }

abbrev pub decreases-parts : goal.decreases-parts
decreases-parts g l = left_count (bits_of g.row.U g.row.L g.row.F) l.walk.at
