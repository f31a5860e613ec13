use Rattle.vdb_walk.proofs.Common.{◌≡◌, ◌+◌, bits_of, field_of, IsWalk, left_count, count, Inactive}
use Rattle.vdb_walk.proofs.PartCounts.{active_left}
use Rattle.vdb_walk.proofs.active_count.count_in.Given as goal

abbrev pub invariant-parts : goal.invariant-parts
invariant-parts g l =
    let bits = bits_of g.row.U g.row.L g.row.F in
    record {
      walk : IsWalk bits l.tree l.walk;
      skip : l.walk.skip ≡ Inactive;
      box : l.walk.box ≡ l.fn.bounds;
      counted : l.total + active_left bits l.tree l.walk.at l.fn.bounds ≡ count (field_of bits l.tree) l.fn.bounds;
    }

abbrev pub decreases-parts : goal.decreases-parts
decreases-parts g l = left_count (bits_of g.row.U g.row.L g.row.F) l.walk.at
