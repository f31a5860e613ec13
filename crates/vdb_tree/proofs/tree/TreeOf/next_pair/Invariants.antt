use Rattle.vdb_tree.proofs.Common.{◌≤◌, false, bits_of, IsPairWalk, PassesPairs, left_count}
use Rattle.vdb_tree.proofs.tree.TreeOf.next_pair.Given as goal

abbrev pub invariant-starts : goal.invariant-starts
invariant-starts g l =
    let bits = bits_of g.row.U g.row.L g.row.F in
    record {
      walk : IsPairWalk bits l.self l.other l.walk;
      passes : PassesPairs bits l.self l.other l.initial.walk l.walk (λ q. false);
      few : left_count bits l.walk.at ≤ left_count bits l.initial.walk.at;
    }

abbrev pub decreases-starts : goal.decreases-starts
decreases-starts g l = left_count (bits_of g.row.U g.row.L g.row.F) l.walk.at
