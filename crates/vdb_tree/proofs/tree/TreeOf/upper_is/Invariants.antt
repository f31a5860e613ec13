use Rattle.vdb_tree.proofs.Common.{◌≤◌, ◌-◌, entries, Upper, bits_of}
use Rattle.vdb_tree.proofs.BlockTests.{IsConstantBelow}
use Rattle.vdb_tree.proofs.tree.TreeOf.upper_is.Given as goal

abbrev pub invariant-loop-index : goal.invariant-loop-index
invariant-loop-index g l =
    let bits = bits_of g.row.U g.row.L g.row.F in
    record {
      below : IsConstantBelow bits l.self Upper l.p l.cell l.from;
      within : l.from ≤ entries bits Upper;
    }

abbrev pub decreases-loop-index : goal.decreases-loop-index
decreases-loop-index g l = entries (bits_of g.row.U g.row.L g.row.F) Upper - l.from
