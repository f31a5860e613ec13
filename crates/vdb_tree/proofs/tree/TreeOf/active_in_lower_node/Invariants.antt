use Rattle.vdb_tree.proofs.Common.{◌≤◌, ◌-◌, entries, Lower, bits_of, field_of, IsCountTo}
use Rattle.vdb_tree.proofs.ActiveCounts.{active_below}
use Rattle.vdb_tree.proofs.tree.TreeOf.active_in_lower_node.Given as goal

abbrev pub invariant-entries : goal.invariant-entries
invariant-entries g l =
    let bits = bits_of g.row.U g.row.L g.row.F in
    record {
      counted : IsCountTo l.enough (active_below (field_of bits l.self) bits Lower l.p l.from) l.total;
      within : l.from ≤ entries bits Lower;
    }

abbrev pub decreases-entries : goal.decreases-entries
decreases-entries g l = entries (bits_of g.row.U g.row.L g.row.F) Lower - l.from
