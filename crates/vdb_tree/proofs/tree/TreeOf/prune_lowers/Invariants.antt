use Rattle.vdb_tree.proofs.Common.{◌≡◌, ◌≤◌, ◌-◌, Lower, Upper, entry_count, Child, PassesTo, bits_of, root_entry}
use Rattle.vdb_tree.proofs.tree.TreeOf.prune_lowers.Given as goal

abbrev pub invariant-loop-next : goal.invariant-loop-next
invariant-loop-next g l =
    let bits = bits_of g.row.U g.row.L g.row.F in
    record {
      within : l.from ≤ entry_count g.row.U;
      above : l.self.root ≡ l.fn.self.root;
      node : root_entry bits l.self l.p ≡ Child l.upper;
      passes : PassesTo bits Upper Lower l.fn.self l.self l.p 0 l.from;
    }

abbrev pub decreases-loop-next : goal.decreases-loop-next
decreases-loop-next g l = entry_count g.row.U - l.from
