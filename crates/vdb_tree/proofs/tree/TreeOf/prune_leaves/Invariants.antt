use Rattle.vdb_tree.proofs.Common.{◌≡◌, ◌≤◌, ◌-◌, Leaf, Lower, entry_count, Child, KeepsUppers, PassesTo, bits_of, upper_entry}
use Rattle.vdb_tree.proofs.tree.TreeOf.prune_leaves.Given as goal

abbrev pub invariant-loop-next : goal.invariant-loop-next
invariant-loop-next g l =
    let bits = bits_of g.row.U g.row.L g.row.F in
    record {
      within : l.from ≤ entry_count g.row.L;
      above : KeepsUppers l.fn.self l.self;
      node : upper_entry bits l.self l.p ≡ Child l.lower;
      passes : PassesTo bits Lower Leaf l.fn.self l.self l.p 0 l.from;
    }

abbrev pub decreases-loop-next : goal.decreases-loop-next
decreases-loop-next g l = entry_count g.row.L - l.from
