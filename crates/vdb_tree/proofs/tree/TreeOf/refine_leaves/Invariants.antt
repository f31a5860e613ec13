use Rattle.vdb_tree.proofs.Common.{◌≡◌, ◌≤◌, ◌-◌, Leaf, Lower, entry_count, Child, KeepsUppers, bits_of, upper_entry}
use Rattle.vdb_tree.proofs.Refining.{RefinesTo}
use Rattle.vdb_tree.proofs.tree.TreeOf.refine_leaves.Given as goal

abbrev pub invariant-loop-offset : goal.invariant-loop-offset
invariant-loop-offset g l =
    let bits = bits_of g.row.U g.row.L g.row.F in
    record {
      within : l.from ≤ entry_count g.row.L;
      above : KeepsUppers l.fn.self l.self;
      node : upper_entry bits l.self l.fn.p ≡ Child l.fn.lower;
      so_far : RefinesTo bits l.fn.rule l.fn.other Lower Leaf l.fn.self l.self l.fn.p l.from;
    }

abbrev pub decreases-loop-offset : goal.decreases-loop-offset
decreases-loop-offset g l = entry_count g.row.L - l.from
