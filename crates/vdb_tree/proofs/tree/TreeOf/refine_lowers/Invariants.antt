use Rattle.vdb_tree.proofs.Common.{◌≡◌, ◌≤◌, ◌-◌, Lower, Upper, entry_count, Child, bits_of, root_entry}
use Rattle.vdb_tree.proofs.Refining.{RefinesTo}
use Rattle.vdb_tree.proofs.tree.TreeOf.refine_lowers.Given as goal

abbrev pub invariant-loop-offset : goal.invariant-loop-offset
invariant-loop-offset g l =
    let bits = bits_of g.row.U g.row.L g.row.F in
    record {
      within : l.from ≤ entry_count g.row.U;
      above : l.self.root ≡ l.fn.self.root;
      node : root_entry bits l.self l.fn.p ≡ Child l.fn.upper;
      so_far : RefinesTo bits l.fn.rule l.fn.other Upper Lower l.fn.self l.self l.fn.p l.from;
    }

abbrev pub decreases-loop-offset : goal.decreases-loop-offset
decreases-loop-offset g l = entry_count g.row.U - l.from
