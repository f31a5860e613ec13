use Rattle.vdb_tree.proofs.Common.{◌≡◌, ◌≤◌, ◌-◌, Upper, entry_count, Child, bits_of, root_entry, IsRefinedFor, IsAmong, SetsWithin}
use Rattle.vdb_tree.proofs.tree.TreeOf.set_upper_states.Given as goal

abbrev pub invariant-loop-next : goal.invariant-loop-next
invariant-loop-next g l =
    let bits = bits_of g.row.U g.row.L g.row.F in
    record {
      within : l.from ≤ entry_count g.row.U;
      above : l.self.root ≡ l.fn.self.root;
      node : root_entry bits l.self l.p ≡ Child l.upper;
      refined : IsRefinedFor bits l.rule l.self l.other;
      sets : SetsWithin bits l.rule l.other (IsAmong bits Upper l.p 0 l.from) l.fn.self l.self;
    }

abbrev pub decreases-loop-next : goal.decreases-loop-next
decreases-loop-next g l = entry_count g.row.U - l.from
