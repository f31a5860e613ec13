use Rattle.vdb_tree.proofs.Common.{◌≡◌, ◌≤◌, ◌-◌, entries, Lower, Child, KeepsUppers, bits_of, upper_entry, IsRefinedFor, SetsRun}
use Rattle.vdb_tree.proofs.tree.TreeOf.set_lower_states.Given as goal

abbrev pub invariant-loop-next : goal.invariant-loop-next
invariant-loop-next g l =
    let bits = bits_of g.row.U g.row.L g.row.F in
    record {
      within : l.from ≤ entries bits Lower;
      above : KeepsUppers l.fn.self l.self;
      node : upper_entry bits l.self l.p ≡ Child l.lower;
      refined : IsRefinedFor bits l.rule l.self l.other;
      run : SetsRun bits l.rule l.other Lower l.fn.self l.self l.p 0 l.from;
    }

abbrev pub decreases-loop-next : goal.decreases-loop-next
decreases-loop-next g l = entries (bits_of g.row.U g.row.L g.row.F) Lower - l.from
