use Rattle.vdb_tree.proofs.Common.{◌<◌, ◌≤◌, ◌∙◌, ℕ, arith, bits_of}
use Rattle.vdb_tree.proofs.Passes.{upper_entry_same, uppers_same, uppers_trans}
use Rattle.vdb_tree.proofs.StateRuns.{refined_kept, run_all, run_join, run_none}
use Rattle.vdb_tree.proofs.tree.TreeOf.set_lower_states.Goals as goal

least : (n : ℕ) → 0 ≤ n
least n = omega arith

pub loop-next-init : goal.loop-next-init
loop-next-init g c = record {
  within = least _;
  above = uppers_same c.args.self.now;
  node = c.requires.node;
  refined = c.requires.refined;
  run = run_none (bits_of g.row.U g.row.L g.row.F) c.args.rule c.args.other.now c.args.p c.args.self.now 0;
}

pub loop-next-preserved : goal.loop-next-preserved
loop-next-preserved g c =
    let bits = bits_of g.row.U g.row.L g.row.F in
    let mid = c.loop-next.self in
    let new = c.set_next_states.new.self in
    let done = c.loop-next.invariant in
    let made = c.in-Some.ensures in
    record {
      within = made.further.1;
      above = uppers_trans c.args.self.now mid new done.above made.above;
      node = upper_entry_same bits mid new made.above c.args.p ∙ done.node;
      refined = refined_kept bits c.args.rule c.args.other.now mid new done.refined made.sets.tiles made.sets.keys;
      run = run_join bits c.args.rule c.args.other.now c.args.p c.args.self.now mid new 0 c.loop-next.from c.in-Some.next (least c.loop-next.from) (lt_le made.further.0) done.run made.sets;
    }
  where
    lt_le : {a b : ℕ} → a < b → a ≤ b
    lt_le h = omega (arith, h)

pub returns-clause-sets : goal.returns-clause-sets
returns-clause-sets g c =
    let bits = bits_of g.row.U g.row.L g.row.F in
    let done = c.loop-next.invariant in
    run_all bits c.args.rule c.args.other.now c.args.p c.args.self.now c.set_next_states.new.self
    (run_join bits c.args.rule c.args.other.now c.args.p c.args.self.now c.loop-next.self c.set_next_states.new.self 0 c.loop-next.from _ (least c.loop-next.from) done.within done.run c.in_default.ensures.sets)

pub returns-clause-above : goal.returns-clause-above
returns-clause-above g c = uppers_trans c.args.self.now c.loop-next.self c.set_next_states.new.self c.loop-next.invariant.above c.in_default.ensures.above
