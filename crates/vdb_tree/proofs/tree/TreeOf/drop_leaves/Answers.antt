use Rattle.vdb_tree.proofs.Common.{◌∙◌, Lower, bits_of, lower_entry}
use Rattle.vdb_tree.proofs.Clears.{beyond_twice, clears_all}
use Rattle.vdb_tree.proofs.Passes.{upper_entry_same, uppers_trans}
use Rattle.vdb_tree.proofs.tree.TreeOf.drop_leaves.Goals as goal

pub loop-next-preserved : goal.loop-next-preserved
loop-next-preserved g c =
    let bits = bits_of g.row.U g.row.L g.row.F in
    let mid = c.loop-next.self in
    let new = c.drop_next_leaf.new.self in
    let made = c.in-Some.ensures in
    record {
      within = made.further.1;
      above = uppers_trans c.args.self.now mid new c.loop-next.invariant.above made.above;
      node = upper_entry_same bits mid new made.above c.args.p ∙ c.loop-next.invariant.node;
      beyond = beyond_twice bits Lower c.args.self.now mid new c.args.p c.loop-next.invariant.beyond made.beyond;
      cleared = made.clears c.loop-next.invariant.cleared;
    }

pub returns-clause-beyond : goal.returns-clause-beyond
returns-clause-beyond g c =
    beyond_twice (bits_of g.row.U g.row.L g.row.F) Lower c.args.self.now c.loop-next.self c.drop_next_leaf.new.self c.args.p c.loop-next.invariant.beyond c.in_default.ensures.beyond

pub returns-clause-childless : goal.returns-clause-childless
returns-clause-childless g c =
    let bits = bits_of g.row.U g.row.L g.row.F in
    clears_all bits Lower c.args.p (lower_entry bits c.drop_next_leaf.new.self) (c.in_default.ensures.clears c.loop-next.invariant.cleared)
