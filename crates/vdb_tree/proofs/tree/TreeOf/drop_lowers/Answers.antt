use Rattle.vdb_tree.proofs.Common.{◌∙◌, Upper, bits_of, upper_entry}
use Rattle.vdb_tree.proofs.Clears.{beyond_twice, clears_all}
use Rattle.vdb_tree.proofs.Passes.{root_entry_same}
use Rattle.vdb_tree.proofs.tree.TreeOf.drop_lowers.Goals as goal

pub loop-next-preserved : goal.loop-next-preserved
loop-next-preserved g c =
    let bits = bits_of g.row.U g.row.L g.row.F in
    let mid = c.loop-next.self in
    let new = c.drop_next_lower.new.self in
    let made = c.in-Some.ensures in
    record {
      within = made.further.1;
      above = made.root ∙ c.loop-next.invariant.above;
      node = root_entry_same bits mid new made.beyond.head made.root c.args.p ∙ c.loop-next.invariant.node;
      beyond = beyond_twice bits Upper c.args.self.now mid new c.args.p c.loop-next.invariant.beyond made.beyond;
      cleared = made.clears c.loop-next.invariant.cleared;
    }

pub returns-clause-beyond : goal.returns-clause-beyond
returns-clause-beyond g c =
    beyond_twice (bits_of g.row.U g.row.L g.row.F) Upper c.args.self.now c.loop-next.self c.drop_next_lower.new.self c.args.p c.loop-next.invariant.beyond c.in_default.ensures.beyond

pub returns-clause-childless : goal.returns-clause-childless
returns-clause-childless g c =
    let bits = bits_of g.row.U g.row.L g.row.F in
    clears_all bits Upper c.args.p (upper_entry bits c.drop_next_lower.new.self) (c.in_default.ensures.clears c.loop-next.invariant.cleared)
