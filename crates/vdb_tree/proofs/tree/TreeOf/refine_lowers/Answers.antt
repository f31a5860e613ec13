use Rattle.vdb_tree.proofs.Common.{◌≤◌, ◌∙◌, ℕ, arith, refl, Lower, Upper, entries_is, bits_of}
use Rattle.vdb_tree.proofs.Clears.{after}
use Rattle.vdb_tree.proofs.Passes.{root_entry_same}
use Rattle.vdb_tree.proofs.Refining.{nearer, refines_twice, to_end, to_next, to_none}
use Rattle.vdb_tree.proofs.tree.TreeOf.refine_lowers.Goals as goal

least : (n : ℕ) → 0 ≤ n
least n = omega arith

pub loop-offset-init : goal.loop-offset-init
loop-offset-init g c =
    record { within = least _; above = refl; node = c.requires.node; so_far = to_none (bits_of g.row.U g.row.L g.row.F) c.args.rule c.args.other.now Upper Lower c.args.p c.args.self.now }

pub loop-offset-smaller : goal.loop-offset-smaller
loop-offset-smaller g c =
    let next = c.in-Some.ensures.corner in
    nearer c.loop-offset.from c.in-Some.offset _ next.from_on (rw (entries_is (bits_of g.row.U g.row.L g.row.F) Upper) at next.within)

pub loop-offset-preserved : goal.loop-offset-preserved
loop-offset-preserved g c =
    let bits = bits_of g.row.U g.row.L g.row.F in
    let mid = c.loop-offset.self in
    let new = c.refine_lower_block.new.self in
    let next = c.in-Some.ensures.corner in
    let call = c.in_ok-refine_lower_block.ensures in
    record {
      within = (after c.loop-offset.from c.in-Some.offset _ next.from_on (rw (entries_is bits Upper) at next.within)).1;
      above = call.root ∙ c.loop-offset.invariant.above;
      node = root_entry_same bits mid new call.refines.keeps.head call.root c.args.p ∙ c.loop-offset.invariant.node;
      so_far = to_next bits c.args.rule c.args.other.now Upper Lower c.args.p c.args.self.now mid new c.loop-offset.from c.in-Some.offset c.in-Some.corner c.loop-offset.invariant.so_far next call.refines call.refined;
    }

pub returns-in_err-refine_lower_block-clause-refines : goal.returns-in_err-refine_lower_block-clause-refines
returns-in_err-refine_lower_block-clause-refines g c =
    refines_twice (bits_of g.row.U g.row.L g.row.F) c.args.rule c.args.other.now c.args.self.now c.loop-offset.self c.refine_lower_block.new.self c.loop-offset.invariant.so_far.refines c.in_err-refine_lower_block.ensures.refines

pub returns-in_err-refine_lower_block-clause-root : goal.returns-in_err-refine_lower_block-clause-root
returns-in_err-refine_lower_block-clause-root g c = c.in_err-refine_lower_block.ensures.root ∙ c.loop-offset.invariant.above

pub returns-clause-refined : goal.returns-clause-refined
returns-clause-refined g c =
    to_end (bits_of g.row.U g.row.L g.row.F) c.args.rule c.args.other.now Upper Lower c.args.p c.args.self.now c.loop-offset.self c.loop-offset.from c.loop-offset.invariant.so_far c.in_default.ensures.corner
