use Rattle.vdb_tree.proofs.Common.{◌≤◌, ◌∙◌, ℕ, arith, sym, Leaf, Lower, entries_is, bits_of}
use Rattle.vdb_tree.proofs.Clears.{after}
use Rattle.vdb_tree.proofs.Descents.{lower_by_block}
use Rattle.vdb_tree.proofs.Passes.{upper_entry_same, uppers_same, uppers_trans}
use Rattle.vdb_tree.proofs.Refining.{nearer, refines_node, refines_twice, to_end, to_next, to_none}
use Rattle.vdb_tree.proofs.tree.TreeOf.refine_leaves.Goals as goal

least : (n : ℕ) → 0 ≤ n
least n = omega arith

pub loop-offset-init : goal.loop-offset-init
loop-offset-init g c =
    record { within = least _; above = uppers_same c.args.self.now; node = c.requires.node; so_far = to_none (bits_of g.row.U g.row.L g.row.F) c.args.rule c.args.other.now Lower Leaf c.args.p c.args.self.now }

pub loop-offset-smaller : goal.loop-offset-smaller
loop-offset-smaller g c =
    let next = c.in-Some.ensures.corner in
    nearer c.loop-offset.from c.in-Some.offset _ next.from_on (rw (entries_is (bits_of g.row.U g.row.L g.row.F) Lower) at next.within)

pub loop-offset-preserved : goal.loop-offset-preserved
loop-offset-preserved g c =
    let bits = bits_of g.row.U g.row.L g.row.F in
    let mid = c.loop-offset.self in
    let new = c.refine_leaf_block.new.self in
    let next = c.in-Some.ensures.corner in
    let call = c.in_ok-refine_leaf_block.ensures in
    record {
      within = (after c.loop-offset.from c.in-Some.offset _ next.from_on (rw (entries_is bits Lower) at next.within)).1;
      above = uppers_trans c.args.self.now mid new c.loop-offset.invariant.above call.above;
      node = upper_entry_same bits mid new call.above c.args.p ∙ c.loop-offset.invariant.node;
      so_far = to_next bits c.args.rule c.args.other.now Lower Leaf c.args.p c.args.self.now mid new c.loop-offset.from c.in-Some.offset c.in-Some.corner c.loop-offset.invariant.so_far next
          (refines_node bits c.args.rule c.args.other.now Leaf mid new c.in-Some.corner next.child.0 call.makes next.child.1) (λ q e tile slot at _. call.refined tile (lower_by_block bits new c.in-Some.corner q (sym e) ∙ at));
    }

pub returns-in_err-refine_leaf_block-clause-refines : goal.returns-in_err-refine_leaf_block-clause-refines
returns-in_err-refine_leaf_block-clause-refines g c =
    let bits = bits_of g.row.U g.row.L g.row.F in
    let next = c.in-Some.ensures.corner in
    refines_twice bits c.args.rule c.args.other.now c.args.self.now c.loop-offset.self c.refine_leaf_block.new.self c.loop-offset.invariant.so_far.refines
    (refines_node bits c.args.rule c.args.other.now Leaf c.loop-offset.self c.refine_leaf_block.new.self c.in-Some.corner next.child.0 c.in_err-refine_leaf_block.ensures.makes next.child.1)

pub returns-in_err-refine_leaf_block-clause-above : goal.returns-in_err-refine_leaf_block-clause-above
returns-in_err-refine_leaf_block-clause-above g c =
    uppers_trans c.args.self.now c.loop-offset.self c.refine_leaf_block.new.self c.loop-offset.invariant.above c.in_err-refine_leaf_block.ensures.above

pub returns-clause-refined : goal.returns-clause-refined
returns-clause-refined g c =
    to_end (bits_of g.row.U g.row.L g.row.F) c.args.rule c.args.other.now Lower Leaf c.args.p c.args.self.now c.loop-offset.self c.loop-offset.from c.loop-offset.invariant.so_far c.in_default.ensures.corner
