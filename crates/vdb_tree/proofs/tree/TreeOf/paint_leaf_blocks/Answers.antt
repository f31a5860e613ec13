use Rattle.vdb_tree.proofs.Common.{◌∙◌, block_number, Leaf, Lower, both, lower_from_leaf, bits_of}
use Rattle.vdb_tree.proofs.Descents.{upper_by_block}
use Rattle.vdb_tree.proofs.Paints.{PaintsTo, paint_all, paint_next, paint_none, paint_outside}
use Rattle.vdb_tree.proofs.Passes.{upper_entry_same, uppers_same, uppers_trans}
use Rattle.vdb_tree.proofs.tree.TreeOf.paint_leaf_blocks.Goals as goal

pub loop-next-init : goal.loop-next-init
loop-next-init g c =
    let bits = bits_of g.row.U g.row.L g.row.F in
    let part = c.part-part.result in
    let n = block_number bits Lower c.args.p in
    let within = c.part-part.ensures.within in
    let first : PaintsTo bits c.args.bounds c.args.cell Lower Leaf part c.args.self.now c.args.self.now n c.min-q.result =
    rw c.min-q.ensures.corner
    (paint_none bits c.args.bounds c.args.cell Lower Leaf part n (lower_from_leaf bits) within c.part-part.ensures.all c.args.self.now c.requires.edges (both _ _ c.min-q.ensures.bounds).0) in
    let at = within c.min-q.result first.inside in
    (first, uppers_same c.args.self.now, at.0, upper_by_block bits c.args.self.now c.min-q.result c.args.p at.1 ∙ c.requires.lower, c.requires.edges)

pub loop-next-preserved : goal.loop-next-preserved
loop-next-preserved g c =
    let bits = bits_of g.row.U g.row.L g.row.F in
    let next = c.in-Some.next in
    let new = c.paint_leaf_block.new.self in
    let within = c.part-part.ensures.within in
    let above = uppers_trans c.args.self.now c.loop-next.self new c.loop-next.invariant.1 c.paint_leaf_block.ensures.above in
    let on = paint_next bits c.args.bounds c.args.cell Lower Leaf c.part-part.result (block_number bits Lower c.args.p) (lower_from_leaf bits) within c.part-part.ensures.all c.args.self.now c.loop-next.self new c.loop-next.q
    c.loop-next.invariant.0 c.paint_leaf_block.ensures.outside c.paint_leaf_block.ensures.painted next c.in-Some.ensures.next in
    let at = within next on.inside in
    (on, above, at.0, upper_entry_same bits c.args.self.now new above next ∙ upper_by_block bits c.args.self.now next c.args.p at.1 ∙ c.requires.lower, on.edges)

pub returns-in-None-clause-outside : goal.returns-in-None-clause-outside
returns-in-None-clause-outside g c =
    let bits = bits_of g.row.U g.row.L g.row.F in
    paint_outside bits c.args.bounds c.args.cell Lower Leaf c.part-part.result (block_number bits Lower c.args.p) (lower_from_leaf bits) c.part-part.ensures.within c.part-part.ensures.all c.args.self.now c.loop-next.self
    c.paint_leaf_block.new.self c.loop-next.q c.loop-next.invariant.0 c.paint_leaf_block.ensures.outside c.paint_leaf_block.ensures.painted

pub returns-in-None-clause-painted : goal.returns-in-None-clause-painted
returns-in-None-clause-painted g c =
    let bits = bits_of g.row.U g.row.L g.row.F in
    paint_all bits c.args.bounds c.args.cell Lower Leaf c.part-part.result (block_number bits Lower c.args.p) (lower_from_leaf bits) c.part-part.ensures.within c.part-part.ensures.all c.args.self.now c.loop-next.self
    c.paint_leaf_block.new.self c.loop-next.q c.loop-next.invariant.0 c.paint_leaf_block.ensures.outside c.paint_leaf_block.ensures.painted c.in-None.ensures.next
