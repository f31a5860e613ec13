use Rattle.vdb_tree.proofs.Common.{◌∙◌, refl, block_number, Lower, Upper, both, upper_from_lower, bits_of}
use Rattle.vdb_tree.proofs.Descents.{root_by_block}
use Rattle.vdb_tree.proofs.Paints.{PaintsTo, paint_all, paint_next, paint_none, paint_outside}
use Rattle.vdb_tree.proofs.Passes.{root_entry_same}
use Rattle.vdb_tree.proofs.tree.TreeOf.paint_lower_blocks.Goals as goal

pub loop-next-init : goal.loop-next-init
loop-next-init g c =
    let bits = bits_of g.row.U g.row.L g.row.F in
    let part = c.part-part.result in
    let n = block_number bits Upper c.args.p in
    let within = c.part-part.ensures.within in
    let first : PaintsTo bits c.args.bounds c.args.cell Upper Lower part c.args.self.now c.args.self.now n c.min-q.result =
    rw c.min-q.ensures.corner
    (paint_none bits c.args.bounds c.args.cell Upper Lower part n (upper_from_lower bits) within c.part-part.ensures.all c.args.self.now c.requires.edges (both _ _ c.min-q.ensures.bounds).0) in
    let at = within c.min-q.result first.inside in
    (first, refl, at.0, root_by_block bits c.args.self.now c.min-q.result c.args.p at.1 ∙ c.requires.upper, c.requires.edges)

pub loop-next-preserved : goal.loop-next-preserved
loop-next-preserved g c =
    let bits = bits_of g.row.U g.row.L g.row.F in
    let next = c.in-Some.next in
    let new = c.paint_lower_block.new.self in
    let within = c.part-part.ensures.within in
    let root = c.paint_lower_block.ensures.root ∙ c.loop-next.invariant.1 in
    let on = paint_next bits c.args.bounds c.args.cell Upper Lower c.part-part.result (block_number bits Upper c.args.p) (upper_from_lower bits) within c.part-part.ensures.all c.args.self.now c.loop-next.self new c.loop-next.q
    c.loop-next.invariant.0 c.paint_lower_block.ensures.outside c.paint_lower_block.ensures.painted next c.in-Some.ensures.next in
    let at = within next on.inside in
    (on, root, at.0, root_entry_same bits c.args.self.now new on.outside.head root next ∙ root_by_block bits c.args.self.now next c.args.p at.1 ∙ c.requires.upper, on.edges)

pub returns-in-None-clause-outside : goal.returns-in-None-clause-outside
returns-in-None-clause-outside g c =
    let bits = bits_of g.row.U g.row.L g.row.F in
    paint_outside bits c.args.bounds c.args.cell Upper Lower c.part-part.result (block_number bits Upper c.args.p) (upper_from_lower bits) c.part-part.ensures.within c.part-part.ensures.all c.args.self.now c.loop-next.self
    c.paint_lower_block.new.self c.loop-next.q c.loop-next.invariant.0 c.paint_lower_block.ensures.outside c.paint_lower_block.ensures.painted

pub returns-in-None-clause-painted : goal.returns-in-None-clause-painted
returns-in-None-clause-painted g c =
    let bits = bits_of g.row.U g.row.L g.row.F in
    paint_all bits c.args.bounds c.args.cell Upper Lower c.part-part.result (block_number bits Upper c.args.p) (upper_from_lower bits) c.part-part.ensures.within c.part-part.ensures.all c.args.self.now c.loop-next.self
    c.paint_lower_block.new.self c.loop-next.q c.loop-next.invariant.0 c.paint_lower_block.ensures.outside c.paint_lower_block.ensures.painted c.in-None.ensures.next
