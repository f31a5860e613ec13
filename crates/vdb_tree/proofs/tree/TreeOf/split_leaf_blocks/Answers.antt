use Rattle.vdb_tree.proofs.Common.{◌∙◌, Leaf, both, bits_of, IsCut}
use Rattle.vdb_tree.proofs.Descents.{upper_by_block}
use Rattle.vdb_tree.proofs.MadeNodes.{makes_twice}
use Rattle.vdb_tree.proofs.Passes.{upper_entry_same, uppers_same, uppers_trans}
use Rattle.vdb_tree.proofs.SplitTiles.{SplitsTo, split_all, split_next, split_none}
use Rattle.vdb_tree.proofs.Splits.{adds_twice, keeps_twice}
use Rattle.vdb_tree.proofs.tree.TreeOf.split_leaf_blocks.Goals as goal

pub loop-self-init : goal.loop-self-init
loop-self-init g c =
    let bits = bits_of g.row.U g.row.L g.row.F in
    let first : SplitsTo bits c.args.bounds c.args.cell Leaf c.args.part c.args.self.now c.args.self.now c.min-at.result =
    rw c.min-at.ensures.corner (split_none bits c.args.bounds c.args.cell Leaf c.args.part c.args.self.now (both _ _ c.min-at.ensures.bounds).0) in
    (first, uppers_same c.args.self.now, upper_by_block bits c.args.self.now c.min-at.result c.args.p (c.requires.part c.min-at.result first.inside).1 ∙ c.requires.node)

pub returns-in_err-split_leaf_block-clause-adds : goal.returns-in_err-split_leaf_block-clause-adds
returns-in_err-split_leaf_block-clause-adds g c =
    adds_twice (bits_of g.row.U g.row.L g.row.F) c.args.self.now c.loop-self.self c.split_leaf_block.new.self c.loop-self.invariant.0.adds c.in_err-split_leaf_block.ensures.adds

pub loop-self-preserved : goal.loop-self-preserved
loop-self-preserved g c =
    let bits = bits_of g.row.U g.row.L g.row.F in
    let next = c.in-Some.next in
    let above = uppers_trans c.args.self.now c.loop-self.self c.split_leaf_block.new.self c.loop-self.invariant.1 c.in_ok-split_leaf_block.ensures.above in
    let on = split_next bits c.args.bounds c.args.cell Leaf c.args.part c.args.self.now c.loop-self.self c.split_leaf_block.new.self c.loop-self.at c.loop-self.invariant.0
    c.in_ok-split_leaf_block.ensures.keeps c.in_ok-split_leaf_block.ensures.adds (c.in_ok-split_leaf_block.ensures.made (c.requires.part c.loop-self.at c.loop-self.invariant.0.inside).0) (λ q _ same. c.in_ok-split_leaf_block.ensures.edges q same) next c.in-Some.ensures.next in
    (on, above, upper_entry_same bits c.args.self.now c.split_leaf_block.new.self above next ∙ upper_by_block bits c.args.self.now next c.args.p (c.requires.part next on.inside).1 ∙ c.requires.node)

pub returns-in-None-clause-keeps : goal.returns-in-None-clause-keeps
returns-in-None-clause-keeps g c =
    keeps_twice (bits_of g.row.U g.row.L g.row.F) c.args.self.now c.loop-self.self c.split_leaf_block.new.self c.loop-self.invariant.0.keeps c.in_ok-split_leaf_block.ensures.keeps

pub returns-in-None-clause-adds : goal.returns-in-None-clause-adds
returns-in-None-clause-adds g c =
    adds_twice (bits_of g.row.U g.row.L g.row.F) c.args.self.now c.loop-self.self c.split_leaf_block.new.self c.loop-self.invariant.0.adds c.in_ok-split_leaf_block.ensures.adds

pub returns-in-None-clause-edges : goal.returns-in-None-clause-edges
returns-in-None-clause-edges g c =
    split_all (bits_of g.row.U g.row.L g.row.F) c.args.bounds c.args.cell Leaf c.args.part c.args.self.now c.loop-self.self c.split_leaf_block.new.self c.loop-self.at c.loop-self.invariant.0
    c.in_ok-split_leaf_block.ensures.keeps c.in_ok-split_leaf_block.ensures.adds (c.in_ok-split_leaf_block.ensures.made (c.requires.part c.loop-self.at c.loop-self.invariant.0.inside).0) (λ q _ same. c.in_ok-split_leaf_block.ensures.edges q same) c.in-None.ensures.next

pub returns-in_err-split_leaf_block-clause-made : goal.returns-in_err-split_leaf_block-clause-made
returns-in_err-split_leaf_block-clause-made g c =
    let bits = bits_of g.row.U g.row.L g.row.F in
    makes_twice bits (IsCut bits c.args.bounds c.args.cell) c.args.self.now c.loop-self.self c.split_leaf_block.new.self c.loop-self.invariant.0.keeps c.loop-self.invariant.0.made (c.in_err-split_leaf_block.ensures.made (c.requires.part c.loop-self.at c.loop-self.invariant.0.inside).0)

pub returns-in-None-clause-made : goal.returns-in-None-clause-made
returns-in-None-clause-made g c =
    let bits = bits_of g.row.U g.row.L g.row.F in
    makes_twice bits (IsCut bits c.args.bounds c.args.cell) c.args.self.now c.loop-self.self c.split_leaf_block.new.self c.loop-self.invariant.0.keeps c.loop-self.invariant.0.made (c.in_ok-split_leaf_block.ensures.made (c.requires.part c.loop-self.at c.loop-self.invariant.0.inside).0)
