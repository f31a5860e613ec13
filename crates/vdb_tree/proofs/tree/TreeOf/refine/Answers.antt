use Rattle.vdb_tree.proofs.Common.{subst, sym, ◌∙◌, IsSome, Coord, bits_of, root_at}
use Rattle.vdb_tree.proofs.KeysPast.{fewer_past}
use Rattle.vdb_tree.proofs.Refining.{refined_from, refines_twice, roots_end, roots_next, roots_none}
use Rattle.vdb_tree.proofs.tree.TreeOf.refine.Goals as goal

pub loop-key-init : goal.loop-key-init
loop-key-init g c = roots_none (bits_of g.row.U g.row.L g.row.F) c.args.rule c.args.other.now c.args.self.now

pub loop-key-smaller : goal.loop-key-smaller
loop-key-smaller g c = fewer_past c.args.other.now.root c.loop-key.passed c.in-Some.key c.in-Some.ensures.least

pub loop-key-preserved : goal.loop-key-preserved
loop-key-preserved g c =
    let bits = bits_of g.row.U g.row.L g.row.F in
    roots_next bits c.args.rule c.args.other.now c.args.self.now c.loop-key.self c.refine_root_block.new.self c.loop-key.passed c.in-Some.key c.loop-key.invariant c.in-Some.ensures.least c.in_ok-refine_root_block.ensures.refines
    (λ held q same. c.in_ok-refine_root_block.ensures.refined (subst (λ (j : Coord). IsSome (root_at c.loop-key.self.root j)) (sym c.key_corner.ensures.number) held) q (same ∙ sym c.key_corner.ensures.number))

pub returns-in_err-refine_root_block-clause-keeps : goal.returns-in_err-refine_root_block-clause-keeps
returns-in_err-refine_root_block-clause-keeps g c =
    (refines_twice (bits_of g.row.U g.row.L g.row.F) c.args.rule c.args.other.now c.args.self.now c.loop-key.self c.refine_root_block.new.self c.loop-key.invariant.refines c.in_err-refine_root_block.ensures.refines).keeps

pub returns-in_err-refine_root_block-clause-adds : goal.returns-in_err-refine_root_block-clause-adds
returns-in_err-refine_root_block-clause-adds g c =
    (refines_twice (bits_of g.row.U g.row.L g.row.F) c.args.rule c.args.other.now c.args.self.now c.loop-key.self c.refine_root_block.new.self c.loop-key.invariant.refines c.in_err-refine_root_block.ensures.refines).adds

pub returns-in_err-refine_root_block-clause-made : goal.returns-in_err-refine_root_block-clause-made
returns-in_err-refine_root_block-clause-made g c =
    (refines_twice (bits_of g.row.U g.row.L g.row.F) c.args.rule c.args.other.now c.args.self.now c.loop-key.self c.refine_root_block.new.self c.loop-key.invariant.refines c.in_err-refine_root_block.ensures.refines).made

pub returns-clause-refined : goal.returns-clause-refined
returns-clause-refined g c =
    let bits = bits_of g.row.U g.row.L g.row.F in
    refined_from bits c.args.rule c.args.other.now c.args.self.now c.loop-key.self c.requires.entered c.loop-key.invariant.refines.adds
    (roots_end bits c.args.rule c.args.other.now c.args.self.now c.loop-key.self c.loop-key.passed c.loop-key.invariant c.in_default.ensures.least)
