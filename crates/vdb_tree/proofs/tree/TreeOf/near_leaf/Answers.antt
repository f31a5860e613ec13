use Rattle.vdb_tree.proofs.Common.{sym, ◌∙◌, bits_of}
use Rattle.vdb_tree.proofs.Paths.{leaf_shared, no_leaf_lower, no_leaf_upper}
use Rattle.vdb_tree.proofs.tree.TreeOf.near_leaf.Goals as goal

pub returns-in-ToUpper-clause-answer : goal.returns-in-ToUpper-clause-answer
returns-in-ToUpper-clause-answer g c =
    rw c.in-ToUpper.is
    (sym (no_leaf_upper {V = g.row.V.Denot} (bits_of g.row.U g.row.L g.row.F) c.args.q c.args.p c.in-ToUpper.field-0))

pub returns-in-ToLower-clause-answer : goal.returns-in-ToLower-clause-answer
returns-in-ToLower-clause-answer g c =
    rw c.in-ToLower.is
    (sym (no_leaf_lower {V = g.row.V.Denot} (bits_of g.row.U g.row.L g.row.F) c.args.q c.args.p c.in-ToLower.field-0 c.in-ToLower.field-1))

pub returns-then-is_same_block-clause-leaf : goal.returns-then-is_same_block-clause-leaf
returns-then-is_same_block-clause-leaf g c =
    let same = sym c.is_same_block.ensures ∙ c.if-is_same_block.true in
    leaf_shared {V = g.row.V.Denot} (bits_of g.row.U g.row.L g.row.F) c.args.self.now c.args.q c.args.p
    c.in-ToLeaf.field-0 c.in-ToLeaf.field-1 c.in-ToLeaf.leaf (rw c.in-ToLeaf.is at c.requires) same

pub returns-else-is_same_block-clause-answer : goal.returns-else-is_same_block-clause-answer
returns-else-is_same_block-clause-answer g c =
    let apart = sym c.is_same_block.ensures ∙ c.if-is_same_block.false in
    rw (c.in-ToLeaf.is, apart)
    (sym (no_leaf_lower {V = g.row.V.Denot} (bits_of g.row.U g.row.L g.row.F) c.args.q c.args.p c.in-ToLeaf.field-0 c.in-ToLeaf.field-1))
