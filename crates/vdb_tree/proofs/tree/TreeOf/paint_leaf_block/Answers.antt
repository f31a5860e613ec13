use Rattle.vdb_tree.proofs.Common.{◌∙◌, refl, Leaf, bits_of}
use Rattle.vdb_tree.proofs.Blocks.{never}
use Rattle.vdb_tree.proofs.Paints.{filled_outside, tiles_painted, uncovered_tile}
use Rattle.vdb_tree.proofs.Passes.{leaf_descent}
use Rattle.vdb_tree.proofs.tree.TreeOf.paint_leaf_block.Goals as goal

pub returns-then-is_covered-clause-outside : goal.returns-then-is_covered-clause-outside
returns-then-is_covered-clause-outside g c =
    let bits = bits_of g.row.U g.row.L g.row.F in
    filled_outside bits c.args.bounds Leaf c.args.self.now c.fill_leaf.new.self c.args.p c.args.cell (c.is_covered.ensures.0 c.if-is_covered.true) c.fill_leaf.ensures.fills
    (λ q d. leaf_descent bits c.args.self.now c.fill_leaf.new.self c.fill_leaf.ensures.above q (c.fill_leaf.ensures.entries.there q d))

pub returns-then-is_covered-clause-painted : goal.returns-then-is_covered-clause-painted
returns-then-is_covered-clause-painted g c = tiles_painted (bits_of g.row.U g.row.L g.row.F) c.args.bounds c.args.cell Leaf c.fill_leaf.new.self c.args.p (c.fill_leaf.ensures.entries.here c.args.p refl)

pub returns-in-Tile-clause-painted : goal.returns-in-Tile-clause-painted
returns-in-Tile-clause-painted g c =
    let bits = bits_of g.row.U g.row.L g.row.F in
    tiles_painted bits c.args.bounds c.args.cell Leaf c.args.self.now c.args.p
    (uncovered_tile bits c.args.bounds c.args.cell Leaf c.args.self.now c.args.p c.in-Tile.field-0 c.requires.edges c.requires.inside (λ h. never c.if-is_covered.false (c.is_covered.ensures.1 h))
    (c.lower_entry.ensures.value ∙ c.in-Tile.is))
