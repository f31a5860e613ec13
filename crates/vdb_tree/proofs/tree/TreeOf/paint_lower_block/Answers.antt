use Rattle.vdb_tree.proofs.Common.{◌∙◌, refl, block_number, Lower, bits_of}
use Rattle.vdb_tree.proofs.Blocks.{never}
use Rattle.vdb_tree.proofs.Clears.{beyond_outside}
use Rattle.vdb_tree.proofs.Paints.{filled_outside, outside_twice, tiles_painted, uncovered_lower, uncovered_tile}
use Rattle.vdb_tree.proofs.Passes.{descent_by, root_entry_same}
use Rattle.vdb_tree.proofs.tree.TreeOf.paint_lower_block.Goals as goal

pub returns-then-covered-clause-outside : goal.returns-then-covered-clause-outside
returns-then-covered-clause-outside g c =
    let bits = bits_of g.row.U g.row.L g.row.F in
    let old = c.args.self.now in
    let new = c.set_upper_tile.new.self in
    let made = c.set_upper_tile.ensures in
    filled_outside bits c.args.bounds Lower old new c.args.p c.args.cell (c.is_covered-covered.ensures.0 c.if-covered.true) made.fills
    (λ q d. descent_by bits old new q (root_entry_same bits old new made.fills.head made.root q) (made.uppers.there q d) (made.lowers.there q d))

pub returns-then-covered-clause-painted : goal.returns-then-covered-clause-painted
returns-then-covered-clause-painted g c =
    tiles_painted (bits_of g.row.U g.row.L g.row.F) c.args.bounds c.args.cell Lower c.set_upper_tile.new.self c.args.p (c.set_upper_tile.ensures.uppers.here c.args.p refl)

pub returns-else-covered-clause-painted : goal.returns-else-covered-clause-painted
returns-else-covered-clause-painted g c =
    let bits = bits_of g.row.U g.row.L g.row.F in
    tiles_painted bits c.args.bounds c.args.cell Lower c.args.self.now c.args.p
    (uncovered_tile bits c.args.bounds c.args.cell Lower c.args.self.now c.args.p c.in-Tile.field-0 c.requires.edges c.requires.inside (λ h. never c.if-covered.false (c.is_covered-covered.ensures.1 h))
    (c.upper_entry.ensures.value ∙ c.in-Tile.is))

pub returns-then-covered-2-clause-outside : goal.returns-then-covered-2-clause-outside
returns-then-covered-2-clause-outside g c =
    let bits = bits_of g.row.U g.row.L g.row.F in
    let mid = c.drop_leaves.new.self in
    let new = c.drop_lower.new.self in
    let made = c.drop_lower.ensures in
    outside_twice bits c.args.bounds Lower c.args.self.now mid new (block_number bits Lower c.args.p)
    (beyond_outside bits c.args.bounds Lower c.args.self.now mid c.args.p (c.is_covered-covered.ensures.0 c.if-covered-2.true) c.drop_leaves.ensures.beyond)
    (filled_outside bits c.args.bounds Lower mid new c.args.p c.args.cell (c.is_covered-covered.ensures.0 c.if-covered-2.true) made.fills
    (λ q d. descent_by bits mid new q (root_entry_same bits mid new made.fills.head made.root q) (made.uppers.there q d) (made.lowers.there q d)))

pub returns-then-covered-2-clause-painted : goal.returns-then-covered-2-clause-painted
returns-then-covered-2-clause-painted g c =
    tiles_painted (bits_of g.row.U g.row.L g.row.F) c.args.bounds c.args.cell Lower c.drop_lower.new.self c.args.p (c.drop_lower.ensures.uppers.here c.args.p refl)

pub returns-else-covered-2-clause-painted : goal.returns-else-covered-2-clause-painted
returns-else-covered-2-clause-painted g c =
    uncovered_lower (bits_of g.row.U g.row.L g.row.F) c.args.bounds c.args.cell c.paint_leaf_blocks.new.self c.args.p (λ h. never c.if-covered-2.false (c.is_covered-covered.ensures.1 h)) c.paint_leaf_blocks.ensures.painted
