use Rattle.vdb_tree.proofs.Common.{◌∙◌, ap, refl, Some, block_number, key, Upper, Tile, bits_of, root_at}
use Rattle.vdb_tree.proofs.Blocks.{never}
use Rattle.vdb_tree.proofs.Clears.{beyond_outside}
use Rattle.vdb_tree.proofs.Descents.{entry_at}
use Rattle.vdb_tree.proofs.Needed.{is_some_from}
use Rattle.vdb_tree.proofs.Paints.{filled_outside, outside_twice, tiles_painted, uncovered_tile, uncovered_upper}
use Rattle.vdb_tree.proofs.Passes.{descent_by}
use Rattle.vdb_tree.proofs.Splits.{root_turns}
use Rattle.vdb_tree.proofs.RootSweeps.{other_key, that_key}
use Rattle.vdb_tree.proofs.tree.TreeOf.paint_root_block.Goals as goal

pub returns-in-Child-clause-outside : goal.returns-in-Child-clause-outside
returns-in-Child-clause-outside g c =
    let bits = bits_of g.row.U g.row.L g.row.F in
    let old = c.drop_lowers.new.self in
    let new = c.drop_upper.new.self in
    let made = c.drop_upper.ensures in
    let roots = root_turns bits old new c.args.p (Tile c.args.cell) made.fills.head.background made.table in
    let covered = c.is_covered.ensures.0 c.if-is_covered.true in
    outside_twice bits c.args.bounds Upper c.args.self.now old new (block_number bits Upper c.args.p)
    (beyond_outside bits c.args.bounds Upper c.args.self.now old c.args.p covered (rw (c.in-Child.ensures.child _ refl) at c.drop_lowers.ensures.beyond))
    (filled_outside bits c.args.bounds Upper old new c.args.p c.args.cell covered made.fills
    (λ q d. descent_by bits old new q (roots.there q d) (made.uppers.there q d) (made.lowers.there q d)))

pub returns-in-Child-clause-painted : goal.returns-in-Child-clause-painted
returns-in-Child-clause-painted g c =
    let bits = bits_of g.row.U g.row.L g.row.F in
    let new = c.drop_upper.new.self in
    let roots = root_turns bits c.drop_lowers.new.self new c.args.p (Tile c.args.cell) c.drop_upper.ensures.fills.head.background c.drop_upper.ensures.table in
    tiles_painted bits c.args.bounds c.args.cell Upper new c.args.p (roots.here c.args.p refl)

pub returns-in-Child-clause-table : goal.returns-in-Child-clause-table
returns-in-Child-clause-table g c = λ k d. other_key c.drop_lowers.new.self.root c.drop_upper.new.self.root (key (bits_of g.row.U g.row.L g.row.F) c.args.p) k (Some (Tile c.args.cell)) c.drop_upper.ensures.table d ∙ ap (λ root. root_at root k) (rw (c.in-Child.ensures.child _ refl) at c.drop_lowers.ensures.root)

pub returns-in_default-clause-outside : goal.returns-in_default-clause-outside
returns-in_default-clause-outside g c =
    let bits = bits_of g.row.U g.row.L g.row.F in
    let old = c.args.self.now in
    let new = c.paint_root_tile.new.self in
    let made = c.in_default.ensures in
    let fills = made.fills _ refl in
    let roots = root_turns bits old new c.args.p (Tile c.args.cell) fills.head.background (made.table _ refl) in
    filled_outside bits c.args.bounds Upper old new c.args.p c.args.cell (c.is_covered.ensures.0 c.if-is_covered.true) fills
    (λ q d. descent_by bits old new q (roots.there q d) ((made.uppers _ refl).there q d) ((made.lowers _ refl).there q d))

pub returns-in_default-clause-painted : goal.returns-in_default-clause-painted
returns-in_default-clause-painted g c =
    let bits = bits_of g.row.U g.row.L g.row.F in
    let new = c.paint_root_tile.new.self in
    let roots = root_turns bits c.args.self.now new c.args.p (Tile c.args.cell) (c.in_default.ensures.fills _ refl).head.background (c.in_default.ensures.table _ refl) in
    tiles_painted bits c.args.bounds c.args.cell Upper new c.args.p (roots.here c.args.p refl)

pub returns-in_default-clause-table : goal.returns-in_default-clause-table
returns-in_default-clause-table g c = λ k d. other_key c.args.self.now.root c.paint_root_tile.new.self.root (key (bits_of g.row.U g.row.L g.row.F) c.args.p) k (Some (Tile c.args.cell)) (c.in_default.ensures.table _ refl) d

pub returns-in_default-clause-entered : goal.returns-in_default-clause-entered
returns-in_default-clause-entered g c =
    let at = key (bits_of g.row.U g.row.L g.row.F) c.args.p in
    is_some_from (root_at c.paint_root_tile.new.self.root at) (Tile c.args.cell) (that_key c.args.self.now.root c.paint_root_tile.new.self.root at (Some (Tile c.args.cell)) (c.in_default.ensures.table _ refl))

pub returns-in-Child-entry-clause-painted : goal.returns-in-Child-entry-clause-painted
returns-in-Child-entry-clause-painted g c =
    uncovered_upper (bits_of g.row.U g.row.L g.row.F) c.args.bounds c.args.cell c.paint_lower_blocks.new.self c.args.p (λ h. never c.if-is_covered.false (c.is_covered.ensures.1 h)) c.paint_lower_blocks.ensures.painted

pub returns-in_default-entry-clause-painted : goal.returns-in_default-entry-clause-painted
returns-in_default-entry-clause-painted g c =
    let bits = bits_of g.row.U g.row.L g.row.F in
    tiles_painted bits c.args.bounds c.args.cell Upper c.args.self.now c.args.p
    (uncovered_tile bits c.args.bounds c.args.cell Upper c.args.self.now c.args.p c.in_default-entry.field-0 c.requires.edges c.requires.inside (λ h. never c.if-is_covered.false (c.is_covered.ensures.1 h))
    (entry_at bits c.args.self.now c.args.p c.args.entry c.requires.entered ∙ c.in_default-entry.is))
