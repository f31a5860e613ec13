use Rattle.vdb_file.proofs.Common.{◌∙◌, ap, subst, Err, block_around, vdb, Box, Upper, fill, cell_at, field_of, IsOutcome}
use Rattle.vdb_file.proofs.LoadedBlocks.{fill_keeps, in_upper, kept_wider, no_root_limit}
use Rattle.vdb_file.proofs.loading.blocks.fill_block.Goals as goal

pub unreachable-requires : goal.unreachable-requires
unreachable-requires g c =
    let t = c.args.tree.now in
    let p = c.args.p in
    let level = c.args.level in
    let box = c.block-bounds.ensures in
    let changed = fill (block_around vdb level p) c.args.cell (field_of vdb t) in
    let outcome = subst (λ (b : Box). IsOutcome g.V.PartialEq.eq vdb t.limit (field_of vdb t) (fill b c.args.cell (field_of vdb t)) (field_of vdb c.fill.new.tree) c.fill.result) box c.fill.ensures.outcome in
    no_root_limit g.V.PartialEq.eq vdb t.limit (block_around vdb Upper p) (field_of vdb t) changed (field_of vdb c.fill.new.tree) c.fill.result outcome (c.in-Err-RootLimit.is ∙ ap Err c.in-Err-RootLimit.field-0-is) c.requires
    (kept_wider (block_around vdb Upper p) (block_around vdb level p) (field_of vdb t) changed (in_upper vdb level p) (fill_keeps (block_around vdb level p) t.background (cell_at vdb t) c.args.cell))
