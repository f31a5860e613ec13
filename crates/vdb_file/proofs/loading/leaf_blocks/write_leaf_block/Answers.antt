use Rattle.vdb_file.proofs.Common.{◌∙◌, ap, rules, Err, block_around, vdb, Leaf, Upper, fits_everywhere, cell_at, field_of, with_leaf}
use Rattle.vdb_file.proofs.LoadedBlocks.{in_upper, kept_wider, leaf_keeps, no_root_limit}
use Rattle.vdb_file.proofs.Standard.{standard_bits}
use Rattle.vdb_file.proofs.loading.leaf_blocks.write_leaf_block.Goals as goal

pub unreachable-requires : goal.unreachable-requires
unreachable-requires g c =
    let t = c.args.tree.now in
    let p = c.args.p in
    let inside = fits_everywhere c.args.p (search rules) (search rules) (search rules) in
    let changed = with_leaf vdb p c.args.leaf.now (field_of vdb t) in
    no_root_limit g.V.PartialEq.eq vdb t.limit (block_around vdb Upper p) (field_of vdb t) changed (field_of vdb c.write_leaf.new.self) c.write_leaf.result c.write_leaf.ensures.outcome (c.in-Err-RootLimit.is ∙ ap Err c.in-Err-RootLimit.field-0-is) c.requires
    (kept_wider (block_around vdb Upper p) (block_around vdb Leaf p) (field_of vdb t) changed (in_upper vdb Leaf p) (leaf_keeps g.V.Voxel.is_value vdb standard_bits p inside t.background (cell_at vdb t) c.args.leaf.now))
