use Rattle.vdb_file.proofs.Common.{◌∙◌, rules, subst, sym, err_from_is_err_and, on_ok_weaker, block_around, vdb, Leaf, fits_everywhere, cell_at, field_of, exact_by, voxel_body, KeptOutside}
use Rattle.vdb_file.proofs.HeadCodes.{voxel_values}
use Rattle.vdb_file.proofs.BlockReads.{no_block_head}
use Rattle.vdb_file.proofs.BlockResults.{one_result, voxels_result}
use Rattle.vdb_file.proofs.LoadedBlocks.{fill_keeps}
use Rattle.vdb_file.proofs.Standard.{standard_bits}
use Rattle.vdb_tree.proofs.WrittenLeaves.{leaf_fills}
use Rattle.vdb_file.proofs.Moves.{memory_moves}
use Rattle.vdb_file.proofs.loading.leaf_blocks.take_leaf_block.Goals as goal

pub returns-in_err-cell-clause-reads : goal.returns-in_err-cell-clause-reads
returns-in_err-cell-clause-reads g c =
    let exact = exact_by g.V.PartialEq.eq g.V.Ord.cmp g.met.V.Ord.matches_eq g.met.V.Voxel.exact in
    let values = voxel_values g.V.PartialEq.eq g.V.Voxel.bytes_of g.V.Voxel.is_value g.V.Voxel.KIND exact g.met.V.Eq.laws.refl g.met.V.Voxel.bytes_known g.met.V.Voxel.bytes_exact in
    let p = c.args.p in
    let t = c.args.tree.now in
    let configured = standard_bits in
    let e = err_from_is_err_and c.from_residual.result c.from_residual.ensures.1 in
    rw (e.1, e.2) (no_block_head values vdb configured Leaf p (voxel_body g.V.PartialEq.eq g.V.Voxel.bytes_of vdb) t.background c.in_err-cell.field-0.0 _ (rw c.background.ensures at c.in_err-cell.ensures.reads))

pub returns-in-Ok-clause-reads : goal.returns-in-Ok-clause-reads
returns-in-Ok-clause-reads g c =
    let exact = exact_by g.V.PartialEq.eq g.V.Ord.cmp g.met.V.Ord.matches_eq g.met.V.Voxel.exact in
    let values = voxel_values g.V.PartialEq.eq g.V.Voxel.bytes_of g.V.Voxel.is_value g.V.Voxel.KIND exact g.met.V.Eq.laws.refl g.met.V.Voxel.bytes_known g.met.V.Voxel.bytes_exact in
    let p = c.args.p in
    let t = c.args.tree.now in
    let configured = standard_bits in
    let inside = fits_everywhere c.args.p (search rules) (search rules) (search rules) in
    let head = rw (c.in-One.is, c.background.ensures) at c.in_ok-cell.ensures.reads in
    one_result values vdb configured Leaf p (voxel_body g.V.PartialEq.eq g.V.Voxel.bytes_of vdb) t.background inside (cell_at vdb t) c.requires.loadable.values c.in-One.cell head.0 _ _ head.1 (field_of vdb c.write_leaf_block.new.tree) c.write_leaf_block.result c.write_leaf_block.ensures.memory
    (on_ok_weaker c.write_leaf_block.result (λ e. e ∙ leaf_fills vdb p c.in-Ok.leaf (field_of vdb t) c.in-One.cell c.in-Ok.ensures.cells) c.write_leaf_block.ensures.field)

pub returns-in-Ok-clause-kept : goal.returns-in-Ok-clause-kept
returns-in-Ok-clause-kept g c =
    let t = c.args.tree.now in
    let b = block_around vdb Leaf c.args.p in
    on_ok_weaker c.write_leaf_block.result (λ e. subst (KeptOutside b (field_of vdb t)) (sym (e ∙ leaf_fills vdb c.args.p c.in-Ok.leaf (field_of vdb t) c.in-One.cell c.in-Ok.ensures.cells)) (fill_keeps b t.background (cell_at vdb t) c.in-One.cell)) c.write_leaf_block.ensures.field

pub returns-in-Node-clause-reads : goal.returns-in-Node-clause-reads
returns-in-Node-clause-reads g c =
    let exact = exact_by g.V.PartialEq.eq g.V.Ord.cmp g.met.V.Ord.matches_eq g.met.V.Voxel.exact in
    let values = voxel_values g.V.PartialEq.eq g.V.Voxel.bytes_of g.V.Voxel.is_value g.V.Voxel.KIND exact g.met.V.Eq.laws.refl g.met.V.Voxel.bytes_known g.met.V.Voxel.bytes_exact in
    let p = c.args.p in
    let t = c.args.tree.now in
    let configured = standard_bits in
    let head = rw c.in-Node.is at c.in_ok-cell.ensures.reads in
    voxels_result values vdb configured p t.background c.in-Node.count head.0 _ _ _ head.1 (field_of vdb c.take_leaf.new.tree) c.take_leaf.result c.take_leaf.ensures.reads

pub returns-in-Ok-clause-moves : goal.returns-in-Ok-clause-moves
returns-in-Ok-clause-moves g c = memory_moves c.in_ok-cell.ensures.moves c.write_leaf_block.result c.write_leaf_block.ensures.memory
