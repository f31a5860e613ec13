use Rattle.vdb_file.proofs.Common.{rules, subst, sym, err_from_is_err_and, on_ok_weaker, block_around, vdb, Leaf, fits_everywhere, cell_at, field_of, exact_by, KeptOutside}
use Rattle.vdb_file.proofs.HeadCodes.{voxel_values}
use Rattle.vdb_file.proofs.BlockResults.{leaf_result}
use Rattle.vdb_file.proofs.LoadedBlocks.{background_value, leaf_keeps}
use Rattle.vdb_file.proofs.Standard.{standard_bits}
use Rattle.vdb_file.proofs.Moves.{memory_moves}
use Rattle.vdb_file.proofs.loading.leaf_blocks.take_leaf.Goals as goal

pub take_listed_voxels-requires : goal.take_listed_voxels-requires
take_listed_voxels-requires g c =
    let value : g.V.Voxel.is_value c.background-background.result = rw c.background-background.ensures (background_value g.V.Voxel.is_value c.args.tree.now.background vdb c.args.tree.now c.requires.loadable.values) in
    record { value = value; ends = c.requires.ends }

pub returns-in_err-leaf-clause-reads : goal.returns-in_err-leaf-clause-reads
returns-in_err-leaf-clause-reads g c =
    let e = err_from_is_err_and c.from_residual.result c.from_residual.ensures.1 in
    rw (e.1, e.2) (rw c.background-background.ensures at c.in_err-leaf.ensures.reads c.args.p)

pub returns-clause-reads : goal.returns-clause-reads
returns-clause-reads g c =
    let exact = exact_by g.V.PartialEq.eq g.V.Ord.cmp g.met.V.Ord.matches_eq g.met.V.Voxel.exact in
    let values = voxel_values g.V.PartialEq.eq g.V.Voxel.bytes_of g.V.Voxel.is_value g.V.Voxel.KIND exact g.met.V.Eq.laws.refl g.met.V.Voxel.bytes_known g.met.V.Voxel.bytes_exact in
    let p = c.args.p in
    let t = c.args.tree.now in
    let inside = fits_everywhere c.args.p (search rules) (search rules) (search rules) in
    let read = rw c.background-background.ensures at (c.in_ok-leaf.ensures.reads p) in
    leaf_result values vdb standard_bits p inside t.background (cell_at vdb t) c.requires.loadable.values c.args.count c.in_ok-leaf.leaf read.0 _ _ read.1 (field_of vdb c.write_leaf_block.new.tree) c.write_leaf_block.result c.write_leaf_block.ensures.memory c.write_leaf_block.ensures.field

pub returns-clause-kept : goal.returns-clause-kept
returns-clause-kept g c =
    let t = c.args.tree.now in
    let inside = fits_everywhere c.args.p (search rules) (search rules) (search rules) in
    on_ok_weaker c.write_leaf_block.result (λ e. subst (KeptOutside (block_around vdb Leaf c.args.p) (field_of vdb t)) (sym e) (leaf_keeps g.V.Voxel.is_value vdb standard_bits c.args.p inside t.background (cell_at vdb t) c.in_ok-leaf.leaf)) c.write_leaf_block.ensures.field

pub returns-clause-moves : goal.returns-clause-moves
returns-clause-moves g c = memory_moves c.in_ok-leaf.ensures.moves c.write_leaf_block.result c.write_leaf_block.ensures.memory
