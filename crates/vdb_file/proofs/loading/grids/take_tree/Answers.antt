use Rattle.vdb_file.proofs.Common.{ap, err_from_is_err_and, vdb, field_of}
use Rattle.vdb_file.specs.internal.Parts.{head_view}
use Rattle.vdb_file.proofs.GridParts.{no_background, no_head, no_roots, tree_read}
use Rattle.vdb_file.proofs.ValueCodes.{value_code}
use Rattle.vdb_file.proofs.Moves.{moves_err, moves_then}
use Rattle.vdb_file.proofs.loading.grids.take_tree.Goals as goal

pub returns-in_err-background-clause-reads : goal.returns-in_err-background-clause-reads
returns-in_err-background-clause-reads g c =
    let code = value_code g.V.Voxel.bytes_of g.V.Voxel.is_value g.V.Voxel.KIND g.met.V.Voxel.bytes_known g.met.V.Voxel.bytes_exact in
    let p = err_from_is_err_and c.from_residual.result c.from_residual.ensures.1 in
    rw (p.1, p.2) (no_background g.V.Voxel.is_value g.V.PartialEq.eq g.V.Voxel.bytes_of code c.args.version c.in_err-background.field-0.0 _ c.in_err-background.ensures.reads)

pub returns-in_err-head-clause-reads : goal.returns-in_err-head-clause-reads
returns-in_err-head-clause-reads g c =
    let code = value_code g.V.Voxel.bytes_of g.V.Voxel.is_value g.V.Voxel.KIND g.met.V.Voxel.bytes_known g.met.V.Voxel.bytes_exact in
    let p = err_from_is_err_and c.from_residual-in_err-head.result c.from_residual-in_err-head.ensures.1 in
    rw (p.1, p.2) (no_head g.V.Voxel.is_value g.V.PartialEq.eq g.V.Voxel.bytes_of code c.args.version c.in_err-head.field-0.0 _ _ c.in_ok-background.background c.in_ok-background.ensures.reads.0 c.in_ok-background.ensures.reads.1 c.in_err-head.ensures.reads)

pub returns-in_err-take_roots-clause-reads : goal.returns-in_err-take_roots-clause-reads
returns-in_err-take_roots-clause-reads g c =
    let code = value_code g.V.Voxel.bytes_of g.V.Voxel.is_value g.V.Voxel.KIND g.met.V.Voxel.bytes_known g.met.V.Voxel.bytes_exact in
    let p = err_from_is_err_and c.from_residual-in_err-take_roots.result c.from_residual-in_err-take_roots.ensures.1 in
    rw (p.1, p.2) (no_roots g.V.Voxel.is_value g.V.PartialEq.eq g.V.Voxel.bytes_of code c.args.version c.in_err-take_roots.field-0.0 _ _ c.in_ok-background.background c.in_ok-background.ensures.reads.0 c.in_ok-background.ensures.reads.1
    _ (head_view c.in_ok-head.head) c.new-tree.result.background c.new-tree.result.limit (ap (λ f. f.background) c.new-tree.ensures.field) c.new-tree.ensures.limit c.in_ok-head.ensures.reads.0 c.in_ok-head.ensures.reads.1 c.in_err-take_roots.ensures.reads)

pub returns-clause-reads : goal.returns-clause-reads
returns-clause-reads g c =
    tree_read g.V.Voxel.is_value g.V.PartialEq.eq g.V.Voxel.bytes_of c.args.version _ _ _ _ c.in_ok-background.background c.new-tree.result.background c.new-tree.result.limit c.take_roots.new.tree.limit (head_view c.in_ok-head.head)
    (field_of vdb c.take_roots.new.tree) (ap (λ f. f.background) c.new-tree.ensures.field) c.new-tree.ensures.limit c.in_ok-take_roots.ensures.limit c.in_ok-background.ensures.reads.0 c.in_ok-head.ensures.reads.0
    c.in_ok-take_roots.ensures.reads.0 c.in_ok-background.ensures.reads.1 c.in_ok-head.ensures.reads.1 c.in_ok-take_roots.ensures.reads.1

pub returns-in_err-take_roots-clause-moves : goal.returns-in_err-take_roots-clause-moves
returns-in_err-take_roots-clause-moves g c =
    let p = err_from_is_err_and c.from_residual-in_err-take_roots.result c.from_residual-in_err-take_roots.ensures.1 in
    rw (p.1, p.2) (moves_err (moves_then c.in_ok-background.ensures.moves (moves_then c.in_ok-head.ensures.moves c.in_err-take_roots.ensures.moves)))
