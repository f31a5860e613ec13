use Rattle.vdb_file.proofs.Common.{◌≡◌, ◌+◌, ap, arith, length, length-take, w16, to_be_bytes, err_from_is_err_and, byte_count, cell_bytes, ahead}
use Rattle.vdb_file.proofs.LeafReads.{no_cell, no_index, voxel_answer}
use Rattle.vdb_file.proofs.FieldBytes.{front_read}
use Rattle.vdb_file.proofs.Fronts.{took_both}
use Rattle.vdb_file.proofs.loading.leaf.take_voxel.Goals as goal

pub returns-in-Some-clause-reads : goal.returns-in-Some-clause-reads
returns-in-Some-clause-reads g c =
    let reader = g.S.Source.state c.args.reader.now in
    let count = c.voxels_len-count.result in
    let same = c.in-Some.ensures.bytes in
    let within = c.in-Some.ensures.within in
    let width = c.voxels_len-count.ensures in
    let long : length c.in-Some.bytes.now ≡ 3 + byte_count g.V.Voxel.KIND = omega (arith, ap length same, length-take count c.args.input.now.unread, within, width) in
    voxel_answer g.V.PartialEq.eq g.V.Voxel.bytes_of g.V.Voxel.is_value g.V.Voxel.KIND g.met.V.Voxel.bytes_known c.args.background c.args.most c.args.before (ahead c.args.input.now reader) (ahead c.skip.new.self reader) c.in-Some.bytes.now long
    (front_read c.args.input.now c.skip.new.self reader.remaining c.in-Some.bytes.now count same within c.in-Some.ensures.capacity c.skip.ensures.unread c.skip.ensures.capacity)
    c.voxel_of-voxel.result c.voxel_of-voxel.ensures.voxel c.voxel_of-voxel.ensures.bytes c.voxel_of-voxel.ensures.none

pub returns-in_err-i-clause-reads : goal.returns-in_err-i-clause-reads
returns-in_err-i-clause-reads g c =
    let p = err_from_is_err_and c.from_residual.result c.from_residual.ensures.1 in
    rw (p.1, p.2) (no_index g.V.PartialEq.eq g.V.Voxel.bytes_of g.V.Voxel.is_value c.args.background c.args.most c.args.before c.in_err-i.field-0.0 (ahead c.args.input.now (g.S.Source.state c.args.reader.now)) c.in_err-i.ensures.reads)

pub returns-in_err-cell-clause-reads : goal.returns-in_err-cell-clause-reads
returns-in_err-cell-clause-reads g c =
    let p = err_from_is_err_and c.from_residual-in_err-cell.result c.from_residual-in_err-cell.ensures.1 in
    rw (p.1, p.2) (no_cell g.V.PartialEq.eq g.V.Voxel.bytes_of g.V.Voxel.is_value c.args.background c.args.most c.args.before c.in_err-cell.field-0.0 (ahead c.args.input.now (g.S.Source.state c.args.reader.now)) c.ranges.most.fits (ahead c.take_index.new.input (g.S.Source.state c.take_index.new.reader)) c.in_ok-i.i c.in_ok-i.ensures.reads.0 c.in_ok-i.ensures.reads.1 c.in_err-cell.ensures.reads)

pub returns-clause-reads : goal.returns-clause-reads
returns-clause-reads g c = (
  record { index = c.in_ok-i.ensures.reads.0; cell = c.in_ok-cell.ensures.reads.0 },
  took_both (ahead c.args.input.now (g.S.Source.state c.args.reader.now)) (ahead c.take_index.new.input (g.S.Source.state c.take_index.new.reader)) (ahead c.take_cell.new.input (g.S.Source.state c.take_cell.new.reader)) (to_be_bytes w16 c.in_ok-i.i) (cell_bytes g.V.PartialEq.eq g.V.Voxel.bytes_of c.in_ok-cell.cell) c.in_ok-i.ensures.reads.1 c.in_ok-cell.ensures.reads.1,
)
