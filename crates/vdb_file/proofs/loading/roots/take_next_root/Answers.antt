use Rattle.vdb_file.proofs.Common.{err_from_is_err_and, block, vdb, Upper, field_of, key_bytes, root_body, IsKey}
use Rattle.vdb_file.proofs.NextReads.{both_next, key_says, no_block_next, no_number_next}
use Rattle.vdb_file.proofs.loading.roots.take_next_root.Goals as goal

pub returns-in_err-key-clause-reads : goal.returns-in_err-key-clause-reads
returns-in_err-key-clause-reads g c =
    let e = err_from_is_err_and c.from_residual.result c.from_residual.ensures.1 in
    rw (e.1, e.2) (no_number_next g.V.PartialEq.eq g.V.Voxel.is_value c.args.tree.now.background (IsKey vdb c.args.before) key_bytes (block vdb Upper) (root_body g.V.PartialEq.eq g.V.Voxel.bytes_of vdb) c.in_err-key.field-0.0 _ (c.in_err-key.ensures.reads))

pub returns-in_err-take_root_at-clause-reads : goal.returns-in_err-take_root_at-clause-reads
returns-in_err-take_root_at-clause-reads g c =
    let key = c.in_ok-key.ensures.reads in
    let e = err_from_is_err_and c.from_residual-in_err-take_root_at.result c.from_residual-in_err-take_root_at.ensures.1 in
    rw (e.1, e.2)
    (no_block_next g.V.PartialEq.eq g.V.Voxel.is_value c.args.tree.now.background (IsKey vdb c.args.before) key_bytes (block vdb Upper) (root_body g.V.PartialEq.eq g.V.Voxel.bytes_of vdb) c.in_err-take_root_at.field-0.0 _ (key_says vdb c.requires.loadable.configured c.args.before) c.in_ok-key.key key.0 _ key.1
    c.in_err-take_root_at.ensures.reads)

pub returns-clause-reads : goal.returns-clause-reads
returns-clause-reads g c =
    let key = c.in_ok-key.ensures.reads in
    let read = c.in_ok-take_root_at.ensures.reads in (
      record { key = key.0; shows = read.0 },
      both_next key_bytes (block vdb Upper) (root_body g.V.PartialEq.eq g.V.Voxel.bytes_of vdb) c.in_ok-key.key (field_of vdb c.take_root_at.new.tree) _ _ _ key.1 read.1,
    )
