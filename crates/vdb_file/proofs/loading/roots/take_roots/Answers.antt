use Rattle.vdb_file.proofs.Common.{◌<◌, ◌^◌, arith, rules, err_from_is_err_and, vdb, cell_at}
use Rattle.vdb_file.proofs.RootReads.{no_root_count, roots_result, too_many_roots}
use Rattle.vdb_file.proofs.loading.roots.take_roots.Goals as goal

pub returns-in_err-count-clause-reads : goal.returns-in_err-count-clause-reads
returns-in_err-count-clause-reads g c =
    let t = c.args.tree.now in
    let value = c.limit-limit.ensures.value in
    let fits : c.limit-limit.result < 2 ^ 32 = search rules in
    let small : t.limit < 2 ^ 32 = omega (arith, fits, value) in
    let e = err_from_is_err_and c.from_residual.result c.from_residual.ensures.1 in
    rw (e.1, e.2) (no_root_count g.V.PartialEq.eq g.V.Voxel.bytes_of g.V.Voxel.is_value t.background vdb t.limit small c.in_err-count.field-0.0 _ c.in_err-count.ensures.reads)

pub returns-then-count-limit-clause-reads : goal.returns-then-count-limit-clause-reads
returns-then-count-limit-clause-reads g c =
    let t = c.args.tree.now in
    let value = c.limit-limit.ensures.value in
    let fits : c.limit-limit.result < 2 ^ 32 = search rules in
    let small : t.limit < 2 ^ 32 = omega (arith, fits, value) in
    let above = c.if-count-limit.true in
    too_many_roots g.V.PartialEq.eq g.V.Voxel.bytes_of g.V.Voxel.is_value t.background vdb t.limit small c.in_ok-count.count c.in_ok-count.ensures.reads.0 _ _ c.in_ok-count.ensures.reads.1 (omega (arith, value, above)) _

pub returns-clause-reads : goal.returns-clause-reads
returns-clause-reads g c =
    let t = c.args.tree.now in
    let value = c.limit-limit.ensures.value in
    let fits : c.limit-limit.result < 2 ^ 32 = search rules in
    let small : t.limit < 2 ^ 32 = omega (arith, fits, value) in
    let below = c.if-count-limit.false in
    let end = c.take_keyed_roots.new.tree in
    roots_result g.V.PartialEq.eq g.V.Voxel.bytes_of g.V.Voxel.is_value t.background vdb t.limit small c.in_ok-count.count c.in_ok-count.ensures.reads.0 _ _ c.in_ok-count.ensures.reads.1 (omega (arith, value, below))
    (cell_at vdb end) end.background c.take_keyed_roots.result _ c.take_keyed_roots.ensures.reads
