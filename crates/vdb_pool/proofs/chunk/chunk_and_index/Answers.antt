use Rattle.vdb_pool.proofs.Common.{arith, div-add-mod'}
use Rattle.vdb_pool.proofs.Rows.{quotient_is}
use Rattle.vdb_pool.proofs.chunk.chunk_and_index.Goals as goal

pub overflow_sub-result : goal.overflow_sub-result
overflow_sub-result c =
    let a = c.args in
    rw (quotient_is a.len a.most a.slot c.requires c.ranges.slot.fits) (omega (arith, div-add-mod' a.slot a.len))

pub returns-clause-chunk : goal.returns-clause-chunk
returns-clause-chunk c = let a = c.args in quotient_is a.len a.most a.slot c.requires c.ranges.slot.fits

pub returns-clause-index : goal.returns-clause-index
returns-clause-index c =
    let a = c.args in
    rw (quotient_is a.len a.most a.slot c.requires c.ranges.slot.fits) (omega (arith, div-add-mod' a.slot a.len))
