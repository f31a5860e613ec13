use Rattle.vdb_file.proofs.Common.{arith, err_from_is_err_and, IsIndex}
use Rattle.vdb_file.proofs.HeadCodes.{no_number, no_u16}
use Rattle.vdb_file.proofs.loading.block_head.take_index.Goals as goal

pub returns-in_err-i-clause-reads : goal.returns-in_err-i-clause-reads
returns-in_err-i-clause-reads g c =
    let e = err_from_is_err_and c.from_residual.result c.from_residual.ensures.1 in
    rw (e.1, e.2) (no_u16 (IsIndex c.args.most c.args.before) c.in_err-i.field-0.0 _ (λ n p. let h = p.within in omega (arith, h)) c.in_err-i.ensures.reads)

pub returns-then-i-most-clause-reads : goal.returns-then-i-most-clause-reads
returns-then-i-most-clause-reads g c =
    no_number (IsIndex c.args.most c.args.before) _ _ _ c.in_ok-i.i c.in_ok-i.ensures.reads.0 c.in_ok-i.ensures.reads.1 (λ n p. let h = p.within in omega (arith, h)) (λ p. let h = p.within in let k = c.if-i-most.true in omega (arith, h, k))

pub returns-then-not-index_follows-clause-reads : goal.returns-then-not-index_follows-clause-reads
returns-then-not-index_follows-clause-reads g c =
    no_number (IsIndex c.args.most c.args.before) _ _ _ c.in_ok-i.i c.in_ok-i.ensures.reads.0 c.in_ok-i.ensures.reads.1 (λ n p. let h = p.within in omega (arith, h))
    (λ p. let never = c.index_follows.ensures.1 p.later in let false_is = c.if-not-index_follows.true in cc)
