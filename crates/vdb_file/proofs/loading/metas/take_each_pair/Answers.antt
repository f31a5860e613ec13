use Rattle.vdb_file.proofs.Common.{rules, ◌≡◌, ◌++◌, ◌∷◌, [], ◌∙◌, length-append, sym, subst, arith, None, err_from_is_err_and, IsPair, IsItem, name_of, pair_bytes, Fails, ahead}
use Rattle.vdb_file.proofs.Items.{are_items, chain_more, fails_within, last_more, more_read, put_last}
use Rattle.vdb_file.proofs.PairParts.{pair_code}
use Rattle.vdb_file.proofs.loading.metas.take_each_pair.Goals as goal

pub returns-in_err-pair-clause-reads : goal.returns-in_err-pair-clause-reads
returns-in_err-pair-clause-reads g c =
    let p = err_from_is_err_and c.from_residual.result c.from_residual.ensures.1 in
    let mid = ahead c.loop.input (g.S.Source.state c.loop.reader) in
    rw (p.1, p.2) (fails_within IsPair name_of pair_bytes pair_code ([], []) c.in_err-pair.field-0.0 c.args.count c.loop.metas (ahead c.args.input.now (g.S.Source.state c.args.reader.now)) mid
    (omega (arith, c.loop.invariant.count, c.loop-test.true)) c.loop.invariant.chain c.loop.invariant.took
    (subst (λ before. Fails (IsItem IsPair name_of before) pair_bytes c.in_err-pair.field-0.0 mid) c.loop.invariant.before c.in_err-pair.ensures.reads))

pub loop-preserved : goal.loop-preserved
loop-preserved g c =
    let done = c.loop.metas in
    let e = c.in_ok-pair.pair in
    let item = subst (λ before. IsItem IsPair name_of before e) c.loop.invariant.before c.in_ok-pair.ensures.reads.0 in
    let grown : c.put.new.metas ≡ done ++ e ∷ [] = c.in_ok-put.ensures.ok ∙ put_last IsPair done e c.loop.invariant.chain item in
    rw grown (record {
      took = more_read IsPair name_of pair_bytes (ahead c.args.input.now (g.S.Source.state c.args.reader.now)) (ahead c.loop.input (g.S.Source.state c.loop.reader)) _ done e c.loop.invariant.took c.in_ok-pair.ensures.reads.1;
      ends = c.in_ok-pair.ensures.moves.ends;
      total = λ n h. c.in_ok-pair.ensures.moves.total n (c.loop.invariant.total n h);
      given = λ n m h. c.in_ok-pair.ensures.moves.given n m (c.loop.invariant.given n m h);
      count = omega (arith, length-append done (e ∷ []), c.loop.invariant.count);
      chain = chain_more IsPair name_of None done e c.loop.invariant.chain item;
      before = sym (last_more IsPair name_of None done e);
      failed = search rules;
    })

pub returns-in_err-put-clause-reads : goal.returns-in_err-put-clause-reads
returns-in_err-put-clause-reads g c =
    let p = err_from_is_err_and c.from_residual-in_err-put.result c.from_residual-in_err-put.ensures.1 in
    rw (p.1, p.2) (let m = c.in_err-put.ensures.err in rw m (record { none = λ claims. absurd claims }))

pub returns-clause-reads : goal.returns-clause-reads
returns-clause-reads g c = (are_items IsPair name_of c.args.count c.loop.metas (omega (arith, c.loop.invariant.count, c.loop-test.false)) c.loop.invariant.chain, c.loop.invariant.took)
