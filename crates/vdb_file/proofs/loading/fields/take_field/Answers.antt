use Rattle.vdb_file.proofs.Common.{rules, ◌≡◌, ◌<◌, length, take, Ok, refl, ap, subst, arith, length-take, common_steps, Took, ahead, Truncated}
use Rattle.vdb_file.proofs.FieldBytes.{at_end, piece_taken, took_kept}
use Rattle.vdb_file.proofs.Fronts.{fails_short, took_nothing}
use Rattle.vdb_file.proofs.loading.fields.take_field.Goals as goal

pub loop-at-init : goal.loop-at-init
loop-at-init g c = record {
  took = took_nothing (ahead c.args.input.now (g.S.Source.state c.args.reader.now));
  ends = c.requires.ends;
  within = omega arith;
  total = λ n h. h;
  given = λ n m h. h;
  same = refl;
  fits = search rules;
  failed = refl;
}

pub fill-requires : goal.fill-requires
fill-requires g c = record { ends = c.loop-at.invariant.ends }

pub returns-then-not-more-clause-reads : goal.returns-then-not-more-clause-reads
returns-then-not-more-clause-reads g c =
    let short : length (take c.loop-at.at c.loop-at.field) < length c.args.field.now = omega (arith, length-take c.loop-at.at c.loop-at.field, c.loop-at-test.true, c.loop-at.invariant.same) in
    let old = ahead c.args.input.now (g.S.Source.state c.args.reader.now) in
    let mid = ahead c.loop-at.input (g.S.Source.state c.loop-at.reader) in
    let new = ahead c.fill.new.self (g.S.Source.state c.fill.new.reader) in
    let text = take c.loop-at.at c.loop-at.field in
    fails_short (λ bytes. length bytes ≡ length c.args.field.now) (λ bytes. bytes) text Truncated old new
    (took_kept old mid new text c.loop-at.invariant.took c.in_ok-more.ensures.kept c.in_ok-more.ensures.capacity)
    (at_end _ _ (c.in_ok-more.ensures.none (ap Ok c.if-not-more.true)) (c.in_ok-more.ensures.end (ap Ok c.if-not-more.true))) (λ a p. omega (arith, p, short))

pub loop-at-preserved : goal.loop-at-preserved
loop-at-preserved g c =
    let old = ahead c.args.input.now (g.S.Source.state c.args.reader.now) in
    let mid = ahead c.loop-at.input (g.S.Source.state c.loop-at.reader) in
    let more = ahead c.fill.new.self (g.S.Source.state c.fill.new.reader) in
    let count = c.run-at.ensures.count in
    record {
      took = piece_taken old c.fill.new.self c.run-at.new.self (g.S.Source.state c.fill.new.reader).remaining c.loop-at.field c.run-at.new.field c.loop-at.at c.run-at.result
          (took_kept old mid more _ c.loop-at.invariant.took c.in_ok-more.ensures.kept c.in_ok-more.ensures.capacity)
          c.run-at.ensures.field c.run-at.ensures.unread c.run-at.ensures.capacity (omega (arith, count)) (omega (arith, count)) c.loop-at.invariant.within (omega (arith, c.loop-at.invariant.same, c.loop-at.invariant.fits));
      total = λ n h. search (rules, c.loop-at.invariant.total n h);
      given = λ n m h. c.run-at.ensures.given n m _ _ (c.in_ok-more.ensures.given n m (c.loop-at.invariant.given n m h));
      ends = λ e. c.in_ok-more.ensures.ends (search rules);
      within = search rules;
      same = search rules;
      fits = c.loop-at.invariant.fits;
      failed = search rules;
    }

pub returns-clause-reads : goal.returns-clause-reads
returns-clause-reads g c =
    let whole : take c.loop-at.at c.loop-at.field ≡ c.loop-at.field = grind (arith, common_steps) in
    (c.loop-at.invariant.same, subst (Took _ _) whole c.loop-at.invariant.took)

pub returns-clause-moves : goal.returns-clause-moves
returns-clause-moves g c = record {
  ends = c.loop-at.invariant.ends;
  total = c.loop-at.invariant.total;
  given = c.loop-at.invariant.given;
  ended = λ e. absurd cc;
  failed = search (rules, c.loop-at.invariant.failed);
}
