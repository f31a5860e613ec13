use Rattle.vdb_script.proofs.Common.{◌∷◌, ◌++◌, ◌+◌, length, take, drop, ap, sym, ◌∙◌, rules, source, ahead}
use Rattle.std.proofs.Math.Seq.{drop-length}
use Rattle.vdb_script.proofs.Reading.{Takes, Takes-kept, Takes-all, Takes-newline, none_at_all, none_before, split_at}
use Rattle.vdb_script.proofs.lines.read_text.Goals as goal

pub returns-in-Some-clause-found : goal.returns-in-Some-clause-found
returns-in-Some-clause-found g c =
    let all = ahead c.args.stock.now (g.R.Read.remaining (source c.args.reader.now)) in
    let known = g.R.Read.remaining (source c.fill.new.reader) in
    let before = c.args.stock.now in
    let mid = c.fill.new.self in
    let after = c.skip.new.self in
    let bytes = c.unread-unread.result.now in
    let at = c.in-Some.at in
    let line = c.loop-stock.invariant.line in
    let taken : Takes all (ahead mid known) before mid line = Takes-kept _ _ _ _ _ _ _ c.loop-stock.invariant.taken c.in_ok-fill.ensures.kept c.in_ok-fill.ensures.budget in
    let split = sym c.unread-unread.ensures ∙ split_at bytes at c.in-Some.ensures.0.high c.in-Some.ensures.1 ∙ ap (λ l. take at bytes ++ 10 ∷ l) (ap (drop (at + 1)) c.unread-unread.ensures ∙ sym c.skip.ensures.unread) in (
      line ++ take at bytes,
      Takes-newline all known before mid after line (take at bytes) taken split c.skip.ensures.left (none_before bytes at c.in-Some.ensures.0.before),
      c.keep-fits.ensures line c.loop-stock.invariant.kept,
    )

pub loop-stock-preserved : goal.loop-stock-preserved
loop-stock-preserved g c =
    let all = ahead c.args.stock.now (g.R.Read.remaining (source c.args.reader.now)) in
    let known = g.R.Read.remaining (source c.fill.new.reader) in
    let before = c.args.stock.now in
    let mid = c.fill.new.self in
    let after = c.skip-in-None.new.self in
    let bytes = c.unread-unread.result.now in
    let line = c.loop-stock.invariant.line in
    let taken : Takes all (ahead mid known) before mid line = Takes-kept _ _ _ _ _ _ _ c.loop-stock.invariant.taken c.in_ok-fill.ensures.kept c.in_ok-fill.ensures.budget in
    let none = c.skip-in-None.ensures.unread ∙ ap (drop (length bytes)) (sym c.unread-unread.ensures) ∙ drop-length bytes in
    record {
      line = line ++ bytes;
      taken = Takes-all all known before mid after line bytes taken (sym c.unread-unread.ensures) none c.skip-in-None.ensures.left (none_at_all bytes c.in-None.ensures);
      kept = c.keep-fits-in-None.ensures line c.loop-stock.invariant.kept;
      failed = search rules;
      ends = search rules;
      quiet = search rules;
      stays = search rules;
      given = search rules;
      empty = search rules;
    }
