use Rattle.std.proofs.Common.{sym, ◌∙◌}
use Rattle.vdb_script.proofs.Splitting.{no_token, some_token}
use Rattle.vdb_script.proofs.tokens.first_token.Goals as goal

pub returns-then-is_empty-clause-none : goal.returns-then-is_empty-clause-none
returns-then-is_empty-clause-none c =
    no_token c.args.line.now c.separators_before.result c.separators_before.ensures (sym c.is_empty.ensures ∙ c.if-is_empty.true)

pub returns-clause-some : goal.returns-clause-some
returns-clause-some c =
    let e = some_token c.args.line.now c.separators_before.result c.bytes_before_separator.result c.separators_before.ensures (sym c.is_empty.ensures ∙ c.if-is_empty.false) c.bytes_before_separator.ensures in
    let front = c.split_at.ensures.front in
    let back = c.split_at.ensures.back in
    cc
