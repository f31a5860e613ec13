use Rattle.std.proofs.Common.{◌*◌, ℕ, length, take}
use Rattle.vdb_mask.proofs.FirstWords.{enough_words, within_words, IsFirstOnAt-first_words, none_on-first_words}
use Rattle.vdb_mask.proofs.Mask.next_on_or_other.Goals as goal

pub returns-in_err-index : goal.returns-in_err-index
returns-in_err-index g c =
    let last : ℕ = c.div_ceil-last.result in
    rw (← c.self.view_is, ← c.other.view_is, c.from_residual.ensures)
    (none_on-first_words c.args.value c.self.inside.words c.other.inside.words last c.args.to c.args.from
    (enough_words c.args.to last c.div_ceil-last.ensures) (64 * length (take last c.self.inside.words))
    (within_words c.self.inside.words c.args.to last g.row.W c.self.told c.requires.to_within c.div_ceil-last.ensures) c.in_err-index.ensures)

pub returns-then-index-to : goal.returns-then-index-to
returns-then-index-to g c =
    let last : ℕ = c.div_ceil-last.result in
    rw (← c.self.view_is, ← c.other.view_is)
    (IsFirstOnAt-first_words c.args.value c.self.inside.words c.other.inside.words last c.args.to c.args.from
    (enough_words c.args.to last c.div_ceil-last.ensures) (64 * length (take last c.self.inside.words)) c.in_ok-index.index c.if-index-to.true
    c.in_ok-index.ensures)

pub returns-else-index-to : goal.returns-else-index-to
returns-else-index-to g c =
    let last : ℕ = c.div_ceil-last.result in
    let first = c.in_ok-index.ensures in
    rw (← c.self.view_is, ← c.other.view_is)
    (none_on-first_words c.args.value c.self.inside.words c.other.inside.words last c.args.to c.args.from
    (enough_words c.args.to last c.div_ceil-last.ensures) c.in_ok-index.index c.if-index-to.false first.before)
