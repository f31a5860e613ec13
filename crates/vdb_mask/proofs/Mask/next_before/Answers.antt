use Rattle.std.proofs.Common.{◌*◌, ℕ, length, take}
use Rattle.vdb_mask.proofs.FirstWords.{enough_words, within_words, IsNextAt-first_words, none-first_words}
use Rattle.vdb_mask.proofs.Mask.next_before.Goals as goal

pub returns-in_err-index : goal.returns-in_err-index
returns-in_err-index g c =
    let last : ℕ = c.div_ceil-last.result in
    rw (← c.self.view_is, c.from_residual.ensures)
    (none-first_words c.args.value c.self.inside.words last c.args.to c.args.from (enough_words c.args.to last c.div_ceil-last.ensures)
    (64 * length (take last c.self.inside.words))
    (within_words c.self.inside.words c.args.to last g.row.W c.self.told c.requires.to_within c.div_ceil-last.ensures) c.in_err-index.ensures)

pub returns-then-index-to : goal.returns-then-index-to
returns-then-index-to g c =
    let last : ℕ = c.div_ceil-last.result in
    rw (← c.self.view_is)
    (IsNextAt-first_words c.args.value c.self.inside.words last c.args.to c.args.from (enough_words c.args.to last c.div_ceil-last.ensures)
    (64 * length (take last c.self.inside.words)) c.in_ok-index.index c.if-index-to.true c.in_ok-index.ensures)

pub returns-else-index-to : goal.returns-else-index-to
returns-else-index-to g c =
    let last : ℕ = c.div_ceil-last.result in
    let next = c.in_ok-index.ensures in
    rw (← c.self.view_is)
    (none-first_words c.args.value c.self.inside.words last c.args.to c.args.from (enough_words c.args.to last c.div_ceil-last.ensures)
    c.in_ok-index.index c.if-index-to.false next.before)
