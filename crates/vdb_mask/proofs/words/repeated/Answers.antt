use Rattle.std.proofs.Common.{sym, ◌∙◌}
use Rattle.vdb_mask.proofs.WordBits.{has_bit-ones}
use Rattle.vdb_mask.proofs.words.repeated.Goals as goal

pub returns-then-value : goal.returns-then-value
returns-then-value c = λ j h. has_bit-ones j h ∙ sym c.if-value.true
