use Rattle.std.proofs.Common.{◌*◌, ◌%◌, ◌/◌, ◌<◌, ◌∙◌, arith, get_or, length, refl, w64}
use Rattle.std.proofs.lemmas.Nat.Bits.{bit_at_clear_other, bit_at_clear_same}
use Rattle.vdb_mask.proofs.RowBits.{is_on-set_bit, is_on-set_kept}
use Rattle.vdb_mask.proofs.Mask.clear.Goals as goal

pub returns-clause-here : goal.returns-clause-here
returns-clause-here g c =
    let within : c.args.i < 64 * length c.self.inside.words = omega (arith, c.self.told, c.requires) in
    is_on-set_bit c.self.inside.words c.args.i _ within
    ∙ rw (bit_at_clear_same w64 (get_or c.self.inside.words (c.args.i / 64) 0) (c.args.i % 64) (omega arith)) refl

pub returns-clause-others : goal.returns-clause-others
returns-clause-others g c =
    let within : c.args.i < 64 * length c.self.inside.words = omega (arith, c.self.told, c.requires) in
    rw (← c.self.view_is)
    (is_on-set_kept c.self.inside.words c.args.i _ within
    (λ j h other. bit_at_clear_other w64 (get_or c.self.inside.words (c.args.i / 64) 0) (c.args.i % 64) (omega arith) j h other))
