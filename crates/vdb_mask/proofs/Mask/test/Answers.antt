use Rattle.std.proofs.lemmas.Nat.Bits.{shr_and_one}
use Rattle.vdb_mask.proofs.RowBits.{is_on-bits_of}
use Rattle.vdb_mask.proofs.Mask.test.Goals as goal

pub returns : goal.returns
returns g c = rw (← c.self.view_is, shr_and_one) (is_on-bits_of c.self.inside.words c.args.i)
