use Rattle.std.proofs.Common.{arith}
use Rattle.vdb_mask.proofs.RowBits.{is_on-past}
use Rattle.vdb_mask.proofs.Mask.copied.Goals as goal

pub returns-clause-past_end : goal.returns-clause-past_end
returns-clause-past_end g c = λ i h. is_on-past c.self.inside.words i (omega (arith, h, c.self.told))
