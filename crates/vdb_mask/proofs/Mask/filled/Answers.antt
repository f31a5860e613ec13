use Rattle.std.proofs.Common.{arith, ◌∙◌}
use Rattle.vdb_mask.proofs.RowBits.{is_on-replicate, is_on-replicate_past}
use Rattle.vdb_mask.proofs.Mask.filled.Goals as goal

pub returns-clause-within : goal.returns-clause-within
returns-clause-within g c = λ i h. is_on-replicate g.row.W c.repeated.result i h ∙ c.repeated.ensures _ (omega arith)

pub returns-clause-past_end : goal.returns-clause-past_end
returns-clause-past_end g c = λ i h. is_on-replicate_past g.row.W c.repeated.result i h
