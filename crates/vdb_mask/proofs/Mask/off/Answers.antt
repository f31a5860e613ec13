use Rattle.vdb_mask.proofs.Common.{◌*◌, inl, inr, ◌∙◌, cases_lt}
use Rattle.vdb_mask.proofs.RowBits.{is_on-replicate, is_on-replicate_past}
use Rattle.vdb_mask.proofs.WordBits.{has_bit-zero}
use Rattle.vdb_mask.proofs.Mask.off.Goals as goal

pub returns : goal.returns
returns g c = λ i.
    elim (cases_lt i (64 * g.row.W)) [
      | inl h ↦ is_on-replicate g.row.W 0 i h ∙ has_bit-zero _
      | inr h ↦ is_on-replicate_past g.row.W 0 i h
    ]
