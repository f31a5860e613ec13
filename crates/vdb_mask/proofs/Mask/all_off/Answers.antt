use Rattle.vdb_mask.proofs.Common.{◌*◌, inl, inr, length, cases_lt}
use Rattle.vdb_mask.proofs.RowBits.{is_on-past}
use Rattle.vdb_mask.proofs.Mask.all_off.Goals as goal

pub returns : goal.returns
returns g c =
    rw (← c.self.view_is) (
      λ yes i.
          elim (cases_lt i (64 * length c.self.inside.words)) [
            | inl h ↦ c.are_all.ensures.0 yes i h
            | inr h ↦ is_on-past c.self.inside.words i h
          ],
      λ off. c.are_all.ensures.1 (λ i _. off i),
    )
