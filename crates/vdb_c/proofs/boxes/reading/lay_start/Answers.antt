use Rattle.vdb_c.proofs.Common.{◌≡◌, ap, refl, Bool, true, false, ◌&&◌, off}
use Rattle.vdb_c.proofs.Laid.{laid_none, laid_same, laid_within}
use Rattle.vdb_c.proofs.boxes.reading.lay_start.Goals as goal

and_false : (a : Bool) → (a && false) ≡ false
and_false true = refl
and_false false = refl

and_true : (a : Bool) → a ≡ (a && true)
and_true true = refl
and_true false = refl

pub returns-then-is_in_root_block-clause-values : goal.returns-then-is_in_root_block-clause-values
returns-then-is_in_root_block-clause-values g c = laid_none _ _ _ _ _ (λ p. and_false _)

pub returns-then-is_in_root_block-clause-states : goal.returns-then-is_in_root_block-clause-states
returns-then-is_in_root_block-clause-states g c = laid_none _ _ _ _ _ (λ p. and_false _)

pub returns-clause-values : goal.returns-clause-values
returns-clause-values g c =
    laid_within _ _ _ _ _ _ _ (λ p. and_true _) (laid_same _ _ _ _ _ _ _ (λ p i. ap (λ v. g.S.Shown.of (off v)) c.background.ensures) (c.lay_part.ensures (off c.background.result)))

pub returns-clause-states : goal.returns-clause-states
returns-clause-states g c = laid_within _ _ _ _ _ _ _ (λ p. and_true _) (c.lay_part-2.ensures (off c.background.result))
