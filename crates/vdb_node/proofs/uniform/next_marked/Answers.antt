use Rattle.vdb_node.proofs.Common.{◌≡◌, ℕ, Bool, true, false, List, refl, inl, inr, not, cases_Bool, is_on}
use Rattle.vdb_mask.specs.Mask.{is_value}
use Rattle.vdb_node.proofs.Entries.{or_false_r}
use Rattle.vdb_node.proofs.uniform.next_marked.Goals as goal

-- a state that is not the opposite of another is that one
not_other : (on : Bool) (mask : List Bool) (i : ℕ) → is_value (not on) mask i ≡ false → is_on mask i ≡ on
not_other true mask i e =
    elim (cases_Bool (is_on mask i)) [
      | inl same ↦ same
      | inr off ↦ absurd (let other : is_value (not true) mask i ≡ true = rw off refl in cc)
    ]
not_other false mask i e = e

pub returns-in-Some-clause-same : goal.returns-in-Some-clause-same
returns-in-Some-clause-same g c = λ i least less.
    let first = c.in-Some.ensures in
    not_other c.args.on c.args.states.now i (or_false_r (is_on c.args.mask.now i) _ (first.before i least less))

pub returns-in-None-clause-same : goal.returns-in-None-clause-same
returns-in-None-clause-same g c = λ i least less.
    not_other c.args.on c.args.states.now i (or_false_r (is_on c.args.mask.now i) _ (c.in-None.ensures i least less))
