-- Writes of many voxels, one after another.
use Rattle.vdb_c.proofs.Common.{◌≡◌, refl, sym, ap, ◌∙◌, subst, ℕ, ◌+◌, ℤ, true, false, Result, Ok, Err, Option, Some, None, suc-eq-add-one, Coord, Field, write, Write, TreeRefusal, Scalar, IsWrittenBy, tree_code, IsRefusedIn, after_writes, write_any}
use Rattle.std.specs.Prelude.{is_err}
use Rattle.vdb_c.specs.Calls.{IsWrittenIn}

true_false : true ≡ false → ⊥
true_false e = cc

module _ (voxel : ℕ → Coord) (change : ℕ → Option (Write Scalar)) (k : ℕ) (p : Coord) (here : p ≡ voxel k) (given : Option (Write Scalar)) (is : given ≡ change k)
    (start old new : Field Scalar) (before : old ≡ after_writes voxel change k start) (limit : ℕ) where
  step : (w : Write Scalar) → given ≡ Some w → write p w old ≡ after_writes voxel change (k + 1) start
  step w e =
      ap (write p w) before ∙ ap (λ q. write q w (after_writes voxel change k start)) here
      ∙ ap (λ o. write_any (voxel k) o (after_writes voxel change k start)) (sym e ∙ is)
      ∙ ap (λ n. after_writes voxel change n start) (suc-eq-add-one k)

  done_by : (o : Option (Write Scalar)) → given ≡ o → (r : Result (Unit {0}) TreeRefusal) → is_err r ≡ false → IsWrittenBy limit p o old new r → new ≡ after_writes voxel change (k + 1) start
  done_by None e r h o = absurd o
  done_by (Some w) e (Ok x) h o = o.0.0 ∙ step w e
  done_by (Some w) e (Err refusal) h o = absurd (true_false h)

  -- one more write is done
  pub one_done : (r : Result (Unit {0}) TreeRefusal) → is_err r ≡ false → IsWrittenBy limit p given old new r → new ≡ after_writes voxel change (k + 1) start
  one_done = done_by given refl

  refused_by : (o : Option (Write Scalar)) → given ≡ o → (r : Result (Unit {0}) TreeRefusal) → is_err r ≡ true → (code : ℤ) → code ≡ tree_code r → IsWrittenBy limit p o old new r
      → (new ≡ after_writes voxel change k start) × IsRefusedIn limit (voxel k) (change k) new code
  refused_by None e r h code c o = absurd o
  refused_by (Some w) e (Ok x) h code c o = absurd (true_false (sym h))
  refused_by (Some w) e (Err refusal) h code c o = (
    o.0.0 ∙ before,
    subst (λ q. IsRefusedIn limit q (change k) new code) here
        (subst (λ d. IsRefusedIn limit p d new code) (sym e ∙ is) (refusal, c, subst (λ (f : Field Scalar). IsWrittenIn limit p w f new (Err refusal)) (sym o.0.0) o)),
  )

  -- the next write fails
  pub one_refused : (r : Result (Unit {0}) TreeRefusal) → is_err r ≡ true → (code : ℤ) → code ≡ tree_code r → IsWrittenBy limit p given old new r → (limit' : ℕ) → limit' ≡ limit
      → (new ≡ after_writes voxel change k start) × IsRefusedIn limit' (voxel k) (change k) new code
  one_refused r h code c o limit' e =
      let all = refused_by given refl r h code c o in (all.0, subst (λ (n : ℕ). IsRefusedIn n (voxel k) (change k) new code) (sym e) all.1)
