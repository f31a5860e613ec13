-- A write of one type as one of any type.
use Rattle.vdb_c.proofs.Common.{◌≡◌, ◌<◌, refl, sym, subst, ℕ, ℤ, pos, Bool, List, length, get_or, IsSome, Ok, Option, Some, None, slice_get, vdb, Coord, Field, as_field_of, as_write_of, write, Write, Scalar, I64, IsWrittenBy, change_at, change_of}
use Rattle.std.proofs.lemmas.Option.{slice_get-get_or}
use Rattle.vdb_tree.specs.Outcome.{IsOutcome}
use Rattle.vdb_tree.proofs.AsFieldOf.{as_outcome_of_write}
use Rattle.vdb_scene.specs.Scalars.{scalar_eq}

module _ {V : Type 0} (make : V → Scalar) (eq : V → V → Bool) (same : (v w : V) → scalar_eq (make v) (make w) ≡ eq v w) where
  pub written_as : (limit : ℕ) (p : Coord) (w : Write V) (f after : Field V) (given : Option (Write Scalar)) → Some (as_write_of make w) ≡ given
      → IsOutcome eq vdb limit f (write p w f) after (Ok tt) → IsWrittenBy limit p given (as_field_of make f) (as_field_of make after) (Ok tt)
  written_as limit p w f after given is h =
      subst (λ (o : Option (Write Scalar)). IsWrittenBy limit p o (as_field_of make f) (as_field_of make after) (Ok tt)) is
      (as_outcome_of_write make eq scalar_eq same vdb limit p w f after (Ok tt) h, λ _. refl)

-- ---- each number is one of 64 bits

some_of_number : (n : ℤ) (o : Option ℕ) → IsSome (change_of I64 (Some n) o)
some_of_number n None = refl
some_of_number n (Some s) = refl

some_of_state : (o : Option ℤ) (s : ℕ) → IsSome (change_of I64 o (Some s))
some_of_state None s = refl
some_of_state (Some n) s = refl

module _ (values : List ℤ) (states : List ℕ) (k : ℕ) where
  pub any_number : k < length values → IsSome (change_at I64 values states k)
  any_number l =
      subst (λ (o : Option ℤ). IsSome (change_of I64 o (slice_get states k))) (sym (slice_get-get_or values k (pos 0) l)) (some_of_number (get_or values k (pos 0)) (slice_get states k))

  pub any_state : k < length states → IsSome (change_at I64 values states k)
  any_state l =
      subst (λ (o : Option ℕ). IsSome (change_of I64 (slice_get values k) o)) (sym (slice_get-get_or states k 0 l)) (some_of_state (slice_get values k) (get_or states k 0))
