-- Operations on two grids of any type, from operations on two trees.
use Rattle.vdb_scene.proofs.Common.{subst, ◌≡◌, refl, sym, ap, ◌∙◌, ◌<◌, ◌≤◌, ℕ, Bool, true, false, cond, ◌||◌, List, [], ◌∷◌, Option, Some, None, is_none, unwrap_or, Result, Ok, Err, list_any, fun_ext, le-ltb, lt-ltb, vdb, coordinates, everywhere, Bits, Coord, Cell, Kind, roots, Field, as_field_of, combine, field, replace, with_states, IsOutcome, TreeRefusal, Memory, RootLimit, as_field_of_cell, as_field_of_roots, same_cells, beyond_limit, of_tree, kind_eq, kind_of, scalar_eq, Refusal, Scalar}
use Rattle.std.proofs.Common.{option_map}
use Rattle.vdb_value.specs.Values.{has_sums}
use Rattle.vdb_value.specs.declared.Kind.TheVariants as kinds
use Rattle.vdb_tree.specs.Field.{as_cell_of, lacks_sum, sum}
use Rattle.vdb_tree.proofs.AsFieldOf.{as_field_of_combine, as_outcome_of}
use Rattle.vdb_scene.specs.Refusals.{no_sum, other_kind}
use Rattle.vdb_scene.specs.declared.answer.Refusal.TheVariants as refusals
use Rattle.vdb_composite.specs.SumOutcome.{IsSumOutcome}
use Rattle.vdb_scene.specs.TwoGrids.{Gives, of_sum}
use Rattle.vdb_composite.specs.declared.sums.SumRefusal.{SumRefusal}
use Rattle.vdb_composite.specs.declared.sums.SumRefusal.TheVariants as sums

-- ---- operations before and after each value of a field is mapped

made_cond : {V U : Type 0} (make : V → U) (b : Bool) (x y : Cell V) → as_cell_of make (cond b x y) ≡ cond b (as_cell_of make x) (as_cell_of make y)
made_cond make true x y = refl
made_cond make false x y = refl

module _ {V U X Y : Type 0} (make : V → U) (make_other : X → Y) (state : Bool → Bool → Bool) where
  as_field_of_states : (f : Field V) (g : Field X) → as_field_of make (with_states state f g) ≡ with_states state (as_field_of make f) (as_field_of make_other g)
  as_field_of_states f g = same_cells _ _ _ (λ p inside. rw inside refl)

  module _ (eq : V → V → Bool) (made_eq : U → U → Bool) (same : (v w : V) → made_eq (make v) (make w) ≡ eq v w) (bits : Bits) where
    -- the outcome of a call that combines states
    pub as_outcome_of_states : (limit : ℕ) (f after : Field V) (g : Field X) (result : Result (Unit {0}) TreeRefusal)
        → IsOutcome eq bits limit f (with_states state f g) after result
        → IsOutcome made_eq bits limit (as_field_of make f) (with_states state (as_field_of make f) (as_field_of make_other g)) (as_field_of make after) result
    as_outcome_of_states limit f after g result h =
        as_outcome_of make f.background (λ p. record { value = (f.cell p).value; on = state (f.cell p).on (g.cell p).on }) eq made_eq same bits limit f after
        (with_states state (as_field_of make f) (as_field_of make_other g)) result (as_field_of_states f g) h

module _ {V U : Type 0} (make : V → U) (eq : V → V → Bool) (made_eq : U → U → Bool) (same : (v w : V) → made_eq (make v) (make w) ≡ eq v w) (bits : Bits) (limit : ℕ) where
  as_field_of_replace : (f g : Field V) → as_field_of make (replace f g) ≡ replace (as_field_of make f) (as_field_of make g)
  as_field_of_replace f g = same_cells _ _ _ (λ p inside. rw inside (made_cond make (g.cell p).on (g.cell p) (f.cell p)))

  -- the outcome of a call that replaces cells
  pub as_outcome_of_replace : (f after g : Field V) (result : Result (Unit {0}) TreeRefusal)
      → IsOutcome eq bits limit f (replace f g) after result
      → IsOutcome made_eq bits limit (as_field_of make f) (replace (as_field_of make f) (as_field_of make g)) (as_field_of make after) result
  as_outcome_of_replace f after g result h =
      as_outcome_of make f.background (λ p. cond (g.cell p).on (g.cell p) (f.cell p)) eq made_eq same bits limit f after
      (replace (as_field_of make f) (as_field_of make g)) result (as_field_of_replace f g) h

  -- the outcome of a call that combines values
  pub as_outcome_of_combine : (both : V → V → V) (both_made : U → U → U) → ((v w : V) → both_made (make v) (make w) ≡ make (both v w))
      → (f after g : Field V) (result : Result (Unit {0}) TreeRefusal)
      → IsOutcome eq bits limit f (combine both f g) after result
      → IsOutcome made_eq bits limit (as_field_of make f) (combine both_made (as_field_of make f) (as_field_of make g)) (as_field_of make after) result
  as_outcome_of_combine both both_made alike f after g result h =
      as_outcome_of make (both f.background g.background) (λ p. record { value = both (f.cell p).value (g.cell p).value; on = (f.cell p).on || (g.cell p).on }) eq made_eq same bits limit f after
      (combine both_made (as_field_of make f) (as_field_of make g)) result (as_field_of_combine make both both_made f g (λ v w. sym (alike v w))) h

-- ---- errors

kind_same : (k : Kind) → kind_eq k k ≡ true
kind_same kinds.Bool = refl
kind_same kinds.I32 = refl
kind_same kinds.I64 = refl

-- two equal types
pub one_kind : (k l m : Kind) → k ≡ m → l ≡ m → kind_eq k l ≡ true
one_kind k l m e f = rw (e, f) (kind_same m)

-- a type that has sums, since its Rattle type has
pub sums_of : (k m : Kind) (there : Bool) → k ≡ m → there ≡ has_sums m → there ≡ true → has_sums k ≡ true
sums_of k m there e by is = ap has_sums e ∙ sym by ∙ is

module _ (limit : ℕ) (f : Field Scalar) where
  pub within_limit : roots scalar_eq vdb f ≤ limit → beyond_limit limit f ≡ None
  within_limit few = ap (λ (b : Bool). cond b (Some refusals.RootLimit) None) (le-ltb _ _ few)

  pub past_limit : limit < roots scalar_eq vdb f → beyond_limit limit f ≡ Some refusals.RootLimit
  past_limit many = ap (λ (b : Bool). cond b (Some refusals.RootLimit) None) (lt-ltb _ _ many)

module _ (limit : ℕ) (f g changed new : Field Scalar) where
  -- an error of a tree whose states were to change
  pub states_refused : (e : TreeRefusal) → IsOutcome scalar_eq vdb limit f changed new (Err e) → Gives (beyond_limit limit changed ∷ []) f changed new (Err (of_tree e))
  states_refused RootLimit h = (rw (past_limit limit changed h.1) refl, h.0)
  states_refused Memory h = (rw (within_limit limit changed h.1) refl, h.0)

  module _ (kinds : kind_eq (kind_of f.background) (kind_of g.background) ≡ true) where
    -- values of two grids of one type
    pub values_give : (u : Unit {0}) → IsOutcome scalar_eq vdb limit f changed new (Ok u) → Gives (other_kind f g ∷ beyond_limit limit changed ∷ []) f changed new (Ok u)
    values_give u h = (rw (kinds, within_limit limit changed h.1) refl, h.0)

    pub values_refused : (e : TreeRefusal) → IsOutcome scalar_eq vdb limit f changed new (Err e) → Gives (other_kind f g ∷ beyond_limit limit changed ∷ []) f changed new (Err (of_tree e))
    values_refused RootLimit h = (rw (kinds, past_limit limit changed h.1) refl, h.0)
    values_refused Memory h = (rw (kinds, within_limit limit changed h.1) refl, h.0)

-- ---- sums

made_or : {V U : Type 0} (make : V → U) (o : Option V) (v : V) → make (unwrap_or o v) ≡ unwrap_or (option_map make o) (make v)
made_or make None v = refl
made_or make (Some w) v = refl

none_made : {V U : Type 0} (make : V → U) (o : Option V) → is_none (option_map make o) ≡ is_none o
none_made make None = refl
none_made make (Some w) = refl

module _ {V U : Type 0} (make : V → U) (eq : V → V → Bool) (made_eq : U → U → Bool) (same : (v w : V) → made_eq (make v) (make w) ≡ eq v w)
    (plus : V → V → Option V) (plus_made : U → U → Option U) (alike : (v w : V) → plus_made (make v) (make w) ≡ option_map make (plus v w))
    (b c : V) (cells others : Coord → Cell V) where
  abbrev F : Field V
  F = field b cells

  abbrev G : Field V
  G = field c others

  abbrev as_f : Field U
  as_f = as_field_of make F

  abbrev as_g : Field U
  as_g = as_field_of make G

  as_lacks_sum : lacks_sum plus_made as_f as_g ≡ lacks_sum plus F G
  as_lacks_sum = ap (λ (test : Coord → Bool). list_any test (coordinates everywhere)) (fun_ext (λ p.
      ap (λ (x : Cell U). is_none (plus_made x.value (as_g.cell p).value)) (as_field_of_cell make b cells p)
      ∙ ap (λ (x : Cell U). is_none (plus_made (make (F.cell p).value) x.value)) (as_field_of_cell make c others p)
      ∙ ap is_none (alike (F.cell p).value (G.cell p).value) ∙ none_made make (plus (F.cell p).value (G.cell p).value)))

  as_sum : as_field_of make (sum plus F G) ≡ sum plus_made as_f as_g
  as_sum = as_field_of_combine make (λ v w. unwrap_or (plus v w) v) (λ v w. unwrap_or (plus_made v w) v) F G
      (λ v w. made_or make (plus v w) v ∙ ap (λ o. unwrap_or o (make v)) (sym (alike v w)))

  as_sum_roots : (bits : Bits) → roots made_eq bits (sum plus_made as_f as_g) ≡ roots eq bits (sum plus F G)
  as_sum_roots bits = ap (roots made_eq bits) (sym as_sum)
      ∙ as_field_of_roots make (unwrap_or (plus b c) b) (λ p. record { value = unwrap_or (plus (F.cell p).value (G.cell p).value) (F.cell p).value; on = (F.cell p).on || (G.cell p).on }) eq made_eq same bits

  -- the outcome of a sum
  pub as_sum_outcome_ok : (bits : Bits) (limit : ℕ) (new : Field V) (u : Unit {0}) → IsSumOutcome eq plus bits limit F G new (Ok u) → IsSumOutcome made_eq plus_made bits limit as_f as_g (as_field_of make new) (Ok u)
  as_sum_outcome_ok bits limit new u h = (as_lacks_sum ∙ h.0, subst (λ (n : ℕ). n ≤ limit) (sym (as_sum_roots bits)) h.1, ap (as_field_of make) h.2 ∙ as_sum)

  pub as_sum_outcome_err : (bits : Bits) (limit : ℕ) (new : Field V) (e : SumRefusal) → IsSumOutcome eq plus bits limit F G new (Err e) → IsSumOutcome made_eq plus_made bits limit as_f as_g (as_field_of make new) (Err e)
  as_sum_outcome_err bits limit new sums.SumRange h = (as_lacks_sum ∙ h.0, ap (as_field_of make) h.1)
  as_sum_outcome_err bits limit new sums.RootLimit h = (as_lacks_sum ∙ h.0, subst (λ (n : ℕ). limit < n) (sym (as_sum_roots bits)) h.1, ap (as_field_of make) h.2)
  as_sum_outcome_err bits limit new sums.Memory h = (as_lacks_sum ∙ h.0, subst (λ (n : ℕ). n ≤ limit) (sym (as_sum_roots bits)) h.1, ap (as_field_of make) h.2)

module _ (plus : Scalar → Scalar → Option Scalar) (limit : ℕ) (f g new : Field Scalar) (kinds : kind_eq (kind_of f.background) (kind_of g.background) ≡ true) (sums_there : has_sums (kind_of f.background) ≡ true) where
  abbrev tried : List (Option Refusal)
  tried = other_kind f g ∷ no_sum f ∷ cond (lacks_sum plus f g) (Some refusals.SumRange) None ∷ beyond_limit limit (sum plus f g) ∷ []

  pub sum_gives : (u : Unit {0}) → IsSumOutcome scalar_eq plus vdb limit f g new (Ok u) → Gives tried f (sum plus f g) new (Ok u)
  sum_gives u h = (rw (kinds, sums_there, h.0, within_limit limit (sum plus f g) h.1) refl, h.2)

  pub sum_refused : (e : SumRefusal) → IsSumOutcome scalar_eq plus vdb limit f g new (Err e) → Gives tried f (sum plus f g) new (Err (of_sum e))
  sum_refused sums.SumRange h = (rw (kinds, sums_there, h.0) refl, h.1)
  sum_refused sums.RootLimit h = (rw (kinds, sums_there, h.0, past_limit limit (sum plus f g) h.1) refl, h.2)
  sum_refused sums.Memory h = (rw (kinds, sums_there, h.0, within_limit limit (sum plus f g) h.1) refl, h.2)
