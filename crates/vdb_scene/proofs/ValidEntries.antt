-- Entries by rising keys, and what holds of each of them, after a change.
use Rattle.vdb_scene.proofs.Common.{◌≡◌, ◌∙◌, refl, ap, subst, ℕ, ◌+◌, ◌≤◌, Bool, true, false, cond, List, [], ◌∷◌, length, Option, Some, None, is_some, unwrap_or, arith, IsTotalOrder, AllByRecursion, option_map, keys_of, lookup, remove_entry, set_value, insert_entry, match_ordering, ordering_reverse, Ordering, Less, Equal, Greater}
use Rattle.std.specs.List.{sum_by}
use Rattle.std.proofs.lemmas.List.Sums.{sum_by-cons}
use Rattle.std.proofs.lemmas.Map.Entries.{length-values_of, sum_by-insert_entry}
use Rattle.std.specs.List.Sorted.{IsStrictlySortedBy}
use Rattle.std.specs.Map.{values_of}
use Rattle.std.specs.BTreeMap.{is_at}

module _ {K X : Type 0} where
  -- ---- the number of entries

  inserted_length : (o : Ordering) (k l : K) (w x : X) (es fs : List (K × X)) → length fs ≤ length es + 1
      → length (match_ordering o ((k, w) ∷ (l, x) ∷ es) ((l, w) ∷ es) ((l, x) ∷ fs)) ≤ length es + 2
  inserted_length Less k l w x es fs h = omega arith
  inserted_length Equal k l w x es fs h = omega arith
  inserted_length Greater k l w x es fs h = omega (arith, h)

  pub length_inserted : (compare : K → K → Ordering) (es : List (K × X)) (k : K) (w : X) → length (insert_entry compare es k w) ≤ length es + 1
  length_inserted compare [] k w = omega arith
  length_inserted compare (e ∷ es) k w =
      let h = inserted_length (compare k e.0) k e.0 w e.1 es (insert_entry compare es k w) (length_inserted compare es k w) in omega (arith, h)

  removed_length : (b : Bool) (e : K × X) (es fs : List (K × X)) → length fs ≤ length es → length (cond b es (e ∷ fs)) ≤ length es + 1
  removed_length true e es fs h = omega arith
  removed_length false e es fs h = omega (arith, h)

  pub length_removed : (t : K → Bool) (es : List (K × X)) → length (remove_entry t es) ≤ length es
  length_removed t [] = omega arith
  length_removed t (e ∷ es) = let h = removed_length (t e.0) e es (remove_entry t es) (length_removed t es) in omega (arith, h)

  -- ---- what holds of each entry

  module _ (P : K × X → Type 0) where
    inserted_all : (o : Ordering) (k l : K) (w x : X) (es fs : List (K × X)) → P (k, w) → P (l, w) → P (l, x) → AllByRecursion P es → AllByRecursion P fs
        → AllByRecursion P (match_ordering o ((k, w) ∷ (l, x) ∷ es) ((l, w) ∷ es) ((l, x) ∷ fs))
    inserted_all Less k l w x es fs new here old rest h = (new, (old, rest))
    inserted_all Equal k l w x es fs new here old rest h = (here, rest)
    inserted_all Greater k l w x es fs new here old rest h = (old, h)

    pub all_inserted : (compare : K → K → Ordering) (es : List (K × X)) (k : K) (w : X) → P (k, w) → ((l : K) (x : X) → P (l, x) → P (l, w)) → AllByRecursion P es → AllByRecursion P (insert_entry compare es k w)
    all_inserted compare [] k w new turn h = (new, tt)
    all_inserted compare (e ∷ es) k w new turn h =
        inserted_all (compare k e.0) k e.0 w e.1 es (insert_entry compare es k w) new (turn e.0 e.1 h.0) h.0 h.1 (all_inserted compare es k w new turn h.1)

    put_all : (b : Bool) (k : K) (x w : X) (es fs : List (K × X)) → P (k, x) → P (k, w) → AllByRecursion P es → AllByRecursion P fs → AllByRecursion P (cond b ((k, w) ∷ es) ((k, x) ∷ fs))
    put_all true k x w es fs old new rest h = (new, rest)
    put_all false k x w es fs old new rest h = (old, h)

    pub all_put : (t : K → Bool) (es : List (K × X)) (w : X) → ((l : K) (x : X) → P (l, x) → P (l, w)) → AllByRecursion P es → AllByRecursion P (set_value t es w)
    all_put t [] w turn h = tt
    all_put t (e ∷ es) w turn h = put_all (t e.0) e.0 e.1 w es (set_value t es w) h.0 (turn e.0 e.1 h.0) h.1 (all_put t es w turn h.1)

    removed_all : (b : Bool) (e : K × X) (es fs : List (K × X)) → P e → AllByRecursion P es → AllByRecursion P fs → AllByRecursion P (cond b es (e ∷ fs))
    removed_all true e es fs first rest h = rest
    removed_all false e es fs first rest h = (first, h)

    pub all_removed : (t : K → Bool) (es : List (K × X)) → AllByRecursion P es → AllByRecursion P (remove_entry t es)
    all_removed t [] h = tt
    all_removed t (e ∷ es) h = removed_all (t e.0) e es (remove_entry t es) h.0 h.1 (all_removed t es h.1)

    found_first : (b : Bool) (k : K) (x w : X) (o : Option X) → P (k, x) → cond b (Some x) o ≡ Some w → ((o ≡ Some w) → (l : K) × P (l, w)) → (l : K) × P (l, w)
    found_first true k x w o h is more = (k, subst (λ v. P (k, v)) (some_exact x w is) h)
      where
        some_exact : (x w : X) → Some x ≡ Some w → x ≡ w
        some_exact x w h = cc
    found_first false k x w o h is more = more is

    -- what holds of each entry holds of the value that is found, with its key
    pub all_found : (t : K → Bool) (es : List (K × X)) (w : X) → lookup t es ≡ Some w → AllByRecursion P es → (l : K) × P (l, w)
    all_found t [] w is h = absurd cc
    all_found t (e ∷ es) w is h = found_first (t e.0) e.0 e.1 w (lookup t es) h.0 is (λ later. all_found t es w later h.1)

-- ---- the order of the keys

module _ {K : Type 0} (compare : K → K → Ordering) (order : IsTotalOrder compare) where
  -- keys above one key are above each key below that
  above : (k l : K) (ks : List K) → compare k l ≡ Less → AllByRecursion (λ j. compare l j ≡ Less) ks → AllByRecursion (λ j. compare k j ≡ Less) ks
  above k l [] below h = tt
  above k l (j ∷ ks) below h = (order.trans k l j below h.0, above k l ks below h.1)

  -- a key above another one lies after it
  after : (k l : K) → compare k l ≡ Greater → compare l k ≡ Less
  after k l h = order.antisymm l k ∙ ap ordering_reverse h

module _ {K X : Type 0} (compare : K → K → Ordering) (order : IsTotalOrder compare) where
  above_inserted : (o : Ordering) (j k l : K) (w x : X) (es fs : List (K × X)) → compare j k ≡ Less → compare j l ≡ Less
      → AllByRecursion (λ i. compare j i ≡ Less) (keys_of es) → AllByRecursion (λ i. compare j i ≡ Less) (keys_of fs)
      → AllByRecursion (λ i. compare j i ≡ Less) (keys_of (match_ordering o ((k, w) ∷ (l, x) ∷ es) ((l, w) ∷ es) ((l, x) ∷ fs)))
  above_inserted Less j k l w x es fs new old rest h = (new, (old, rest))
  above_inserted Equal j k l w x es fs new old rest h = (old, rest)
  above_inserted Greater j k l w x es fs new old rest h = (old, h)

  -- the inserted key is above those below it
  all_above : (j : K) (es : List (K × X)) (k : K) (w : X) → compare j k ≡ Less → AllByRecursion (λ i. compare j i ≡ Less) (keys_of es) → AllByRecursion (λ i. compare j i ≡ Less) (keys_of (insert_entry compare es k w))
  all_above j [] k w new h = (new, tt)
  all_above j (e ∷ es) k w new h = above_inserted (compare k e.0) j k e.0 w e.1 es (insert_entry compare es k w) new h.0 h.1 (all_above j es k w new h.1)

  sorted_step : (o : Ordering) (k l : K) (w x : X) (es fs : List (K × X)) → compare k l ≡ o → AllByRecursion (λ i. compare l i ≡ Less) (keys_of es) → IsStrictlySortedBy compare (keys_of es)
      → (compare l k ≡ Less → AllByRecursion (λ i. compare l i ≡ Less) (keys_of fs)) → IsStrictlySortedBy compare (keys_of fs)
      → IsStrictlySortedBy compare (keys_of (match_ordering o ((k, w) ∷ (l, x) ∷ es) ((l, w) ∷ es) ((l, x) ∷ fs)))
  unfolding IsStrictlySortedBy
  sorted_step Less k l w x es fs is first rest over h = ((is, above compare order k l (keys_of es) is first), (first, rest))
  sorted_step Equal k l w x es fs is first rest over h = (first, rest)
  sorted_step Greater k l w x es fs is first rest over h = (over (after compare order k l is), h)

  -- keys rise after an insertion
  pub sorted_inserted : (es : List (K × X)) (k : K) (w : X) → IsStrictlySortedBy compare (keys_of es) → IsStrictlySortedBy compare (keys_of (insert_entry compare es k w))
  unfolding IsStrictlySortedBy
  sorted_inserted [] k w h = (tt, tt)
  sorted_inserted (e ∷ es) k w h =
      sorted_step (compare k e.0) k e.0 w e.1 es (insert_entry compare es k w) refl h.0 h.1 (λ below. all_above e.0 es k w below h.0) (sorted_inserted es k w h.1)

module _ {K X : Type 0} (compare : K → K → Ordering) (t : K → Bool) where
  above_removed : (b : Bool) (j : K) (e : K × X) (es fs : List (K × X)) → compare j e.0 ≡ Less → AllByRecursion (λ i. compare j i ≡ Less) (keys_of es) → AllByRecursion (λ i. compare j i ≡ Less) (keys_of fs)
      → AllByRecursion (λ i. compare j i ≡ Less) (keys_of (cond b es (e ∷ fs)))
  above_removed true j e es fs first rest h = rest
  above_removed false j e es fs first rest h = (first, h)

  all_above_removed : (j : K) (es : List (K × X)) → AllByRecursion (λ i. compare j i ≡ Less) (keys_of es) → AllByRecursion (λ i. compare j i ≡ Less) (keys_of (remove_entry t es))
  all_above_removed j [] h = tt
  all_above_removed j (e ∷ es) h = above_removed (t e.0) j e es (remove_entry t es) h.0 h.1 (all_above_removed j es h.1)

  removed_step : (b : Bool) (e : K × X) (es fs : List (K × X)) → AllByRecursion (λ i. compare e.0 i ≡ Less) (keys_of fs) → IsStrictlySortedBy compare (keys_of es) → IsStrictlySortedBy compare (keys_of fs)
      → IsStrictlySortedBy compare (keys_of (cond b es (e ∷ fs)))
  unfolding IsStrictlySortedBy
  removed_step true e es fs first rest h = rest
  removed_step false e es fs first rest h = (first, h)

  -- keys rise after a removal
  pub sorted_removed : (es : List (K × X)) → IsStrictlySortedBy compare (keys_of es) → IsStrictlySortedBy compare (keys_of (remove_entry t es))
  unfolding IsStrictlySortedBy
  sorted_removed [] h = tt
  sorted_removed (e ∷ es) h = removed_step (t e.0) e es (remove_entry t es) (all_above_removed e.0 es h.0) h.1 (sorted_removed es h.1)

-- ---- an existing key

ones : {X : Type 0} (xs : List X) → sum_by (λ _. 1) xs ≡ length xs
ones [] = refl
ones (x ∷ xs) = let h = sum_by-cons (λ _. 1) x xs in let more = ones xs in omega (arith, h, more)

counted : {X : Type 0} (o : Option X) → is_some o ≡ true → ◌≡◌ {A = ℕ} (unwrap_or (option_map (λ _. 1) o) 0) 1
counted (Some x) h = refl
counted None h = absurd cc

-- an existing key keeps the number of entries
pub length_replaced : {K X : Type 0} (compare : K → K → Ordering) → IsTotalOrder compare → (es : List (K × X)) (k : K) (w : X) → IsStrictlySortedBy compare (keys_of es) → is_some (lookup (is_at (compare k)) es) ≡ true
    → length (insert_entry compare es k w) ≡ length es
length_replaced compare order es k w sorted there =
    let h = sum_by-insert_entry (λ _. 1) order es k w sorted in
    let one = counted (lookup (is_at (compare k)) es) there in
    let new = ones (values_of (insert_entry compare es k w)) in
    let old = ones (values_of es) in
    let new_length = length-values_of (insert_entry compare es k w) in
    let old_length = length-values_of es in
    omega (arith, h, one, new, old, new_length, old_length)
