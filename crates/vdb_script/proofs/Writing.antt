-- Lemmas on lines that are composed, and written in several calls.
use Rattle.vdb_script.proofs.Common.{◌≡◌, ℕ, suc, zero, ◌+◌, ◌-◌, ◌<◌, ◌≤◌, ◌==◌, if◌then◌else◌, List, [], ◌∷◌, ◌++◌, Option, refl, sym, ap, ◌∙◌, subst, length, map, take, drop, get_or, add-one, arith, append_assoc, append-nil, length-append, length-map, join_with_byte, Appends}
use Rattle.std.proofs.Common.{take-append-drop, length-drop, slice_range, take_all}
use Rattle.std.proofs.lemmas.Bool.{ne_eqb}
use Rattle.std.proofs.lemmas.List.{get_or-map}
use Rattle.std.proofs.KnownBytes.{Appends-trans}
use Rattle.vdb_script.specs.Text.{line}
use lib.Seq.{take-add}

-- ---- parts with a byte between each two

-- one part more
pub join-more : (c : ℕ) (parts : List (List ℕ)) (i : ℕ) → i < length parts
    → join_with_byte c (take (suc i) parts) ≡ (if i == 0 then join_with_byte c (take i parts) else join_with_byte c (take i parts) ++ c ∷ []) ++ get_or parts i []
join-more c [] i h = absurd (omega (arith, h))
join-more c (x ∷ xs) zero h = refl
join-more c (x ∷ []) (suc i) h = absurd (omega (arith, h))
join-more c (x ∷ y ∷ ys) (suc zero) h = sym (append_assoc x (c ∷ []) y)
join-more c (x ∷ y ∷ ys) (suc (suc i)) h =
    let front = join_with_byte c (take (suc i) (y ∷ ys)) in
    let e = rw (ne_eqb (suc i) 0 (λ q. cc)) at (join-more c (y ∷ ys) (suc i) (omega (arith, h))) in
    rw (ne_eqb (suc (suc i)) 0 (λ q. cc)) (ap (λ l. x ++ (c ∷ l)) e ∙ simp append_assoc)

-- the first parts are no longer than all
pub join-first : (c : ℕ) (parts : List (List ℕ)) (i : ℕ) → length (join_with_byte c (take i parts)) ≤ length (join_with_byte c parts)
join-first c [] zero = omega arith
join-first c [] (suc i) = omega arith
join-first c (x ∷ xs) zero = omega arith
join-first c (x ∷ []) (suc zero) = omega arith
join-first c (x ∷ []) (suc (suc i)) = omega arith
join-first c (x ∷ y ∷ ys) (suc zero) = omega (arith, length-append x (c ∷ join_with_byte c (y ∷ ys)))
join-first c (x ∷ y ∷ ys) (suc (suc i)) =
    omega (arith, length-append x (c ∷ join_with_byte c (y ∷ ys)), length-append x (c ∷ join_with_byte c (y ∷ take i ys)), join-first c (y ∷ ys) (suc i))

module _ {A : Type 0} (f : A → List ℕ) (parts : List A) (i : ℕ) (d : A) (composed : List ℕ) (h : i < length parts) (so_far : composed ≡ join_with_byte 32 (take i (map f parts))) where
  -- the next part of a line is added
  pub composed-more : (if i == 0 then composed else composed ++ 32 ∷ []) ++ f (get_or parts i d) ≡ join_with_byte 32 (take (i + 1) (map f parts))
  composed-more =
      let e = join-more 32 (map f parts) i (rw length-map h) in
      let g = get_or-map f parts i d [] h in
      rw (add-one, so_far, ← g) (sym e)

  -- the line has capacity for it
  pub composed-fits : (limit : ℕ) → length (line (map f parts)) ≤ limit → length ((if i == 0 then composed else composed ++ 32 ∷ []) ++ f (get_or parts i d)) ≤ limit
  composed-fits limit capacity =
      rw composed-more (omega (arith, join-first 32 (map f parts) (i + 1), length-append (join_with_byte 32 (map f parts)) (10 ∷ []), capacity))

-- ---- bytes that a writer takes in several calls

-- a prefix of the bytes was taken
pub Writes-front : (a b : Option (List ℕ)) (bytes : List ℕ) (at : ℕ) → Appends a b (take at bytes) → (front rest : List ℕ) × (bytes ≡ front ++ rest) × Appends a b front
Writes-front a b bytes at p = (take at bytes, drop at bytes, sym (take-append-drop at bytes), p)

-- the rest of the bytes, as a range of them
range-rest : (bytes : List ℕ) (at : ℕ) → drop at bytes ≡ slice_range bytes at (length bytes)
range-rest bytes at = sym (take_all (length bytes - at) (drop at bytes) (omega (arith, length-drop at bytes)))

-- one call more took n bytes of the rest
pub Appends-more : (a b c : Option (List ℕ)) (bytes : List ℕ) (at n : ℕ) → Appends a b (take at bytes) → Appends b c (take n (slice_range bytes at (length bytes))) → Appends a c (take (at + n) bytes)
Appends-more a b c bytes at n p q =
    subst (Appends a c) (sym (take-add at n bytes ∙ ap (λ l. take at bytes ++ take n l) (range-rest bytes at)))
    (Appends-trans a b c (take at bytes) (take n (slice_range bytes at (length bytes))) p q)

-- a call that took nothing
pub Appends-none : (a b c : Option (List ℕ)) (bytes rest : List ℕ) (n : ℕ) → n ≡ 0 → Appends a b bytes → Appends b c (take n rest) → Appends a c bytes
Appends-none a b c bytes rest n e p q =
    subst (Appends a c) (append-nil bytes) (Appends-trans a b c bytes [] p (subst (λ k. Appends b c (take k rest)) e q))
