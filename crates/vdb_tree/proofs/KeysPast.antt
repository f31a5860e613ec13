-- How many keys of a table come past another: the measure of a walk over its keys.
use Rattle.vdb_tree.proofs.Common.{◌≡◌, inl, inr, ℕ, ◌+◌, ◌<◌, ◌≤◌, Bool, true, false, List, [], ◌∷◌, arith, refl, subst, cond, Option, Some, None, IsSome, is_lt, Ordering, Less, Equal, Greater, coord_cmp, coord_eq, Coord, coord_exact, coord_total, Entry, root_at, IsNextKey, IsPast, less_apart, less_once}
use Rattle.vdb_tree.proofs.Levels.{bool_cases}

-- whether a key comes past another, if there is one
abbrev pub is_key_past : Option Coord → Coord → Bool
is_key_past None k = true
is_key_past (Some a) k = is_lt (coord_cmp a k)

-- how many elements of a list pass a test
abbrev pub passing : {E : Type 0} → (E → Bool) → List E → ℕ
passing test [] = 0
passing test (e ∷ es) = cond (test e) 1 0 + passing test es

-- how many keys of the table come past this one
abbrev pub keys_past : {V : Type 0} → Option Coord → List (Coord × Entry V) → ℕ
keys_past after root = passing (λ e. is_key_past after e.0) root

bits_at_most : (a b : Bool) (m n : ℕ) → (a ≡ true → b ≡ true) → m ≤ n → cond a 1 0 + m ≤ cond b 1 0 + n
bits_at_most true true m n h k = omega (arith, k)
bits_at_most true false m n h k = let e : false ≡ true = h refl in cc
bits_at_most false true m n h k = omega (arith, k)
bits_at_most false false m n h k = omega (arith, k)

fewer : {E : Type 0} (few many : E → Bool) → ((e : E) → few e ≡ true → many e ≡ true) → (es : List E) → passing few es ≤ passing many es
fewer few many h [] = omega arith
fewer few many h (e ∷ es) = bits_at_most (few e) (many e) (passing few es) (passing many es) (h e) (fewer few many h es)

one_more : (a b : Bool) (m n : ℕ) → a ≡ false → b ≡ true → m ≤ n → cond a 1 0 + m < cond b 1 0 + n
one_more a b m n ha hb h = rw (ha, hb) (omega (arith, h))

one_later : (a b : Bool) (m n : ℕ) → (a ≡ true → b ≡ true) → m < n → cond a 1 0 + m < cond b 1 0 + n
one_later true true m n h k = omega (arith, k)
one_later true false m n h k = let e : false ≡ true = h refl in cc
one_later false true m n h k = omega (arith, k)
one_later false false m n h k = omega (arith, k)

-- a test that fails at a key of the table, and implies the other test, is passed by fewer entries
fewer_keys : {V : Type 0} (few many : Coord → Bool) → ((k : Coord) → few k ≡ true → many k ≡ true) → (key : Coord) → few key ≡ false → many key ≡ true
    → (root : List (Coord × Entry V)) → IsSome (root_at root key) → passing (λ e. few e.0) root < passing (λ e. many e.0) root
fewer_keys few many h key out in_many [] held = let e : false ≡ true = held in cc
fewer_keys {V} few many h key out in_many (e ∷ es) held =
    elim (bool_cases (coord_eq key e.0)) [
      | inl s ↦
          let at = coord_exact key e.0 s in
          one_more (few e.0) (many e.0) _ _ (subst (λ (k : Coord). few k ≡ false) at out) (subst (λ (k : Coord). many k ≡ true) at in_many) (fewer (λ (d : Coord × Entry V). few d.0) (λ d. many d.0) (λ d. h d.0) es)
      | inr s ↦ one_later (few e.0) (many e.0) _ _ (h e.0) (fewer_keys few many h key out in_many es (rw s at held))
    ]

past_test : (after : Option Coord) (k : Coord) → IsPast after k → is_key_past after k ≡ true
past_test None k h = refl
past_test (Some a) k h = rw h refl

less_of : (o : Ordering) → is_lt o ≡ true → o ≡ Less
less_of Less h = refl
less_of Equal h = cc
less_of Greater h = cc

pub past_on : (after : Option Coord) (k l : Coord) → IsPast after k → coord_cmp k l ≡ Less → IsPast after l
past_on None k l h later = tt
past_on (Some a) k l h later = coord_total.trans a k l h later

-- past a key of the table there are fewer keys than past one before it
pub fewer_beyond : {V : Type 0} (root : List (Coord × Entry V)) (passed : Option Coord) (k : Coord) → IsSome (root_at root k) → IsPast passed k → keys_past (Some k) root < keys_past passed root
fewer_beyond root passed k held past =
    fewer_keys (is_key_past (Some k)) (is_key_past passed) (λ l h. past_test passed l (past_on passed k l past (less_of (coord_cmp k l) h))) k itself (past_test passed k past) root held
  where
    itself : is_lt (coord_cmp k k) ≡ false
    itself = elim (bool_cases (is_lt (coord_cmp k k))) [ inl e ↦ absurd (less_apart k k (less_of (coord_cmp k k) e) refl) | inr e ↦ e ]

-- past a key that comes after a key of the table there are fewer keys, too
pub fewer_leap : {V : Type 0} (root : List (Coord × Entry V)) (passed : Option Coord) (k n : Coord) → IsSome (root_at root k) → IsPast passed k → coord_cmp k n ≡ Less → keys_past (Some n) root < keys_past passed root
fewer_leap root passed k n held past on =
    fewer_keys (is_key_past (Some n)) (is_key_past passed) (λ l h. past_test passed l (past_on passed k l past (coord_total.trans k n l on (less_of (coord_cmp n l) h)))) k before (past_test passed k past) root held
  where
    before : is_lt (coord_cmp n k) ≡ false
    before = elim (bool_cases (is_lt (coord_cmp n k))) [ inl e ↦ absurd (less_once k n on (less_of (coord_cmp n k) e)) | inr e ↦ e ]

-- past the next key there are fewer keys
pub fewer_past : {V : Type 0} (root : List (Coord × Entry V)) (passed : Option Coord) (k : Coord) → IsNextKey root passed (Some k) → keys_past (Some k) root < keys_past passed root
fewer_past root passed k next = fewer_beyond root passed k next.0 next.1
