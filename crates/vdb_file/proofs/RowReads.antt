-- Reads the entries of a row one after another.
use Rattle.vdb_file.proofs.Common.{◌≡◌, ℕ, suc, zero, ◌<◌, Bool, true, false, not, List, [], ◌∷◌, ◌++◌, length, take, drop, refl, sym, ap, subst, ◌∙◌, append_assoc, append-nil, length-append, length-take, take-append-drop, arith, Option, None, AllByRecursion, Contains, flat_map, flat_map-append, filter_passes, recursion_from_All, IsStrictlySortedBy-filter, IsStrictlySortedBy, is_background, Field, LoadFault, Follows, HasValues, Fails, NoFront, Position, Took}
use Rattle.vdb_file.proofs.Unambiguous.{IsCode, Says, says_each, says_map, says_then}
use Rattle.vdb_file.proofs.Agreement.{Agree, AreAlike, AreValues, is_held, says_listed, says_one}
use Rattle.vdb_file.proofs.Ordered.{by_member, last_of, next_follows}
use Rattle.vdb_file.proofs.Fronts.{fails_after, fails_none, some_turn, took_both}
use Rattle.vdb_file.proofs.Rows.{IsRow, Row, are_alike, behind_key, held, held_members, texts}

-- what may come next in a row: a key past the one before, and a field that holds anything but the background in its box
pub record IsNextOf {V K : Type 0} (eq : V → V → Bool) (P : V → Type 0) (row : Row V K) (background : V) (before : Option K) (e : K × Field V) : Type 0 where
  pub member : Contains row.keys e.0
  pub follows : Follows row.cmp before e.0
  pub values : HasValues P background e.1
  pub held : is_background eq e.1 (row.box e.0) ≡ false

-- ---- lists

-- the rest of a list past some of its members, if more are left
drop_next : {K : Type 0} (xs : List K) (m : ℕ) → m < length xs → (x : K) × (rest : List K) × (drop m xs ≡ x ∷ rest)
drop_next [] m h = absurd (omega (arith, h))
drop_next (x ∷ xs) zero h = (x, xs, refl)
drop_next (x ∷ xs) (suc m) h = drop_next xs m (omega (arith, h))

-- what all members have, the first one has
all_front : {K : Type 0} (P : K → Type 0) (m : ℕ) (xs : List K) → AllByRecursion P xs → AllByRecursion P (take m xs)
all_front P zero xs all = tt
all_front P (suc m) [] all = tt
all_front P (suc m) (x ∷ xs) all = (all.0, all_front P m xs all.1)

-- what all members have, each one has
all_at : {K : Type 0} (P : K → Type 0) (xs : List K) (x : K) (rest : List K) → AllByRecursion P (xs ++ x ∷ rest) → P x
all_at P [] x rest all = all.0
all_at P (y ∷ xs) x rest all = all_at P xs x rest all.1

-- a test whose negation passes fails
not_held : (b : Bool) → not b ≡ true → b ≡ false
not_held true e = cc
not_held false e = refl

-- ---- items that each begin with another

-- no such beginning is ahead, so no item is
pub fails_begin : {A B : Type 0} (P : A → Type 0) (code : A → List ℕ) (Q : B → Type 0) (part : B → List ℕ) (fault : LoadFault) (old : Position)
    → ((a : A) → P a → (b : B) × (tail : List ℕ) × Q b × (code a ≡ part b ++ tail)) → Fails Q part fault old → Fails P code fault old
fails_begin P code Q part fault old begin h = record {
  none = λ claims. some_turn old.known (λ bytes. NoFront P code bytes old.capacity) (λ bytes. NoFront Q part bytes old.capacity)
      (λ bytes none a rest p fits e.
      let s = begin a p in
      let long = ap length s.3 in
      none s.0 (s.1 ++ rest) s.2 (omega (arith, long, length-append (part s.0) s.1, fits)) (e ∙ ap (λ t. t ++ rest) s.3 ∙ append_assoc (part s.0) s.1 rest))
      (h.none claims);
}

-- ---- entries and rows

-- the text of an entry
abbrev pub entry_bytes : {V K : Type 0} → Row V K → K × Field V → List ℕ
entry_bytes row e = row.code e.0 ++ row.body e.1 (row.box e.0)

-- the count of a row's texts, and then the texts
abbrev pub row_bytes : {V K : Type 0} → (V → V → Bool) → Row V K → (ℕ → List ℕ) → Field V → List ℕ
row_bytes eq row count f = count (length (held eq row f)) ++ texts eq row f

module _ {V K : Type 0} {eq : V → V → Bool} {value_bytes : V → List ℕ} {P : V → Type 0} {Q : K → Type 0} {row : Row V K} (values : AreValues eq value_bytes P) (is : IsRow P Q row) (background : V) where
  -- ---- a whole row after its count, for the fields that have R

  module _ (count : ℕ → List ℕ) (N : ℕ → Type 0) (is_count : IsCode N count)
      (R : Field V → Type 0) (has : (f : Field V) → R f → HasValues P background f) (few : (f : Field V) → R f → N (length (held eq row f))) (fault : LoadFault) (old : Position) where
    abbrev NoRow : Type 0
    NoRow = Fails R (row_bytes eq row count) fault old

    module _ (mid : Position) where
      module _ (g : Field V) (of : HasValues P background g) where
        -- both fields have this background and these values
        alike : (f : Field V) → R f → AreAlike P g f
        alike f r = are_alike of (has f r)

        -- the codes determine the keys
        member_code : IsCode (Contains row.keys) row.code
        member_code k l mk ml = is.is_code k l (is.fits k mk) (is.fits l ml)

        -- the fields that begin with this count and these entries
        abbrev Begins : ℕ → Field V → Type 0
        Begins n f = (n ≡ length (held eq row f)) × (held eq row g ≡ take (length (held eq row g)) (held eq row f))

        abbrev front : Field V → List ℕ
        front f = count (length (held eq row f)) ++ flat_map (behind_key row f) (take (length (held eq row g)) (held eq row f))

        abbrev back : Field V → List ℕ
        back f = flat_map (behind_key row f) (drop (length (held eq row g)) (held eq row f))

        -- the bytes that were read show that a field begins so
        says_front : (n : ℕ) → N n → length (held eq row g) < n → (f : Field V) → R f → Says (count n ++ texts eq row g) (front f) (Begins n f)
        says_front n fits more f r =
            let m = length (held eq row g) in
            says_then (is_count n (length (held eq row f)) fits (few f r))
            (λ e. says_map (λ s. s.0)
            (says_each (Contains row.keys) (λ k. Agree g f (row.box k)) (behind_key row g) (behind_key row f)
            (says_one values g f (alike f r) row.box (Contains row.keys) row.code member_code (row.body g) (row.body f) (is.says g f (alike f r)))
            (held eq row g) (take m (held eq row f)) (let l = length-take m (held eq row f) in omega (arith, l, e, more))
            (held_members eq row g) (all_front (Contains row.keys) m (held eq row f) (held_members eq row f))))

        -- the bytes consist of these two parts
        split : (f : Field V) → row_bytes eq row count f ≡ front f ++ back f
        split f =
            let m = length (held eq row g) in
            let c = count (length (held eq row f)) in
            let part : List K → List ℕ = flat_map (behind_key row f) in
            ap (λ l. c ++ l) (ap part (sym (take-append-drop m (held eq row f))) ∙ flat_map-append (behind_key row f) (take m (held eq row f)) (drop m (held eq row f)))
            ∙ sym (append_assoc c (part (take m (held eq row f))) (part (drop m (held eq row f))))

        -- the next entry of such a field
        next : (n : ℕ) → length (held eq row g) < n → (f : Field V) → R f × Begins n f
            → (e : K × Field V) × (tail : List ℕ) × IsNextOf eq P row background (last_of None (held eq row g)) e × (back f ≡ entry_bytes row e ++ tail)
        next n more f p =
            let m = length (held eq row g) in
            let n_is = p.1.0 in
            let s = drop_next (held eq row f) m (omega (arith, more, n_is)) in
            let k = s.0 in
            let rest = s.1 in
            let whole : held eq row f ≡ take m (held eq row f) ++ k ∷ rest = sym (take-append-drop m (held eq row f)) ∙ ap (λ l. take m (held eq row f) ++ l) s.2 in
            let at : (T : K → Type 0) → AllByRecursion T (held eq row f) → T k = λ T all. all_at T (take m (held eq row f)) k rest (subst (AllByRecursion T) whole all) in
            let passes : is_held eq row.box f k ≡ true =
            at (λ k. is_held eq row.box f k ≡ true) (recursion_from_All (λ k. is_held eq row.box f k ≡ true) (held eq row f) (filter_passes (is_held eq row.box f) row.keys)) in
            let sorted = subst (IsStrictlySortedBy row.cmp) whole (IsStrictlySortedBy-filter row.cmp (is_held eq row.box f) row.keys is.sorted) in (
              (k, f),
              flat_map (behind_key row f) rest,
              record {
                member = at (Contains row.keys) (held_members eq row f);
                follows = subst (λ l. Follows row.cmp (last_of None l) k) (sym p.1.1) (next_follows row.cmp (take m (held eq row f)) k rest sorted);
                values = has f p.0;
                held = not_held (is_background eq f (row.box k)) passes;
              },
              ap (flat_map (behind_key row f)) s.2,
            )

        -- a count and fewer entries were read, and no further entry is ahead
        pub within : (n : ℕ) → N n → length (held eq row g) < n → Took old mid (count n ++ texts eq row g)
            → Fails (IsNextOf eq P row background (last_of None (held eq row g))) (entry_bytes row) fault mid → NoRow
        within n fits more took h =
            fails_after R (row_bytes eq row count) (count n ++ texts eq row g) (Begins n) front back fault old mid took (says_front n fits more) (λ f r. split f)
            (fails_begin (λ f. R f × Begins n f) back (IsNextOf eq P row background (last_of None (held eq row g))) (entry_bytes row) fault mid (next n more) h)

        -- all entries were read, and no field has the cells that they give
        pub no_row : N (length (held eq row g)) → Took old mid (row_bytes eq row count g) → ((f : Field V) → R f → ((k : K) → Contains row.keys k → Agree g f (row.box k)) → ⊥) → NoRow
        no_row fits took none =
            let All : Field V → Type 0 = λ f. (k : K) → Contains row.keys k → Agree g f (row.box k) in
            fails_after R (row_bytes eq row count) (row_bytes eq row count g) All (row_bytes eq row count) (λ f. []) fault old mid took
            (λ f r. says_listed values g f (alike f r) row.box (Contains row.keys) row.code member_code (row.body g) (row.body f) (is.says g f (alike f r)) row.keys (by_member (Contains row.keys) row.keys (λ k member. member))
            (is_count (length (held eq row g)) (length (held eq row f)) fits (few f r)))
            (λ f r. sym (append-nil (row_bytes eq row count f)))
            (fails_none (λ f. R f × All f) (λ f. []) fault mid (λ f p. none f p.0 p.1))

-- one more entry was read
pub entry_read : {V K : Type 0} (eq : V → V → Bool) (row : Row V K) (count : ℕ → List ℕ) (n : ℕ) (f g : Field V) (k : K) (a b c : Position)
    → texts eq row g ≡ texts eq row f ++ behind_key row g k → Took a b (count n ++ texts eq row f) → Took b c (entry_bytes row (k, g)) → Took a c (count n ++ texts eq row g)
entry_read eq row count n f g k a b c e first second =
    subst (Took a c) (append_assoc (count n) (texts eq row f) (behind_key row g k) ∙ ap (λ l. count n ++ l) (sym e)) (took_both a b c (count n ++ texts eq row f) (behind_key row g k) first second)
