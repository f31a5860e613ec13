-- The coordinates of a box are those inside it.
use Rattle.vdb_coord.proofs.Common.{inl, inr, ◌⊎◌, ◌≡◌, refl, sym, ap, subst, ◌∙◌, ℕ, zero, suc, ◌+◌, ◌<◌, ◌≤◌, ℤ, pos, negsuc, ◌+ℤ◌, Bool, true, false, ◌&&◌, List, [], ◌∷◌, flat_map, IsTrue, int_le, arith, list_all, range_with_len, int_gap, ints, Box, coord, extent, is_between, is_inside, range, Coord}
use Rattle.std.proofs.lemmas.List.Folds.{list_all-append, list_all-map}
use Rattle.vdb_coord.specs.Space.{coordinates}

-- ---- booleans

both : (a b : Bool) → (a && b) ≡ true → (a ≡ true) × (b ≡ true)
both true true h = (refl, refl)
both true false h = (refl, h)
both false b h = (h, absurd (no h))
  where
    no : false ≡ true → ⊥
    no e = cc

together : (a b : Bool) → a ≡ true → b ≡ true → (a && b) ≡ true
together a b h k = rw h k

-- ---- ranges

upto_all : (t : ℕ → Bool) (a n : ℕ) → ((k : ℕ) → a ≤ k → k < a + n → t k ≡ true) → list_all t (range_with_len a n) ≡ true
upto_all t a zero h = refl
upto_all t a (suc n) h = together (t a) _ (h a (omega arith) (omega arith)) (upto_all t (a + 1) n (λ k l u. h k (omega arith) (omega arith)))

first_or_later : (i j : ℕ) → i ≤ j → (i ≡ j) ⊎ (i + 1 ≤ j)
first_or_later i j h = grind arith

upto_each : (t : ℕ → Bool) (a n : ℕ) → list_all t (range_with_len a n) ≡ true → (k : ℕ) → a ≤ k → k < a + n → t k ≡ true
upto_each t a zero h k l u = absurd (omega arith)
upto_each t a (suc n) h k l u = let hs = both (t a) _ h in
    either (first_or_later a k l) (λ e. subst (λ j. t j ≡ true) e hs.0) (λ f. upto_each t (a + 1) n hs.1 k f (omega arith))
  where
    either : {P Q R : Type 0} → P ⊎ Q → (P → R) → (Q → R) → R
    either (inl p) f g = f p
    either (inr q) f g = g q

-- low and the way from it to z make z
reached : (low z : ℤ) → IsTrue (int_le low z) → low +ℤ pos (int_gap low z) ≡ z
reached (pos a) (pos b) h = grind (arith, ints)
reached (pos a) (negsuc b) h = grind (arith, ints)
reached (negsuc a) (pos b) h = grind (arith, ints)
reached (negsuc a) (negsuc b) h = grind (arith, ints)

-- the way to z is shorter than the range
gap_within : (low high z : ℤ) → IsTrue (is_between low high z) → int_gap low z < extent low high
gap_within (pos a) (pos b) (pos c) h = grind (arith, ints)
gap_within (pos a) (pos b) (negsuc c) h = grind (arith, ints)
gap_within (pos a) (negsuc b) (pos c) h = grind (arith, ints)
gap_within (pos a) (negsuc b) (negsuc c) h = grind (arith, ints)
gap_within (negsuc a) (pos b) (pos c) h = grind (arith, ints)
gap_within (negsuc a) (pos b) (negsuc c) h = grind (arith, ints)
gap_within (negsuc a) (negsuc b) (pos c) h = grind (arith, ints)
gap_within (negsuc a) (negsuc b) (negsuc c) h = grind (arith, ints)

between_from : (low high : ℤ) (k : ℕ) → k < extent low high → IsTrue (is_between low high (low +ℤ pos k))
between_from (pos a) (pos b) k h = grind (arith, ints)
between_from (pos a) (negsuc b) k h = grind (arith, ints)
between_from (negsuc a) (pos b) k h = grind (arith, ints)
between_from (negsuc a) (negsuc b) k h = grind (arith, ints)

range_all : (t : ℤ → Bool) (low high : ℤ) → ((z : ℤ) → IsTrue (is_between low high z) → t z ≡ true) → list_all t (range low high) ≡ true
range_all t low high h =
    list_all-map t (λ k. low +ℤ pos k) (range_with_len 0 (extent low high))
    ∙ upto_all (λ k. t (low +ℤ pos k)) 0 (extent low high) (λ k l u. h (low +ℤ pos k) (between_from low high k (omega arith)))

range_each : (t : ℤ → Bool) (low high : ℤ) → list_all t (range low high) ≡ true → (z : ℤ) → IsTrue (is_between low high z) → t z ≡ true
range_each t low high h z b =
    subst (λ y. t y ≡ true) (reached low z (both (int_le low z) (int_le z high) b).0)
    (upto_each (λ k. t (low +ℤ pos k)) 0 (extent low high) (sym (list_all-map t (λ k. low +ℤ pos k) (range_with_len 0 (extent low high))) ∙ h)
    (int_gap low z) (omega arith) (let g = gap_within low high z b in omega arith))

-- ---- boxes

all_in_parts : {X Y : Type 0} (t : Y → Bool) (f : X → List Y) (xs : List X) → list_all t (flat_map f xs) ≡ list_all (λ x. list_all t (f x)) xs
all_in_parts t f [] = refl
all_in_parts t f (x ∷ xs) = list_all-append t (f x) (flat_map f xs) ∙ ap (λ b. list_all t (f x) && b) (all_in_parts t f xs)

all_same : {X : Type 0} (s t : X → Bool) → ((x : X) → s x ≡ t x) → (xs : List X) → list_all s xs ≡ list_all t xs
all_same {X} s t h xs = ap (λ (u : X → Bool). list_all u xs) (λ i x. h x i)

by_axes : (t : Coord → Bool) (b : Box) → list_all t (coordinates b) ≡ list_all (λ x. list_all (λ y. list_all (λ z. t (coord x y z)) (range b.min.z b.max.z)) (range b.min.y b.max.y)) (range b.min.x b.max.x)
unfolding coordinates
by_axes t b =
    all_in_parts t _ (range b.min.x b.max.x)
    ∙ all_same _ _ (λ x. all_in_parts t _ (range b.min.y b.max.y) ∙ all_same _ _ (λ y. list_all-map t (λ z. coord x y z) (range b.min.z b.max.z)) (range b.min.y b.max.y)) (range b.min.x b.max.x)

-- a test that each coordinate inside passes is passed by each of the list
pub all_coordinates : (t : Coord → Bool) (b : Box) → ((p : Coord) → IsTrue (is_inside b p) → t p ≡ true) → list_all t (coordinates b) ≡ true
all_coordinates t b h = by_axes t b ∙
    range_all _ b.min.x b.max.x (λ x hx. range_all _ b.min.y b.max.y (λ y hy. range_all _ b.min.z b.max.z (λ z hz.
    h (coord x y z) (together (is_between b.min.x b.max.x x && is_between b.min.y b.max.y y) _ (together _ _ hx hy) hz))))

-- a test that each of the list passes is passed by each coordinate inside
pub each_coordinate : (t : Coord → Bool) (b : Box) → list_all t (coordinates b) ≡ true → (p : Coord) → IsTrue (is_inside b p) → t p ≡ true
each_coordinate t b h p inside =
    let hxy = both (is_between b.min.x b.max.x p.x && is_between b.min.y b.max.y p.y) (is_between b.min.z b.max.z p.z) inside in
    let hs = both (is_between b.min.x b.max.x p.x) (is_between b.min.y b.max.y p.y) hxy.0 in
    range_each _ b.min.z b.max.z (range_each _ b.min.y b.max.y (range_each _ b.min.x b.max.x (sym (by_axes t b) ∙ h) p.x hs.0) p.y hs.1) p.z hxy.1
