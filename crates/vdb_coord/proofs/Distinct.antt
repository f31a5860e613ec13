-- The list of a box's coordinates has each of them once.
use Rattle.vdb_coord.proofs.Common.{◌≡◌, refl, sym, subst, ℕ, zero, suc, ◌+◌, ◌<◌, ℤ, pos, ◌+ℤ◌, Bool, false, List, [], ◌∷◌, map, flat_map, arith, AllByRecursion, range_with_len, int_cmp, is_eq, ordering_then, Ordering, Less, Equal, Greater, ints, Box, coord, coord_eq, extent, range, Coord}
use Rattle.std.proofs.Common.{◌++◌, nat_eq}
use Rattle.std.specs.List.{IsDistinct}
use Rattle.std.specs.Ordering.{int_eq}
use Rattle.std.proofs.lemmas.Bool.Decides.{nat_tests}
use Rattle.vdb_coord.specs.Space.{coordinates}

-- ---- each element of a list

all_append : {X : Type 0} (P : X → Type 0) (xs ys : List X) → AllByRecursion P xs → AllByRecursion P ys → AllByRecursion P (xs ++ ys)
all_append P [] ys h k = k
all_append P (x ∷ xs) ys h k = (h.0, all_append P xs ys h.1 k)

all_map : {X Y : Type 0} (P : Y → Type 0) (f : X → Y) (xs : List X) → AllByRecursion (λ x. P (f x)) xs → AllByRecursion P (map f xs)
all_map P f [] h = h
all_map P f (x ∷ xs) h = (h.0, all_map P f xs h.1)

all_flat : {X Y : Type 0} (P : Y → Type 0) (f : X → List Y) (xs : List X) → AllByRecursion (λ x. AllByRecursion P (f x)) xs → AllByRecursion P (flat_map f xs)
all_flat P f [] h = h
all_flat P f (x ∷ xs) h = all_append P (f x) (flat_map f xs) h.0 (all_flat P f xs h.1)

all_weaker : {X : Type 0} (P Q : X → Type 0) → ((x : X) → P x → Q x) → (xs : List X) → AllByRecursion P xs → AllByRecursion Q xs
all_weaker P Q h [] k = tt
all_weaker P Q h (x ∷ xs) k = (h x k.0, all_weaker P Q h xs k.1)

all_true : {X : Type 0} (P : X → Type 0) → ((x : X) → P x) → (xs : List X) → AllByRecursion P xs
all_true P h [] = tt
all_true P h (x ∷ xs) = (h x, all_true P h xs)

-- ---- distinct lists

distinct_append : {X : Type 0} (e : X → X → Bool) (xs ys : List X) → IsDistinct e xs → IsDistinct e ys → AllByRecursion (λ x. AllByRecursion (λ y. e x y ≡ false) ys) xs → IsDistinct e (xs ++ ys)
unfolding IsDistinct
distinct_append e [] ys h k c = k
distinct_append e (x ∷ xs) ys h k c = (all_append _ xs ys h.0 c.0, distinct_append e xs ys h.1 k c.1)

distinct_map : {X Y : Type 0} (d : X → X → Bool) (e : Y → Y → Bool) (f : X → Y) → ((a b : X) → d a b ≡ false → e (f a) (f b) ≡ false) → (xs : List X) → IsDistinct d xs → IsDistinct e (map f xs)
unfolding IsDistinct
distinct_map d e f h [] k = tt
distinct_map d e f h (x ∷ xs) k = (all_map _ f xs (all_weaker _ _ (h x) xs k.0), distinct_map d e f h xs k.1)

-- parts whose elements have tags, one tag to a part
distinct_flat : {X Y : Type 0} (d : X → X → Bool) (e : Y → Y → Bool) (tag : Y → X) (f : X → List Y)
    → ((a b : Y) → d (tag a) (tag b) ≡ false → e a b ≡ false) → ((x : X) → AllByRecursion (λ y. tag y ≡ x) (f x)) → ((x : X) → IsDistinct e (f x))
    → (xs : List X) → IsDistinct d xs → IsDistinct e (flat_map f xs)
unfolding IsDistinct
distinct_flat d e tag f apart tags each [] k = tt
distinct_flat {X} {Y} d e tag f apart tags each (x ∷ xs) k =
    distinct_append e (f x) (flat_map f xs) (each x) (distinct_flat d e tag f apart tags each xs k.1)
    (all_weaker (λ a. tag a ≡ x) (λ a. AllByRecursion (λ b. e a b ≡ false) (flat_map f xs))
    (λ a ta. all_flat (λ b. e a b ≡ false) f xs
    (all_weaker (λ z. d x z ≡ false) (λ z. AllByRecursion (λ b. e a b ≡ false) (f z))
    (λ z apart_z. all_weaker (λ b. tag b ≡ z) (λ b. e a b ≡ false) (λ b tb. apart a b (subst (λ u. d u (tag b) ≡ false) (sym ta) (subst (λ u. d x u ≡ false) (sym tb) apart_z))) (f z) (tags z))
    xs k.0))
    (f x) (tags x))

-- ---- ranges

later : (a b n : ℕ) → a < b → AllByRecursion (λ k. nat_eq a k ≡ false) (range_with_len b n)
later a b zero h = tt
later a b (suc n) h = (grind (arith, nat_tests), later a (b + 1) n (omega arith))

distinct_upto : (a n : ℕ) → IsDistinct nat_eq (range_with_len a n)
unfolding IsDistinct
distinct_upto a zero = tt
distinct_upto a (suc n) = (later a (a + 1) n (omega arith), distinct_upto (a + 1) n)

apart_from : (low : ℤ) (j k : ℕ) → nat_eq j k ≡ false → int_eq (low +ℤ pos j) (low +ℤ pos k) ≡ false
apart_from low j k h = grind (arith, ints, nat_tests)

distinct_range : (low high : ℤ) → IsDistinct int_eq (range low high)
distinct_range low high = distinct_map nat_eq int_eq (λ k. low +ℤ pos k) (apart_from low) (range_with_len 0 (extent low high)) (distinct_upto 0 (extent low high))

-- ---- boxes

first_differs : (o p : Ordering) → is_eq o ≡ false → is_eq (ordering_then o p) ≡ false
first_differs Less p h = refl
first_differs Equal p h = cc
first_differs Greater p h = refl

second_differs : (o p : Ordering) → is_eq p ≡ false → is_eq (ordering_then o p) ≡ false
second_differs Less p h = refl
second_differs Equal p h = h
second_differs Greater p h = refl

abbrev row : Box → ℤ → ℤ → List Coord
row b x y = map (λ z. coord x y z) (range b.min.z b.max.z)

abbrev plane : Box → ℤ → List Coord
plane b x = flat_map (λ y. row b x y) (range b.min.y b.max.y)

row_x : (b : Box) (x y : ℤ) → AllByRecursion (λ p. p.x ≡ x) (row b x y)
row_x b x y = all_map (λ p. p.x ≡ x) (λ z. coord x y z) (range b.min.z b.max.z) (all_true _ (λ z. refl) (range b.min.z b.max.z))

row_y : (b : Box) (x y : ℤ) → AllByRecursion (λ p. p.y ≡ y) (row b x y)
row_y b x y = all_map (λ p. p.y ≡ y) (λ z. coord x y z) (range b.min.z b.max.z) (all_true _ (λ z. refl) (range b.min.z b.max.z))

plane_x : (b : Box) (x : ℤ) → AllByRecursion (λ p. p.x ≡ x) (plane b x)
plane_x b x = all_flat (λ p. p.x ≡ x) (λ y. row b x y) (range b.min.y b.max.y) (all_true _ (λ y. row_x b x y) (range b.min.y b.max.y))

distinct_row : (b : Box) (x y : ℤ) → IsDistinct coord_eq (row b x y)
distinct_row b x y = distinct_map int_eq coord_eq (λ z. coord x y z)
    (λ a c h. second_differs (int_cmp x x) _ (second_differs (int_cmp y y) (int_cmp a c) h)) (range b.min.z b.max.z) (distinct_range b.min.z b.max.z)

distinct_plane : (b : Box) (x : ℤ) → IsDistinct coord_eq (plane b x)
distinct_plane b x = distinct_flat int_eq coord_eq (λ p. p.y) (λ y. row b x y)
    (λ p q h. second_differs (int_cmp p.x q.x) _ (first_differs (int_cmp p.y q.y) _ h)) (row_y b x) (distinct_row b x) (range b.min.y b.max.y) (distinct_range b.min.y b.max.y)

pub distinct_coordinates : (b : Box) → IsDistinct coord_eq (coordinates b)
unfolding coordinates
distinct_coordinates b = distinct_flat int_eq coord_eq (λ p. p.x) (plane b)
    (λ p q h. first_differs (int_cmp p.x q.x) _ h) (plane_x b) (distinct_plane b) (range b.min.x b.max.x) (distinct_range b.min.x b.max.x)
