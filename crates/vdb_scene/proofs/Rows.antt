-- Whole numbers from one to another, one after another.
use Rattle.vdb_scene.proofs.Common.{◌≡◌, refl, sym, ap, ◌∙◌, ℕ, zero, suc, ◌+◌, ◌<◌, ℤ, pos, negsuc, ◌+ℤ◌, ◌<ℤ◌, true, [], ◌∷◌, map, Option, Some, length, int_le, arith, range_with_len, ints, extent, grid_field, numbers_left}
use Rattle.std.proofs.lemmas.List.FromFn.{length-map-range_with_len}
use Rattle.std.proofs.lemmas.List.{length-map}
use Rattle.vdb_coord.specs.Space.{range}
use Rattle.vdb_scene.specs.Slices.{rows_left}
use Rattle.vdb_scene.specs.Replies.{row_at}
use Rattle.vdb_scene.specs.declared.slice.Slice.{Slice}

-- the mapped numbers from a on, as mapped numbers from 0 on
shifted : {X : Type 0} (f g : ℕ → X) → ((k : ℕ) → f (k + 1) ≡ g k) → (a n : ℕ) → map f (range_with_len (a + 1) n) ≡ map g (range_with_len a n)
shifted f g h a zero = refl
shifted f g h a (suc n) = λ i. h a i ∷ shifted f g h (a + 1) n i

further : (low : ℤ) (k : ℕ) → low +ℤ pos (k + 1) ≡ (low +ℤ pos 1) +ℤ pos k
further low k = grind (arith, ints)

first : (low : ℤ) → low +ℤ pos 0 ≡ low
first low = grind (arith, ints)

-- one number more
longer : (low high : ℤ) → int_le low high ≡ true → extent low high ≡ suc (extent (low +ℤ pos 1) high)
longer (pos a) (pos b) h = grind (arith, ints)
longer (pos a) (negsuc b) h = grind (arith, ints)
longer (negsuc a) (pos b) h = grind (arith, ints)
longer (negsuc a) (negsuc b) h = grind (arith, ints)

-- the first number and those behind it
pub range_next : (low high : ℤ) → int_le low high ≡ true → range low high ≡ low ∷ range (low +ℤ pos 1) high
range_next low high h =
    ap (λ n. map (λ k. low +ℤ pos k) (range_with_len 0 n)) (longer low high h)
    ∙ (λ i. first low i ∷ shifted (λ k. low +ℤ pos k) (λ k. (low +ℤ pos 1) +ℤ pos k) (further low) 0 (extent (low +ℤ pos 1) high) i)

less_or_equal : (x y : ℤ) → x <ℤ y → int_le x y ≡ true
less_or_equal (pos a) (pos b) h = grind (arith, ints)
less_or_equal (pos a) (negsuc b) h = grind (arith, ints)
less_or_equal (negsuc a) (pos b) h = refl
less_or_equal (negsuc a) (negsuc b) h = grind (arith, ints)

-- the first number, if others follow
pub range_more : (low high : ℤ) → low <ℤ high → range low high ≡ low ∷ range (low +ℤ pos 1) high
range_more low high h = range_next low high (less_or_equal low high h)

-- the numbers behind a number
pub number_next : (next : Option ℤ) (x y z last : ℤ) → next ≡ Some x → y ≡ x → z ≡ x +ℤ pos 1 → x <ℤ last → numbers_left next last ≡ y ∷ range z last
number_next next x y z last is same after h =
    ap (λ n. numbers_left n last) is ∙ range_more x last h ∙ (λ i. sym same i ∷ range (sym after i) last)

-- the number of rows left
pub rows_many : (s : Slice) (y : ℤ) → s.y ≡ Some y → length (rows_left s) ≡ extent y s.max.y
rows_many s y is = length-map (numbers_left s.y s.max.y) (row_at (grid_field s.grid.now) s.min.x s.max.x s.min.z) ∙ ap (λ n. length (numbers_left n s.max.y)) is ∙ length-map-range_with_len (λ k. y +ℤ pos k) 0 (extent y s.max.y)
