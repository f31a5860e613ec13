-- Fields that a call writes row by row.
use Rattle.vdb_c.proofs.Common.{◌≡◌, ◌+◌, ◌*◌, ◌^◌, ◌<◌, ◌≤◌, inl, inr, refl, sym, ap, ◌∙◌, subst, true, IsTrue, ℕ, zero, suc, ℤ, pos, ◌+ℤ◌, ◌≤ℤ◌, ◌<ℤ◌, SFits, w32, to_z, of_z, arith, Err, IsSome, Option, Some, None, int_le, int_gap, ints, to_z-of_z, suc-mul, suc-eq-add-one, Box, coord, is_inside, IsBefore, coordinates_after, Coord, inside_from, inside_parts, Field, Write, TreeRefusal, Scalar, along_z, dense, is_first, rank, with_writes, done, tree_code, are_apart, place, IsRefusedIn, after_writes, write_any, Strides}
use Rattle.vdb_tree.specs.declared.refusal.TreeRefusal.TheVariants.{Memory, RootLimit}
use Rattle.vdb_c.specs.Many.{WritesFirstIn}
use Rattle.vdb_c.proofs.BoxFields.{writes_next}
use Rattle.vdb_c.proofs.Places.{not_past_z, place_along_z, place_at_most, reached}
use Rattle.vdb_c.proofs.NextVoxels.{nearer}
use Rattle.vdb_c.proofs.Ranks.{rank_fits, which}

-- ---- voxels along z

pub at_start : (z : ℤ) → z +ℤ pos 0 ≡ z
at_start z = omega (arith, ints)

one_further : (z : ℤ) (n : ℕ) → z +ℤ pos (suc n) ≡ z +ℤ pos n +ℤ pos 1
one_further z n = let e = suc-eq-add-one n in omega (arith, ints, e)

pub one_more_z : (z : ℤ) (n : ℕ) → z +ℤ pos n +ℤ pos 1 ≡ z +ℤ pos (n + 1)
one_more_z z n = omega (arith, ints)

not_below : (low z : ℤ) (n : ℕ) → low ≤ℤ z → int_le low (z +ℤ pos n) ≡ true
not_below low z n h = grind (arith, ints)

sum_none : (a s : ℕ) → a + 0 * s ≡ a
sum_none a s = omega arith

module _ (b : Box) (p : Coord) (inside : IsTrue (is_inside b p)) where
  -- a row up to the box's end lies in the box
  pub row_inside : (n : ℕ) → (p.z +ℤ pos n) ≤ℤ b.max.z → IsTrue (is_inside b (along_z p n))
  row_inside n h =
      let own = inside_parts b p inside in
      inside_from b (along_z p n) own.0.0 own.0.1 own.1.0 own.1.1 (omega (arith, ints, own.2.0)) h

  -- its elements are a stride apart
  pub row_place : (s : Strides) (n : ℕ) → place b s (along_z p n) ≡ place b s p + n * s.z
  row_place s zero = ap (λ (z : ℤ). place b s (coord p.x p.y z)) (at_start p.z) ∙ sym (sum_none (place b s p) s.z)
  row_place s (suc n) =
      let low = (inside_parts b p inside).2.0 in
      ap (λ (z : ℤ). place b s (coord p.x p.y z)) (one_further p.z n)
      ∙ place_along_z b s (along_z p n) (not_below b.min.z p.z n low)
      ∙ more (place b s (along_z p n)) (place b s p) (n * s.z) s.z (suc n * s.z) (row_place s n) (suc-mul n s.z)
    where
      more : (q a c d e : ℕ) → q ≡ a + c → e ≡ c + d → q + d ≡ a + e
      more q a c d e h k = omega (arith, h, k)

  pub row_rank : (n : ℕ) → rank b (along_z p n) ≡ rank b p + n
  row_rank n = row_place (dense b) n ∙ by (rank b p) n
    where
      by : (a n : ℕ) → a + n * 1 ≡ a + n
      by a n = omega arith

-- ---- their writes

some_of : {A : Type 0} (o : Option A) → IsSome o → (x : A) × (o ≡ Some x)
some_of None h = absurd cc
some_of (Some x) h = (x, refl)

module _ (b : Box) (p : Coord) (inside : IsTrue (is_inside b p)) (change : Coord → Option (Write Scalar)) (given : (q : Coord) → IsTrue (is_inside b q) → IsSome (change q))
    (f : Field Scalar) where
  abbrev row : ℕ → Option (Write Scalar)
  row n = change (along_z p n)

  one_more : (n : ℕ) → (p.z +ℤ pos n) ≤ℤ b.max.z
      → write_any (along_z p n) (row n) (with_writes (is_first b (rank b p + n)) change f) ≡ with_writes (is_first b (rank b p + n + 1)) change f
  one_more n h =
      let q = along_z p n in
      let i = row_inside b p inside n h in
      let w = some_of (change q) (given q i) in
      let so_far = with_writes (is_first b (rank b p + n)) change f in
      ap (λ (o : Option (Write Scalar)). write_any q o so_far) w.1
      ∙ writes_next b change f q i (rank b p + n) (sym (row_rank b p inside n)) w.0 w.1

  -- the first n voxels of a row are written after those before it
  pub row_written : (n : ℕ) → (p.z +ℤ pos n) ≤ℤ (b.max.z +ℤ pos 1)
      → after_writes (along_z p) row n (with_writes (is_first b (rank b p)) change f) ≡ with_writes (is_first b (rank b p + n)) change f
  row_written zero h = ap (λ (k : ℕ). with_writes (is_first b k) change f) (sym (no_more (rank b p)))
    where
      no_more : (r : ℕ) → r + 0 ≡ r
      no_more r = omega arith
  row_written (suc n) h =
      let e = suc-eq-add-one n in
      ap (write_any (along_z p n) (row n)) (row_written n (omega (arith, ints, h, e)))
      ∙ one_more n (omega (arith, ints, h, e))
      ∙ ap (λ (k : ℕ). with_writes (is_first b k) change f) (further (rank b p) n (suc n) e)
    where
      further : (r n m : ℕ) → m ≡ n + 1 → r + n + 1 ≡ r + m
      further r n m e = omega (arith, e)

-- ---- the end of a row

module _ (b : Box) (p : Coord) (inside : IsTrue (is_inside b p)) where
  length_is : p.z +ℤ pos (int_gap p.z b.max.z) ≡ b.max.z
  length_is = reached p.z b.max.z (not_past_z b p inside)

  pub end_is : along_z p (int_gap p.z b.max.z) ≡ coord p.x p.y b.max.z
  end_is = ap (coord p.x p.y) length_is

  last_inside : IsTrue (is_inside b (along_z p (int_gap p.z b.max.z)))
  last_inside = row_inside b p inside (int_gap p.z b.max.z) (omega (arith, ints, length_is))

  pub end_inside : IsTrue (is_inside b (coord p.x p.y b.max.z))
  end_inside = subst (λ (q : Coord). IsTrue (is_inside b q)) end_is last_inside

  -- up to there the row lies in the box
  pub row_ends : (n : ℕ) → n < int_gap p.z b.max.z + 1 → (p.z +ℤ pos n) ≤ℤ b.max.z
  row_ends n l = let ends = length_is in omega (arith, ints, ends, l)

  pub next_in_row : (s : Strides) (n index : ℕ) → index ≡ place b s (along_z p n) → index + s.z ≡ place b s (along_z p (n + 1))
  next_in_row s n index e =
      ap (λ (k : ℕ). k + s.z) e ∙ sym (place_along_z b s (along_z p n) (not_below b.min.z p.z n (inside_parts b p inside).2.0))
      ∙ ap (λ (z : ℤ). place b s (coord p.x p.y z)) (one_more_z p.z n)

  pub next_fits : (s : Strides) (n index : ℕ) → index ≡ place b s (along_z p n) → n + 1 < int_gap p.z b.max.z + 1 → place b s b.max + 1 < 2 ^ 64 → index + s.z < 2 ^ 64
  next_fits s n index e l reach =
      let next = next_in_row s n index e in
      let most = place_at_most b s (along_z p (n + 1)) (row_inside b p inside (n + 1) (row_ends (n + 1) l)) in
      omega (arith, next, most, reach)

  pub next_z_fits : (n : ℕ) (z : ℤ) → z ≡ p.z +ℤ pos n → n + 1 < int_gap p.z b.max.z + 1 → SFits w32 p.z → SFits w32 b.max.z → SFits w32 (z +ℤ pos 1)
  next_z_fits n z e l low high = let ends = row_ends (n + 1) l in by p.z b.max.z z n e ends low high
    where
      by : (a m z : ℤ) (n : ℕ) → z ≡ a +ℤ pos n → (a +ℤ pos (n + 1)) ≤ℤ m → SFits w32 a → SFits w32 m → SFits w32 (z +ℤ pos 1)
      by a m z n e l low high = grind (arith, ints)

-- a coordinate by its components
pub same_coord : (x y z : ℤ) (q : Coord) → x ≡ q.x → y ≡ q.y → z ≡ q.z → coord x y z ≡ q
same_coord x y z q a c e = λ i. record { x = a i; y = c i; z = e i }

-- a code as the code compares it
pub code_done : (n : ℤ) → SFits w32 n → of_z w32 n ≡ 0 → n ≡ done
code_done n fits e = sym (to_z-of_z w32 n fits) ∙ ap (to_z w32) e

pub code_failed : (n : ℤ) → (of_z w32 n ≡ 0 → ⊥) → n ≡ done → ⊥
code_failed n h e = h (ap (of_z w32) e)

-- fewer coordinates come after the end of a row than after its beginning
module _ (b : Box) (p : Coord) (inside : IsTrue (is_inside b p)) (end next : Coord) (is : end ≡ coord p.x p.y b.max.z) (x : SFits w32 end.x) (y : SFits w32 end.y) (z : SFits w32 end.z) where
  end_after : p.z <ℤ b.max.z → IsBefore p end
  end_after l = subst (IsBefore p) (sym is) (inr (refl, inr (refl, l)))

  same_end : b.max.z ≤ℤ p.z → end ≡ p
  same_end l = let most = (inside_parts b p inside).2.1 in is ∙ ap (coord p.x p.y) (alike b.max.z p.z l most)
    where
      alike : (m n : ℤ) → m ≤ℤ n → n ≤ℤ m → m ≡ n
      alike m n h k = omega (arith, ints, h, k)

  pub fewer_after : coordinates_after next < coordinates_after end → coordinates_after next < coordinates_after p
  fewer_after h = elim (which p.z b.max.z) [
    | inl l ↦ both_less (coordinates_after next) (coordinates_after end) (coordinates_after p) h (nearer p end x y z (end_after l))
    | inr l ↦ subst (λ (q : Coord). coordinates_after next < coordinates_after q) (same_end l) h
  ]
    where
      both_less : (a c d : ℕ) → a < c → c < d → a < d
      both_less a c d h k = omega (arith, h, k)

-- ---- the outcome of a row

no_done : (e : TreeRefusal) → tree_code (Err e) ≡ done → ⊥
no_done RootLimit h = cc
no_done Memory h = cc

never_done : (limit : ℕ) (q : Coord) (o : Option (Write Scalar)) (f : Field Scalar) (code : ℤ) → IsRefusedIn limit q o f code → code ≡ done → ⊥
never_done limit q None f code h e = h
never_done limit q (Some w) f code h e = no_done h.0 (sym h.1 ∙ e)

module _ (size : ℕ) (voxel : ℕ → Coord) (row : ℕ → Option (Write Scalar)) (limit limit' : ℕ) (old new : Field Scalar) (n : ℕ) (code : ℤ) where
  pub row_limit : WritesFirstIn size voxel row limit limit' old new n code → limit' ≡ limit
  unfolding WritesFirstIn
  row_limit h = h.0

  pub row_field : WritesFirstIn size voxel row limit limit' old new n code → new ≡ after_writes voxel row n old
  unfolding WritesFirstIn
  row_field h = h.1

  -- no more voxels are written than the row has
  pub row_at_most : WritesFirstIn size voxel row limit limit' old new n code → n ≤ size
  unfolding WritesFirstIn
  row_at_most h = elim h.2 [ inl a ↦ (let e = a.1 in omega (arith, e)) | inr r ↦ (let l = r.0 in omega (arith, l)) ]

  pub row_all : WritesFirstIn size voxel row limit limit' old new n code → code ≡ done → n ≡ size
  unfolding WritesFirstIn
  row_all h e = elim h.2 [ inl a ↦ a.1 | inr r ↦ absurd (never_done limit' (voxel n) (row n) new code r.1 e) ]

  pub row_refused : WritesFirstIn size voxel row limit limit' old new n code → (code ≡ done → ⊥) → (n < size) × IsRefusedIn limit' (voxel n) (row n) new code
  unfolding WritesFirstIn
  row_refused h e = elim h.2 [ inl a ↦ absurd (e a.0) | inr r ↦ r ]

-- ---- a row of the box

module _ (b : Box) (p : Coord) (inside : IsTrue (is_inside b p)) (change : Coord → Option (Write Scalar)) (given : (q : Coord) → IsTrue (is_inside b q) → IsSome (change q))
    (f : Field Scalar) (count : ℕ) (number : count ≡ rank b p) (old new : Field Scalar) (before : old ≡ with_writes (is_first b count) change f) (limit limit' n : ℕ) (code : ℤ)
    (h : WritesFirstIn (int_gap p.z b.max.z + 1) (along_z p) (λ i. change (along_z p i)) limit limit' old new n code) where
  abbrev size : ℕ
  size = int_gap p.z b.max.z + 1

  abbrev row_writes : ℕ → Option (Write Scalar)
  row_writes i = change (along_z p i)

  at_most : n ≤ size
  at_most = row_at_most size (along_z p) row_writes limit limit' old new n code h

  pub after_row : new ≡ with_writes (is_first b (count + n)) change f
  after_row =
      let ends = length_is b p inside in
      row_field size (along_z p) row_writes limit limit' old new n code h
      ∙ ap (after_writes (along_z p) row_writes n) (before ∙ ap (λ (k : ℕ). with_writes (is_first b k) change f) number)
      ∙ row_written b p inside change given f n (omega (arith, ints, ends, at_most))
      ∙ ap (λ (k : ℕ). with_writes (is_first b (k + n)) change f) (sym number)

  pub row_done : code ≡ done → rank b (coord p.x p.y b.max.z) + 1 ≡ count + n
  row_done e =
      let all = row_all size (along_z p) row_writes limit limit' old new n code h e in
      ap (λ (q : Coord). rank b q + 1) (sym (end_is b p inside))
      ∙ sums (rank b (along_z p (int_gap p.z b.max.z))) (rank b p) (int_gap p.z b.max.z) count n (row_rank b p inside (int_gap p.z b.max.z)) number all
    where
      sums : (a r g c m : ℕ) → a ≡ r + g → c ≡ r → m ≡ g + 1 → a + 1 ≡ c + m
      sums a r g c m ea ec em = omega (arith, ea, ec, em)

  pub row_stopped : (code ≡ done → ⊥) → (q : Coord) × IsTrue (is_inside b q) × (count + n ≡ rank b q) × IsRefusedIn limit' q (change q) new code
  row_stopped fails =
      let r = row_refused size (along_z p) row_writes limit limit' old new n code h fails in
      let ends = length_is b p inside in
      let l = r.0 in (
        along_z p n,
        row_inside b p inside n (omega (arith, ints, ends, l)),
        ap (λ (k : ℕ). k + n) number ∙ sym (row_rank b p inside n),
        r.1,
      )

  -- the count fits, as the elements do
  pub count_fits : (s : Strides) → IsTrue (are_apart b s) → place b s b.max + 1 < 2 ^ 64 → count + n < 2 ^ 64
  count_fits s apart reach =
      let i = last_inside b p inside in
      let q = along_z p (int_gap p.z b.max.z) in
      sums (rank b q) (rank b p) (int_gap p.z b.max.z) count n (place b s b.max) (row_rank b p inside (int_gap p.z b.max.z)) number at_most (rank_fits b q i s apart) reach
    where
      sums : (a r g c m top : ℕ) → a ≡ r + g → c ≡ r → m ≤ g + 1 → a ≤ top → top + 1 < 2 ^ 64 → c + m < 2 ^ 64
      sums a r g c m top ea ec em l t = omega (arith, ea, ec, em, l, t)
