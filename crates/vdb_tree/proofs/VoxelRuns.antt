-- Runs of a leaf's voxels, whose offsets follow one another.
use Rattle.vdb_tree.proofs.Common.{◌≡◌, ◌⊎◌, inl, inr, ℕ, ℤ, pos, ◌+◌, ◌<◌, ◌≤◌, ◌≤ℤ◌, ◌<ℤ◌, true, arith, ap, sym, subst, ◌∙◌, SFits, w32, int_min, ints, block_around, block_number, offset, sub_block, entry_number, Box, coord, is_inside, IsBefore, coordinates_after, Bits, Coord, Leaf, which_before, corner_of_entry, entry_number_leaf, inside_around, inside_numbered, number_in_block, offset_below, few_after, inside_from, inside_parts, nearer_x, nearer_y, nearer_z, IsRun}
use Rattle.std.proofs.lemmas.Int.{clamps}
use Rattle.vdb_coord.proofs.Offsets.{offset_less}

-- ---- along one axis

abbrev IsWithin : ℤ → ℤ → ℤ → Type 0
IsWithin low high x = (low ≤ℤ x) × (x ≤ℤ high)

-- a range that starts and ends within another lies within it
within : (a b p last x : ℤ) → a ≤ℤ p → last ≤ℤ b → IsWithin p last x → IsWithin a b x
within a b p last x h k on = let low = on.0 in let high = on.1 in (omega (arith, ints, h, low), omega (arith, ints, k, high))

same_ends : (a b c d x : ℤ) → a ≡ c → b ≡ d → IsWithin a b x → IsWithin c d x
same_ends a b c d x e f on = (subst (λ t. t ≤ℤ x) e on.0, subst (λ t. x ≤ℤ t) f on.1)

through : (x y z : ℤ) → x ≤ℤ y → y ≤ℤ z → x ≤ℤ z
through x y z a b = omega (arith, ints, a, b)

both_ways : (x y : ℤ) → x ≤ℤ y → y ≤ℤ x → x ≡ y
both_ways x y a b = omega (arith, ints, a, b)

no_less : (x y : ℤ) → x ≤ℤ y → y <ℤ x → ⊥
no_less x y a b = omega (arith, ints, a, b)

below_or_from : (x y : ℤ) → (y <ℤ x) ⊎ (x ≤ℤ y)
below_or_from x y = grind (arith, ints)

-- the range from a number on, up to what the part and the block have
record IsReached (from part block x : ℤ) : Type 0 where
  behind : from ≤ℤ x
  in_part : x ≤ℤ part
  in_block : x ≤ℤ block

stays : (x y z : ℤ) → x ≤ℤ y → x ≤ℤ z → IsReached x y z x
stays x y z a b = record { behind = omega (arith, ints); in_part = a; in_block = b }

reaches : (x y z : ℤ) → x ≤ℤ y → x ≤ℤ z → IsReached x y z (int_min y z)
reaches x y z a b = record { behind = omega (arith, ints, clamps, a, b); in_part = omega (arith, ints, clamps); in_block = omega (arith, ints, clamps) }

-- ---- coordinates that don't come before another

from_x : (p q : Coord) → (IsBefore q p → ⊥) → p.x ≤ℤ q.x
from_x p q h = elim (below_or_from p.x q.x) [ inl less ↦ absurd (h (inl less)) | inr more ↦ more ]

from_y : (p q : Coord) → p.x ≡ q.x → (IsBefore q p → ⊥) → p.y ≤ℤ q.y
from_y p q x h = elim (below_or_from p.y q.y) [ inl less ↦ absurd (h (inr (sym x, inl less))) | inr more ↦ more ]

from_z : (p q : Coord) → p.x ≡ q.x → p.y ≡ q.y → (IsBefore q p → ⊥) → p.z ≤ℤ q.z
from_z p q x y h = elim (below_or_from p.z q.z) [ inl less ↦ absurd (h (inr (sym x, inr (sym y, less)))) | inr more ↦ more ]

not_behind : (p last : Coord) → p.x ≤ℤ last.x → p.y ≤ℤ last.y → p.z ≤ℤ last.z → IsBefore last p → ⊥
not_behind p last x y z before = elim before [
  | inl a ↦ no_less p.x last.x x a
  | inr r ↦ elim r.1 [ inl b ↦ no_less p.y last.y y b | inr s ↦ no_less p.z last.z z s.1 ]
]

module _ (p last q : Coord) (from : IsBefore q p → ⊥) (to : IsBefore last q → ⊥) where
  between_x : IsWithin p.x last.x q.x
  between_x = (from_x p q from, from_x q last to)

  same_x : last.x ≡ p.x → q.x ≡ p.x
  same_x e = both_ways q.x p.x (subst (λ t. q.x ≤ℤ t) e between_x.1) between_x.0

  between_y : last.x ≡ p.x → IsWithin p.y last.y q.y
  between_y e = let x = same_x e in (from_y p q (sym x) from, from_y q last (x ∙ sym e) to)

  same_y : last.x ≡ p.x → last.y ≡ p.y → q.y ≡ p.y
  same_y e f = let on = between_y e in both_ways q.y p.y (subst (λ t. q.y ≤ℤ t) f on.1) on.0

  between_z : last.x ≡ p.x → last.y ≡ p.y → IsWithin p.z last.z q.z
  between_z e f = let x = same_x e in let y = same_y e f in (from_z p q (sym x) (sym y) from, from_z q last (x ∙ sym e) (y ∙ sym f) to)

-- ---- the three forms of runs

all_within : (b : Box) (q : Coord) → IsWithin b.min.x b.max.x q.x → IsWithin b.min.y b.max.y q.y → IsWithin b.min.z b.max.z q.z → is_inside b q ≡ true
all_within b q x y z = inside_from b q x.0 x.1 y.0 y.1 z.0 z.1

-- a box with a coordinate has its least one
pub least_inside : (b : Box) (p : Coord) → is_inside b p ≡ true → is_inside b b.min ≡ true
least_inside b p h =
    let at = inside_parts b p h in
    inside_from b b.min (itself b.min.x) (through _ _ _ at.0.0 at.0.1) (itself b.min.y) (through _ _ _ at.1.0 at.1.1) (itself b.min.z) (through _ _ _ at.2.0 at.2.1)
  where
    itself : (x : ℤ) → x ≤ℤ x
    itself x = omega (arith, ints)

module _ (bits : Bits) (part : Box) (p : Coord) (inside : is_inside part p ≡ true) where
  abbrev block : Box
  block = block_around bits Leaf p

  at : IsWithin part.min.x part.max.x p.x × IsWithin part.min.y part.max.y p.y × IsWithin part.min.z part.max.z p.z
  at = inside_parts part p inside

  own : IsWithin block.min.x block.max.x p.x × IsWithin block.min.y block.max.y p.y × IsWithin block.min.z block.max.z p.z
  own = inside_parts block p (inside_around bits Leaf p)

  stays_x : IsReached p.x part.max.x block.max.x p.x
  stays_x = stays p.x part.max.x block.max.x at.0.1 own.0.1

  stays_y : IsReached p.y part.max.y block.max.y p.y
  stays_y = stays p.y part.max.y block.max.y at.1.1 own.1.1

  reaches_x : IsReached p.x part.max.x block.max.x (int_min part.max.x block.max.x)
  reaches_x = reaches p.x part.max.x block.max.x at.0.1 own.0.1

  reaches_y : IsReached p.y part.max.y block.max.y (int_min part.max.y block.max.y)
  reaches_y = reaches p.y part.max.y block.max.y at.1.1 own.1.1

  reaches_z : IsReached p.z part.max.z block.max.z (int_min part.max.z block.max.z)
  reaches_z = reaches p.z part.max.z block.max.z at.2.1 own.2.1

  module _ (last : Coord) (x : IsReached p.x part.max.x block.max.x last.x) (y : IsReached p.y part.max.y block.max.y last.y) (z : IsReached p.z part.max.z block.max.z last.z) where
    end_inside : is_inside part last ≡ true
    end_inside = inside_from part last (through _ _ _ at.0.0 x.behind) x.in_part (through _ _ _ at.1.0 y.behind) y.in_part (through _ _ _ at.2.0 z.behind) z.in_part

    end_same : block_number bits Leaf last ≡ block_number bits Leaf p
    end_same =
        number_in_block bits Leaf (block_number bits Leaf p) last
        (inside_from block last (through _ _ _ own.0.0 x.behind) x.in_block (through _ _ _ own.1.0 y.behind) y.in_block (through _ _ _ own.2.0 z.behind) z.in_block)

    -- a run is a row along z
    row_run : last.x ≡ p.x → last.y ≡ p.y → IsRun bits part p last
    row_run e f = record {
      inside = end_inside;
      same = end_same;
      behind = not_behind p last x.behind y.behind z.behind;
      all = λ q _ from to.
          number_in_block bits Leaf (block_number bits Leaf p) q
          (all_within block q (within _ _ _ _ _ own.0.0 x.in_block (between_x p last q from to)) (within _ _ _ _ _ own.1.0 y.in_block (between_y p last q from to e)) (within _ _ _ _ _ own.2.0 z.in_block (between_z p last q from to e f)));
      only = λ q _ from to.
          all_within part q (within _ _ _ _ _ at.0.0 x.in_part (between_x p last q from to)) (within _ _ _ _ _ at.1.0 y.in_part (between_y p last q from to e)) (within _ _ _ _ _ at.2.0 z.in_part (between_z p last q from to e f));
    }

    module _ (low_z : part.min.z ≡ block.min.z) (high_z : part.max.z ≡ block.max.z) where
      -- if rows span the block, a run is several rows
      plane_run : last.x ≡ p.x → IsRun bits part p last
      plane_run e = record {
        inside = end_inside;
        same = end_same;
        behind = not_behind p last x.behind y.behind z.behind;
        all = λ q in_part from to.
            number_in_block bits Leaf (block_number bits Leaf p) q
            (all_within block q (within _ _ _ _ _ own.0.0 x.in_block (between_x p last q from to)) (within _ _ _ _ _ own.1.0 y.in_block (between_y p last q from to e)) (same_ends _ _ _ _ _ low_z high_z (inside_parts part q in_part).2));
        only = λ q same from to.
            all_within part q (within _ _ _ _ _ at.0.0 x.in_part (between_x p last q from to)) (within _ _ _ _ _ at.1.0 y.in_part (between_y p last q from to e))
            (same_ends _ _ _ _ _ (sym low_z) (sym high_z) (inside_parts block q (inside_numbered bits Leaf (block_number bits Leaf p) q same)).2);
      }

      -- if planes span the block, a run is several planes
      whole_run : part.min.y ≡ block.min.y → part.max.y ≡ block.max.y → IsRun bits part p last
      whole_run low_y high_y = record {
        inside = end_inside;
        same = end_same;
        behind = not_behind p last x.behind y.behind z.behind;
        all = λ q in_part from to.
            number_in_block bits Leaf (block_number bits Leaf p) q
            (all_within block q (within _ _ _ _ _ own.0.0 x.in_block (between_x p last q from to)) (same_ends _ _ _ _ _ low_y high_y (inside_parts part q in_part).1) (same_ends _ _ _ _ _ low_z high_z (inside_parts part q in_part).2));
        only = λ q same from to.
            let on = inside_parts block q (inside_numbered bits Leaf (block_number bits Leaf p) q same) in
            all_within part q (within _ _ _ _ _ at.0.0 x.in_part (between_x p last q from to)) (same_ends _ _ _ _ _ (sym low_y) (sym high_y) on.1) (same_ends _ _ _ _ _ (sym low_z) (sym high_z) on.2);
      }

  -- the last coordinate that the code computes
  pub row_to : (x y z : ℤ) → x ≡ p.x → y ≡ p.y → z ≡ int_min part.max.z block.max.z → IsRun bits part p (coord x y z)
  row_to x y z a b c =
      row_run (coord x y z) (subst (λ t. IsReached p.x part.max.x block.max.x t) (sym a) stays_x) (subst (λ t. IsReached p.y part.max.y block.max.y t) (sym b) stays_y)
      (subst (λ t. IsReached p.z part.max.z block.max.z t) (sym c) reaches_z) a b

  module _ (low_z : part.min.z ≡ block.min.z) (high_z : part.max.z ≡ block.max.z) where
    pub plane_to : (x y z : ℤ) → x ≡ p.x → y ≡ int_min part.max.y block.max.y → z ≡ int_min part.max.z block.max.z → IsRun bits part p (coord x y z)
    plane_to x y z a b c =
        plane_run (coord x y z) (subst (λ t. IsReached p.x part.max.x block.max.x t) (sym a) stays_x) (subst (λ t. IsReached p.y part.max.y block.max.y t) (sym b) reaches_y)
        (subst (λ t. IsReached p.z part.max.z block.max.z t) (sym c) reaches_z) low_z high_z a

    pub whole_to : part.min.y ≡ block.min.y → part.max.y ≡ block.max.y
        → (x y z : ℤ) → x ≡ int_min part.max.x block.max.x → y ≡ int_min part.max.y block.max.y → z ≡ int_min part.max.z block.max.z → IsRun bits part p (coord x y z)
    whole_to low_y high_y x y z a b c =
        whole_run (coord x y z) (subst (λ t. IsReached p.x part.max.x block.max.x t) (sym a) reaches_x) (subst (λ t. IsReached p.y part.max.y block.max.y t) (sym b) reaches_y)
        (subst (λ t. IsReached p.z part.max.z block.max.z t) (sym c) reaches_z) low_z high_z low_y high_y

-- ---- the offsets of a run

-- in one block, a coordinate that comes before another has the lower offset
before_less : (bits : Bits) (p q : Coord) → block_number bits Leaf p ≡ block_number bits Leaf q → IsBefore p q → offset bits Leaf p < offset bits Leaf q
before_less bits p q same before =
    offset_less bits Leaf p q same (subst (λ (t : Coord). IsBefore t (entry_number bits Leaf q)) (sym (entry_number_leaf bits p)) (subst (λ (t : Coord). IsBefore p t) (sym (entry_number_leaf bits q)) before))

-- in one block, a coordinate that doesn't come before another has no lower offset
offset_order : (bits : Bits) (p q : Coord) → block_number bits Leaf p ≡ block_number bits Leaf q → (IsBefore q p → ⊥) → offset bits Leaf p ≤ offset bits Leaf q
offset_order bits p q same not = elim (which_before p q) [
  | inl before ↦ less_at_most _ _ (before_less bits p q same before)
  | inr r ↦ elim r [ inl e ↦ itself _ _ (ap (λ (t : Coord). offset bits Leaf t) e) | inr back ↦ absurd (not back) ]
]
  where
    less_at_most : (m n : ℕ) → m < n → m ≤ n
    less_at_most m n h = omega (arith, h)

    itself : (m n : ℕ) → m ≡ n → m ≤ n
    itself m n e = omega (arith, e)

module _ (bits : Bits) (part : Box) (p last : Coord) (run : IsRun bits part p last) where
  -- the offset of the last coordinate is no less than p's
  pub run_from : offset bits Leaf p ≤ offset bits Leaf last
  run_from = offset_order bits p last (sym run.same) run.behind

  -- the part's coordinates from p up to the last have the offsets between these two
  pub offset_in_run : (q : Coord) → is_inside part q ≡ true → (IsBefore q p → ⊥) → (IsBefore last q → ⊥) → (offset bits Leaf p ≤ offset bits Leaf q) × (offset bits Leaf q < offset bits Leaf last + 1)
  offset_in_run q inside from to =
      let same = run.all q inside from to in
      (offset_order bits p q (sym same) from, up_to _ _ (offset_order bits q last (same ∙ sym run.same) to))
    where
      up_to : (m n : ℕ) → m ≤ n → m < n + 1
      up_to m n h = omega (arith, h)

  -- each offset between these two is the offset of one of the part's coordinates
  pub in_run_of_offset : (i : ℕ) → offset bits Leaf p ≤ i → i < offset bits Leaf last + 1 → (q : Coord) × (is_inside part q ≡ true) × (offset bits Leaf q ≡ i)
  in_run_of_offset i low high =
      let q = (sub_block bits Leaf (block_around bits Leaf p) i).min in
      let at = corner_of_entry bits Leaf p i (small _ _ _ high (offset_below bits Leaf last)) in (
        q,
        run.only q at.0
            (λ before. lower _ _ _ (before_less bits q p at.0 before) at.1 low)
            (λ past. higher _ _ _ (before_less bits last q (run.same ∙ sym at.0) past) at.1 high),
        at.1,
      )
    where
      small : (i n m : ℕ) → i < n + 1 → n < m → i < m
      small i n m h k = omega (arith, h, k)

      lower : (a b i : ℕ) → a < b → a ≡ i → b ≤ i → ⊥
      lower a b i h e k = omega (arith, h, e, k)

      higher : (a b i : ℕ) → a < b → b ≡ i → i < a + 1 → ⊥
      higher a b i h e k = omega (arith, h, e, k)

-- if q doesn't come before p, no more coordinates come after q than after p
pub not_further : (p q : Coord) → (IsBefore q p → ⊥) → SFits w32 q.x → SFits w32 q.y → SFits w32 q.z → coordinates_after q ≤ coordinates_after p
not_further p q not x y z = elim (which_before p q) [
  | inl before ↦ less_at_most _ _ (fewer before)
  | inr r ↦ elim r [ inl e ↦ itself _ _ (ap (λ (t : Coord). coordinates_after t) (sym e)) | inr back ↦ absurd (not back) ]
]
  where
    less_at_most : (m n : ℕ) → m < n → m ≤ n
    less_at_most m n h = omega (arith, h)

    itself : (m n : ℕ) → m ≡ n → m ≤ n
    itself m n e = omega (arith, e)

    greatest : (x : ℤ) → SFits w32 x → x ≤ℤ pos 2147483647
    greatest x h = grind (arith, ints)

    fewer : IsBefore p q → coordinates_after q < coordinates_after p
    fewer before = elim before [
      | inl a ↦ nearer_x p q (greatest _ x) (greatest _ y) (greatest _ z) (few_after _ y) (few_after _ z) a
      | inr r ↦ elim r.1 [
        | inl b ↦ nearer_y p q (greatest _ x) (greatest _ y) (greatest _ z) (few_after _ y) (few_after _ z) r.0 b
        | inr s ↦ nearer_z p q (greatest _ x) (greatest _ y) (greatest _ z) (few_after _ y) (few_after _ z) r.0 s.0 s.1
      ]
    ]
