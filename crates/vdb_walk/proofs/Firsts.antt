-- The first coordinate of a box in block order.
use Rattle.vdb_walk.proofs.Common.{◌≡◌, ◌⊎◌, inl, inr, sym, ap, ◌∙◌, refl, subst, ℕ, ℤ, ◌≤ℤ◌, ◌<ℤ◌, true, false, arith, IsTrue, Option, Some, None, is_lt, Ordering, Less, Equal, Greater, tied_itself, ints, block_bits, block_cmp, is_past, key, Box, is_box, is_inside, IsBefore, Bits, Coord, Leaf, Lower, Upper, number_mono, number_zero, block_total, offset_from_entry, min_inside, from_key, from_lower, from_upper, precedes, or_cases, IsFirst, AreInBlockOrder, IsHalved, numbers}
use Rattle.vdb_coord.proofs.BlockOrder.{not_after}
use Rattle.vdb_walk.proofs.BoxOrder.{between_x, between_y, between_z, from_leaf, in_half, in_other, key_less, offset_less}
use Rattle.vdb_walk.proofs.Keys.{IsUpTo}

false_true : false ≡ true → ⊥
false_true e = cc

-- ---- one coordinate before another

abbrev pub Comes : Bits → Coord → Coord → Type 0
Comes bits p q = IsTrue (is_lt (block_cmp bits p q))

less_or_same : (x y : ℤ) → x ≤ℤ y → (x <ℤ y) ⊎ (x ≡ y)
less_or_same x y h = grind (arith, ints)

before_or_same : (p q : Coord) → IsUpTo p q → IsBefore p q ⊎ (p ≡ q)
before_or_same p q h =
    elim (less_or_same p.x q.x h.0) [
      | inl x ↦ inl (inl x)
      | inr x ↦ elim (less_or_same p.y q.y h.1) [
        | inl y ↦ inl (inr (x, inl y))
        | inr y ↦ elim (less_or_same p.z q.z h.2) [
          | inl z ↦ inl (inr (x, inr (y, z)))
          | inr z ↦ inr (λ i. record { x = x i; y = y i; z = z i })
        ]
      ]
    ]

numbers_up : (low : ℕ) (p q : Coord) → IsUpTo p q → IsUpTo (numbers low p) (numbers low q)
numbers_up low p q h = (number_mono low p.x q.x h.0, number_mono low p.y q.y h.1, number_mono low p.z q.z h.2)

less : (o : Ordering) → is_lt o ≡ true → o ≡ Less
less Less h = refl
less Equal h = cc
less Greater h = cc

module _ (bits : Bits) where
  -- a coordinate that lies up to another along each axis comes before it, or is it
  pub first_or_same : (p q : Coord) → IsUpTo p q → Comes bits p q ⊎ (p ≡ q)
  first_or_same p q h =
      elim (before_or_same (numbers (block_bits bits Upper) p) (numbers (block_bits bits Upper) q) (numbers_up (block_bits bits Upper) p q h)) [
        | inl b ↦ inl (from_key bits p q (key_less (key bits p) (key bits q) b))
        | inr k ↦ elim (before_or_same (numbers (block_bits bits Lower) p) (numbers (block_bits bits Lower) q) (numbers_up (block_bits bits Lower) p q h)) [
          | inl b ↦ inl (from_upper bits p q k (offset_less bits Upper p q k b))
          | inr l ↦ elim (before_or_same (numbers (block_bits bits Leaf) p) (numbers (block_bits bits Leaf) q) (numbers_up (block_bits bits Leaf) p q h)) [
            | inl b ↦ inl (from_lower bits p q k (offset_from_entry bits Upper p q l) (offset_less bits Lower p q l b))
            | inr f ↦ elim (before_or_same p q h) [
              | inl b ↦ inl (from_leaf bits p q k (offset_from_entry bits Upper p q l) (offset_from_entry bits Lower p q f) (offset_less bits Leaf p q f (voxels p q b)))
              | inr e ↦ inr e
            ]
          ]
        ]
      ]
    where
      voxels : (p q : Coord) → IsBefore p q → IsBefore (numbers 0 p) (numbers 0 q)
      voxels p q b = rw (number_zero p.x, number_zero p.y, number_zero p.z, number_zero q.x, number_zero q.y, number_zero q.z) b

  pub comes_on : (p q r : Coord) → Comes bits p q → Comes bits q r → Comes bits p r
  comes_on p q r h k = ap is_lt ((block_total bits).trans p q r (less _ h) (less _ k))

  pub never_itself : (p : Coord) → is_lt (block_cmp bits p p) ≡ false
  never_itself p = ap is_lt (tied_itself (block_total bits) p)

  pub never_back : (p q : Coord) → Comes bits p q → is_lt (block_cmp bits q p) ≡ false
  never_back p q h = not_after bits p q (precedes bits p q h)

  up_to_never : (p q : Coord) → IsUpTo p q → is_lt (block_cmp bits q p) ≡ false
  up_to_never p q h = elim (first_or_same p q h) [ inl c ↦ never_back p q c | inr e ↦ subst (λ (c : Coord). is_lt (block_cmp bits c p) ≡ false) e (never_itself p) ]

  -- ---- the corners of a box

  from_min : (b : Box) (q : Coord) → is_inside b q ≡ true → IsUpTo b.min q
  from_min b q h = ((between_x b q h).0, (between_y b q h).0, (between_z b q h).0)

  to_max : (b : Box) (q : Coord) → is_inside b q ≡ true → IsUpTo q b.max
  to_max b q h = ((between_x b q h).1, (between_y b q h).1, (between_z b q h).1)

  -- none of its coordinates comes before the least corner
  pub never_before_min : (b : Box) (q : Coord) → is_inside b q ≡ true → is_lt (block_cmp bits q b.min) ≡ false
  never_before_min b q i = up_to_never b.min q (from_min b q i)

  -- none of its coordinates comes past the greatest corner
  pub never_past_max : (b : Box) (q : Coord) → is_inside b q ≡ true → is_lt (block_cmp bits b.max q) ≡ false
  never_past_max b q i = up_to_never q b.max (to_max b q i)

  -- the least corner is the first coordinate
  pub first_at_min : (Kind : Coord → Type 0) (b : Box) → is_box b ≡ true → Kind b.min → IsFirst bits Kind b (Some b.min)
  first_at_min Kind b h k = (min_inside b h, k, λ q inside _. up_to_never b.min q (from_min b q inside))

  -- if a coordinate lies up to another and comes past the last one, so does the other
  past_on : (last : Option Coord) (p q : Coord) → IsUpTo p q → is_past bits last p ≡ true → is_past bits last q ≡ true
  past_on None p q h k = refl
  past_on (Some last) p q h k = elim (first_or_same p q h) [ inl c ↦ comes_on last p q k c | inr e ↦ subst (λ (c : Coord). is_past bits (Some last) c ≡ true) e k ]

  -- if the greatest corner doesn't come past the last one, none does
  pub none_past : (last : Option Coord) (b : Box) (q : Coord) → is_past bits last b.max ≡ false → is_inside b q ≡ true → is_past bits last q ≡ true → ⊥
  none_past last b q e inside past = false_true (sym e ∙ past_on last q b.max (to_max b q inside) past)

  -- ---- halves

  module _ (Kind : Coord → Type 0) (b first second : Box) (halved : IsHalved b first second) where
    either_half : (q : Coord) → is_inside b q ≡ true → (is_inside first q ≡ true) ⊎ (is_inside second q ≡ true)
    either_half q h = or_cases (is_inside first q) (is_inside second q) (sym (halved.each q) ∙ h)

    -- the first coordinate of the first part is the first of the whole box
    pub of_first : (p : Coord) → AreInBlockOrder bits first second → IsFirst bits Kind first (Some p) → IsFirst bits Kind b (Some p)
    of_first p ordered h = (
      in_half b first second halved p h.0,
      h.1,
      λ q inside k. elim (either_half q inside) [
        | inl i ↦ h.2 q i k
        | inr i ↦ never_back p q (ordered p q h.0 i)
      ],
    )

    -- if the first part has none, the first of the second part is the first of the whole
    pub of_second : (found : Option Coord) → IsFirst bits Kind first None → IsFirst bits Kind second found → IsFirst bits Kind b found
    of_second (Some p) none h = (in_other b first second halved p h.0, h.1, λ q inside k. elim (either_half q inside) [ inl i ↦ absurd (none q i k) | inr i ↦ h.2 q i k ])
    of_second None none h = λ q inside k. elim (either_half q inside) [ inl i ↦ none q i k | inr i ↦ h q i k ]

-- two properties that agree in the box have the same first coordinate
pub first_same : (bits : Bits) (Kind Other : Coord → Type 0) (b : Box) → ((q : Coord) → is_inside b q ≡ true → Kind q → Other q) → ((q : Coord) → is_inside b q ≡ true → Other q → Kind q)
    → (found : Option Coord) → IsFirst bits Kind b found → IsFirst bits Other b found
first_same bits Kind Other b to from (Some p) h = (h.0, to p h.0 h.1, λ q i k. h.2 q i (from q i k))
first_same bits Kind Other b to from None h = λ q i k. h q i (from q i k)

-- if a coordinate comes past the last one, so does each coordinate after it
pub past_after : (bits : Bits) (last : Option Coord) (p q : Coord) → is_past bits last p ≡ true → is_lt (block_cmp bits p q) ≡ true → is_past bits last q ≡ true
past_after bits None p q h c = refl
past_after bits (Some last) p q h c = comes_on bits last p q h c
