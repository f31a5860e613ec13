-- Block order: by keys and offsets, by the numbers of blocks, and along a box.
use Rattle.vdb_coord.proofs.Common.{◌≡◌, ◌⊎◌, inl, inr, ℕ, ℤ, ◌<◌, ◌≤◌, ◌≤ℤ◌, ◌<ℤ◌, Bool, true, false, ◌||◌, cond, List, [], ◌∷◌, Some, IsTrue, arith, ap, refl, subst, sym, ◌∙◌, ints, AllByRecursion, filter, is_member, int_cmp, nat_cmp, ordering_then, Ordering, Less, Equal, Greater, block_bits, block_cmp, block_number, key, offset, ComesBefore, coordinates_past, Box, coord_cmp, coord_eq, coordinates, everywhere, is_inside, IsBefore, IsBlockBefore, Bits, Coord, Level, Leaf, Lower, Upper}
use Rattle.std.specs.Cmp.{int_cmp_is, nat_cmp_is}
use Rattle.std.proofs.lemmas.Cmp.{ranked, tied_itself}
use Rattle.std.specs.List.{IsDistinct}
use Rattle.std.proofs.lemmas.List.Sums.{length-filter}
use Rattle.std.specs.Ordering.{is_lt, ordering_reverse}
use Rattle.vdb_coord.specs.Blocks.{is_past}
use Rattle.vdb_coord.proofs.Boxes.{both, not_true}
use Rattle.vdb_coord.proofs.CountBounds.{count_at_least, member_passing}
use Rattle.vdb_coord.proofs.Counts.{distinct_filter}
use Rattle.vdb_coord.proofs.Digits.{number_mono, number_zero}
use Rattle.vdb_coord.proofs.Distinct.{distinct_coordinates}
use Rattle.vdb_coord.proofs.Members.{coord_exact, coord_total}
use Rattle.vdb_coord.proofs.Nesting.{block_exact, block_total, lower_from_leaf, offset_from_entry, upper_from_lower}
use Rattle.vdb_coord.proofs.Offsets.{numbers, offset_less}
use Rattle.vdb_coord.proofs.Walk.{inside_parts, same_number, up_to_x}

either_way : (b : Bool) → (b ≡ true) ⊎ (b ≡ false)
either_way true = inl refl
either_way false = inr refl

false_true : false ≡ true → ⊥
false_true e = cc

-- if a chain of two orderings says less, the first says less, or it says equal and the second less
then_less : (a b : Ordering) → is_lt (ordering_then a b) ≡ true → (a ≡ Less) ⊎ ((a ≡ Equal) × (is_lt b ≡ true))
then_less Less b h = inl refl
then_less Equal b h = inr (refl, h)
then_less Greater b h = cc

is_less : (a : Ordering) → is_lt a ≡ true → a ≡ Less
is_less Less h = refl
is_less Equal h = cc
is_less Greater h = cc

nat_less : (m n : ℕ) → nat_cmp m n ≡ Less → m < n
nat_less m n h = ranked m n Less (sym h)

nat_equal : (m n : ℕ) → nat_cmp m n ≡ Equal → m ≡ n
nat_equal m n h = ranked m n Equal (sym h)

less_nat : (m n : ℕ) → m < n → nat_cmp m n ≡ Less
less_nat m n h = sym (nat_cmp_is m n Less h)

equal_nat : (m n : ℕ) → m ≡ n → nat_cmp m n ≡ Equal
equal_nat m n h = sym (nat_cmp_is m n Equal h)

-- keys that compare alike are equal
pub key_equal : (k l : Coord) → coord_cmp k l ≡ Equal → k ≡ l
key_equal k l h = coord_exact k l (equal h)
  where
    equal : coord_cmp k l ≡ Equal → coord_eq k l ≡ true
    equal e = rw e refl

equal_key : (k l : Coord) → k ≡ l → coord_cmp k l ≡ Equal
equal_key k l e = ap (coord_cmp k) (sym e) ∙ tied_itself coord_total k

-- no key comes past itself
pub less_apart : (k l : Coord) → coord_cmp k l ≡ Less → k ≡ l → ⊥
less_apart k l h e = never (sym h ∙ equal_key k l e)
  where
    never : Less ≡ Equal → ⊥
    never e = cc

-- two keys cannot each be past the other
pub less_once : (k l : Coord) → coord_cmp k l ≡ Less → coord_cmp l k ≡ Less → ⊥
less_once k l h g = less_apart k k (coord_total.trans k l k h g) refl

module _ (bits : Bits) where
  -- p comes before q in block order: by the key, or else by the upper, the lower or the leaf offset
  abbrev pub Precedes : Coord → Coord → Type 0
  Precedes p q =
      (coord_cmp (key bits p) (key bits q) ≡ Less)
      ⊎ ((key bits p ≡ key bits q) × ((offset bits Upper p < offset bits Upper q)
      ⊎ ((offset bits Upper p ≡ offset bits Upper q) × ((offset bits Lower p < offset bits Lower q)
      ⊎ ((offset bits Lower p ≡ offset bits Lower q) × (offset bits Leaf p < offset bits Leaf q))))))

  pub precedes : (p q : Coord) → is_lt (block_cmp bits p q) ≡ true → Precedes p q
  precedes p q h =
      elim (then_less (coord_cmp (key bits p) (key bits q)) _ h) [
        | inl a ↦ inl a
        | inr a ↦ inr (
          key_equal _ _ a.0,
          elim (then_less (nat_cmp (offset bits Upper p) (offset bits Upper q)) _ a.1) [
            | inl b ↦ inl (nat_less _ _ b)
            | inr b ↦ inr (
              nat_equal _ _ b.0,
              elim (then_less (nat_cmp (offset bits Lower p) (offset bits Lower q)) (nat_cmp (offset bits Leaf p) (offset bits Leaf q)) b.1) [
                | inl c ↦ inl (nat_less _ _ c)
                | inr c ↦ inr (nat_equal _ _ c.0, nat_less _ _ (is_less _ c.1))
              ],
            )
          ],
        )
      ]

  pub from_key : (p q : Coord) → coord_cmp (key bits p) (key bits q) ≡ Less → is_lt (block_cmp bits p q) ≡ true
  from_key p q a = rw a refl

  pub from_upper : (p q : Coord) → key bits p ≡ key bits q → offset bits Upper p < offset bits Upper q → is_lt (block_cmp bits p q) ≡ true
  from_upper p q k u = let a = equal_key _ _ k in let b = less_nat _ _ u in rw (a, b) refl

  pub from_lower : (p q : Coord) → key bits p ≡ key bits q → offset bits Upper p ≡ offset bits Upper q → offset bits Lower p < offset bits Lower q → is_lt (block_cmp bits p q) ≡ true
  from_lower p q k u l = let a = equal_key _ _ k in let b = equal_nat _ _ u in let c = less_nat _ _ l in rw (a, b, c) refl

  -- what doesn't precede isn't less
  pub not_before : (p q : Coord) → (Precedes p q → ⊥) → is_lt (block_cmp bits p q) ≡ false
  not_before p q h = elim (either_way (is_lt (block_cmp bits p q))) [ inl e ↦ absurd (h (precedes p q e)) | inr e ↦ e ]

  -- coordinates of one lower extent have one upper offset
  pub same_upper_offset : (p q : Coord) → block_number bits Lower p ≡ block_number bits Lower q → offset bits Upper p ≡ offset bits Upper q
  same_upper_offset p q e = offset_from_entry bits Upper p q e

  differ : (m n : ℕ) → m < n → m ≡ n → ⊥
  differ m n h e = omega (arith, h, e)

  turned : (m n : ℕ) → m < n → n ≤ m → ⊥
  turned m n h g = omega (arith, h, g)

  none_below : (m n : ℕ) → n ≡ 0 → m < n → ⊥
  none_below m n e h = omega (arith, h, e)

  -- no coordinate of a lower extent at a later offset precedes the first of a leaf
  pub later_in_lower : (p q : Coord) → block_number bits Lower q ≡ block_number bits Lower p → offset bits Leaf p ≡ 0 → offset bits Lower p ≤ offset bits Lower q → is_lt (block_cmp bits q p) ≡ false
  later_in_lower p q b first from = not_before q p (λ h.
      elim h [
        | inl a ↦ less_apart (key bits q) (key bits p) a (upper_from_lower bits q p b)
        | inr a ↦ elim a.1 [
          | inl u ↦ differ _ _ u (same_upper_offset q p b)
          | inr u ↦ elim u.1 [
            | inl l ↦ turned _ _ l from
            | inr l ↦ none_below _ _ first l.1
          ]
        ]
      ])

  -- what precedes doesn't come after
  pub not_after : (p q : Coord) → Precedes p q → is_lt (block_cmp bits q p) ≡ false
  not_after p q h = not_before q p (λ g.
      elim h [
        | inl a ↦ elim g [ inl b ↦ less_once (key bits p) (key bits q) a b | inr b ↦ less_apart (key bits p) (key bits q) a (sym b.0) ]
        | inr a ↦ elim g [
          | inl b ↦ less_apart (key bits q) (key bits p) b (sym a.0)
          | inr b ↦ elim a.1 [
            | inl u ↦ elim b.1 [ inl v ↦ omega (arith, u, v) | inr v ↦ differ _ _ u (sym v.0) ]
            | inr u ↦ elim b.1 [
              | inl v ↦ differ _ _ v (sym u.0)
              | inr v ↦ elim u.1 [
                | inl l ↦ elim v.1 [ inl m ↦ omega (arith, l, m) | inr m ↦ differ _ _ l (sym m.0) ]
                | inr l ↦ elim v.1 [ inl m ↦ differ _ _ m (sym l.0) | inr m ↦ omega (arith, l.1, m.1) ]
              ]
            ]
          ]
        ]
      ])

-- ---- from the numbers of blocks

less_from : (k l : ℤ) → k <ℤ l → int_cmp k l ≡ Less
less_from k l h = sym (int_cmp_is k l Less h)

equal_from : (k l : ℤ) → k ≡ l → int_cmp k l ≡ Equal
equal_from k l h = sym (int_cmp_is k l Equal h)

-- keys before one another are less
pub key_less : (k l : Coord) → IsBefore k l → coord_cmp k l ≡ Less
key_less k l h =
    elim h [
      | inl x ↦ let e = less_from k.x l.x x in rw e refl
      | inr r ↦ let ex = equal_from k.x l.x r.0 in elim r.1 [
        | inl y ↦ let e = less_from k.y l.y y in rw (ex, e) refl
        | inr s ↦ let ey = equal_from k.y l.y s.0 in let e = less_from k.z l.z s.1 in rw (ex, ey, e) refl
      ]
    ]

pub from_leaf : (bits : Bits) (p q : Coord) → key bits p ≡ key bits q → offset bits Upper p ≡ offset bits Upper q → offset bits Lower p ≡ offset bits Lower q → offset bits Leaf p < offset bits Leaf q → is_lt (block_cmp bits p q) ≡ true
from_leaf bits p q k u l f = let a = equal_key _ _ k in let b = equal_nat _ _ u in let c = equal_nat _ _ l in let d = less_nat _ _ f in rw (a, b, c, d) refl

module _ (bits : Bits) where
  -- p comes before q if its upper extent does
  pub by_upper : (p q : Coord) → IsBefore (block_number bits Upper p) (block_number bits Upper q) → ComesBefore bits p q
  by_upper p q h = from_key bits p q (key_less (key bits p) (key bits q) h)

  -- p comes before q if its lower extent does, in one upper extent
  pub by_lower : (p q : Coord) → block_number bits Upper p ≡ block_number bits Upper q → IsBefore (block_number bits Lower p) (block_number bits Lower q) → ComesBefore bits p q
  by_lower p q e h = from_upper bits p q e (offset_less bits Upper p q e h)

  -- p comes before q if its leaf extent does, in one lower extent
  pub by_leaf : (p q : Coord) → block_number bits Lower p ≡ block_number bits Lower q → IsBefore (block_number bits Leaf p) (block_number bits Leaf q) → ComesBefore bits p q
  by_leaf p q e h = from_lower bits p q (upper_from_lower bits p q e) (offset_from_entry bits Upper p q e) (offset_less bits Lower p q e h)

  -- p comes before q if its coordinate does, in one leaf extent
  pub by_voxel : (p q : Coord) → block_number bits Leaf p ≡ block_number bits Leaf q → IsBefore p q → ComesBefore bits p q
  by_voxel p q e h =
      let l = lower_from_leaf bits p q e in
      from_leaf bits p q (upper_from_lower bits p q l) (offset_from_entry bits Upper p q l) (offset_from_entry bits Lower p q e) (offset_less bits Leaf p q e (voxels p q h))
    where
      voxels : (p q : Coord) → IsBefore p q → IsBefore (numbers 0 p) (numbers 0 q)
      voxels p q b = rw (number_zero p.x, number_zero p.y, number_zero p.z, number_zero q.x, number_zero q.y, number_zero q.z) b

  -- ---- an order

  pub comes_on : (p q r : Coord) → ComesBefore bits p q → ComesBefore bits q r → ComesBefore bits p r
  comes_on p q r h k = ap is_lt ((block_total bits).trans p q r (is_less _ h) (is_less _ k))

  pub never_itself : (p : Coord) → is_lt (block_cmp bits p p) ≡ false
  never_itself p = ap is_lt (tied_itself (block_total bits) p)

  pub never_back : (p q : Coord) → ComesBefore bits p q → is_lt (block_cmp bits q p) ≡ false
  never_back p q h = not_after bits p q (precedes bits p q h)

  -- the same, as contradictions
  pub not_itself : (p : Coord) → ComesBefore bits p p → ⊥
  not_itself p h = false_true (sym (never_itself p) ∙ h)

  pub not_both : (p q : Coord) → ComesBefore bits p q → ComesBefore bits q p → ⊥
  not_both p q h k = false_true (sym (never_back p q h) ∙ k)

  pub not_same : (p q : Coord) → ComesBefore bits p q → p ≡ q → ⊥
  not_same p q h e = not_itself q (subst (λ (c : Coord). ComesBefore bits c q) e h)

  -- of two coordinates one comes before the other, or they are equal
  pub which_first : (p q : Coord) → ComesBefore bits p q ⊎ ((p ≡ q) ⊎ ComesBefore bits q p)
  which_first p q = by (block_cmp bits p q) refl
    where
      by : (o : Ordering) → block_cmp bits p q ≡ o → ComesBefore bits p q ⊎ ((p ≡ q) ⊎ ComesBefore bits q p)
      by Less e = inl (ap is_lt e)
      by Equal e = inr (inl (block_exact bits p q e))
      by Greater e = inr (inr (ap is_lt ((block_total bits).antisymm q p ∙ ap ordering_reverse e)))

  -- two coordinates are equal if neither comes before the other
  pub same_from_neither : (p q : Coord) → (ComesBefore bits p q → ⊥) → (ComesBefore bits q p → ⊥) → p ≡ q
  same_from_neither p q h k = elim (which_first p q) [ inl a ↦ absurd (h a) | inr r ↦ elim r [ inl e ↦ e | inr b ↦ absurd (k b) ] ]

  -- what doesn't come before p comes after it, or equals it
  pub first_unless : (p q : Coord) → is_lt (block_cmp bits q p) ≡ false → ComesBefore bits p q ⊎ (p ≡ q)
  first_unless p q h = elim (which_first p q) [ inl a ↦ inl a | inr r ↦ elim r [ inl e ↦ inr e | inr b ↦ absurd (false_true (sym h ∙ b)) ] ]

  -- ---- along the axes

  -- a coordinate that lies up to another along each axis comes before it, or equals it
  pub first_or_same : (p q : Coord) → p.x ≤ℤ q.x → p.y ≤ℤ q.y → p.z ≤ℤ q.z → ComesBefore bits p q ⊎ (p ≡ q)
  first_or_same p q x y z =
      elim (at (block_bits bits Upper)) [
        | inl b ↦ inl (by_upper p q b)
        | inr k ↦ elim (at (block_bits bits Lower)) [
          | inl b ↦ inl (by_lower p q k b)
          | inr l ↦ elim (at (block_bits bits Leaf)) [
            | inl b ↦ inl (by_leaf p q l b)
            | inr f ↦ elim (up_to_x p q x y z) [ inl b ↦ inl (by_voxel p q f b) | inr e ↦ inr e ]
          ]
        ]
      ]
    where
      at : (low : ℕ) → IsBefore (numbers low p) (numbers low q) ⊎ (numbers low p ≡ numbers low q)
      at low = up_to_x (numbers low p) (numbers low q) (number_mono low p.x q.x x) (number_mono low p.y q.y y) (number_mono low p.z q.z z)

  pub not_before_lower : (p q : Coord) → p.x ≤ℤ q.x → p.y ≤ℤ q.y → p.z ≤ℤ q.z → ComesBefore bits q p → ⊥
  not_before_lower p q x y z h = elim (first_or_same p q x y z) [ inl c ↦ not_both p q c h | inr e ↦ not_same q p h (sym e) ]

  -- no coordinate of a box comes before its least corner
  pub not_before_min : (b : Box) (q : Coord) → is_inside b q ≡ true → ComesBefore bits q b.min → ⊥
  not_before_min b q i = let at = inside_parts b q i in not_before_lower b.min q at.0.0 at.1.0 at.2.0

  -- no coordinate of a box comes past its greatest corner
  pub not_past_max : (b : Box) (q : Coord) → is_inside b q ≡ true → ComesBefore bits b.max q → ⊥
  not_past_max b q i = let at = inside_parts b q i in not_before_lower q b.max at.0.1 at.1.1 at.2.1

-- ---- the numbers of blocks

less_same_or_past : (x y : ℤ) → (x <ℤ y) ⊎ ((x ≡ y) ⊎ (y <ℤ x))
less_same_or_past x y = grind (arith, ints)

-- of two numbers one comes before the other, or they are equal
pub which_before : (m n : Coord) → IsBefore m n ⊎ ((m ≡ n) ⊎ IsBefore n m)
which_before m n =
    elim (less_same_or_past m.x n.x) [
      | inl a ↦ inl (inl a)
      | inr r ↦ elim r [
        | inr b ↦ inr (inr (inl b))
        | inl x ↦ elim (less_same_or_past m.y n.y) [
          | inl a ↦ inl (inr (x, inl a))
          | inr s ↦ elim s [
            | inr b ↦ inr (inr (inr (sym x, inl b)))
            | inl y ↦ elim (less_same_or_past m.z n.z) [
              | inl a ↦ inl (inr (x, inr (y, a)))
              | inr t ↦ elim t [
                | inr b ↦ inr (inr (inr (sym x, inr (sym y, b))))
                | inl z ↦ inr (inl (same_number m n x y z))
              ]
            ]
          ]
        ]
      ]
    ]

less_not_same : (x y : ℤ) → x <ℤ y → x ≡ y → ⊥
less_not_same x y h e = omega (arith, ints, h, e)

less_not_past : (x y : ℤ) → x <ℤ y → y <ℤ x → ⊥
less_not_past x y h k = omega (arith, ints, h, k)

pub before_not_past : (m n : Coord) → IsBefore m n → IsBefore n m → ⊥
before_not_past m n h k =
    elim h [
      | inl x ↦ elim k [ inl u ↦ less_not_past m.x n.x x u | inr r ↦ less_not_same m.x n.x x (sym r.0) ]
      | inr s ↦ elim k [
        | inl u ↦ less_not_same n.x m.x u (sym s.0)
        | inr r ↦ elim s.1 [
          | inl y ↦ elim r.1 [ inl v ↦ less_not_past m.y n.y y v | inr q ↦ less_not_same m.y n.y y (sym q.0) ]
          | inr t ↦ elim r.1 [ inl v ↦ less_not_same n.y m.y v (sym t.0) | inr q ↦ less_not_past m.z n.z t.1 q.1 ]
        ]
      ]
    ]

pub before_not_same : (m n : Coord) → IsBefore m n → m ≡ n → ⊥
before_not_same m n h e = let itself : IsBefore n n = subst (λ (t : Coord). IsBefore t n) e h in before_not_past n n itself itself

-- ---- one level's blocks in those of the level above

-- which coordinates share a block of the level above, and which lie in an earlier one
pub record IsNested (bits : Bits) (level : Level) (Shares Earlier : Coord → Coord → Type 0) : Type 0 where
  pub ways : (p q : Coord) → Earlier p q ⊎ (Shares p q ⊎ Earlier q p)
  pub ahead : (p q : Coord) → Earlier p q → ComesBefore bits p q
  pub within : (p q : Coord) → Shares p q → IsBlockBefore bits level p q → ComesBefore bits p q
  pub from_block : (p q : Coord) → block_number bits level p ≡ block_number bits level q → Shares p q
  pub turn : (p q : Coord) → Shares p q → Shares q p
  pub join : (p q r : Coord) → Shares p q → Shares q r → Shares p r
  pub moved : (p q r : Coord) → Earlier p q → Shares p r → Earlier r q

pub moved_before : (bits : Bits) (level : Level) (p q r : Coord) → IsBlockBefore bits level p q → block_number bits level p ≡ block_number bits level r → IsBlockBefore bits level r q
moved_before bits level p q r h e = subst (λ (n : Coord). IsBefore n (block_number bits level q)) e h

pub moved_past : (bits : Bits) (level : Level) (p q r : Coord) → IsBlockBefore bits level p q → block_number bits level q ≡ block_number bits level r → IsBlockBefore bits level p r
moved_past bits level p q r h e = subst (λ (n : Coord). IsBefore (block_number bits level p) n) e h

module _ (bits : Bits) where
  -- all upper extents lie in one whole
  abbrev pub AreAll : Coord → Coord → Type 0
  AreAll p q = Unit {0}

  abbrev pub AreNone : Coord → Coord → Type 0
  AreNone p q = ⊥

  pub upper_nested : IsNested bits Upper AreAll AreNone
  upper_nested = record {
    ways = λ p q. inr (inl tt);
    ahead = λ p q h. absurd h;
    within = λ p q s h. by_upper bits p q h;
    from_block = λ p q e. tt;
    turn = λ p q s. tt;
    join = λ p q r s t. tt;
    moved = λ p q r h s. absurd h;
  }

  abbrev pub InUpper : Coord → Coord → Type 0
  InUpper p q = block_number bits Upper p ≡ block_number bits Upper q

  pub lower_nested : IsNested bits Lower InUpper (IsBlockBefore bits Upper)
  lower_nested = record {
    ways = λ p q. which_before (block_number bits Upper p) (block_number bits Upper q);
    ahead = λ p q h. by_upper bits p q h;
    within = λ p q s h. by_lower bits p q s h;
    from_block = λ p q e. upper_from_lower bits p q e;
    turn = λ p q s. sym s;
    join = λ p q r s t. s ∙ t;
    moved = λ p q r h s. moved_before bits Upper p q r h s;
  }

  abbrev pub InLower : Coord → Coord → Type 0
  InLower p q = block_number bits Lower p ≡ block_number bits Lower q

  abbrev pub IsLowerEarlier : Coord → Coord → Type 0
  IsLowerEarlier p q = IsBlockBefore bits Upper p q ⊎ (InUpper p q × IsBlockBefore bits Lower p q)

  lower_ways : (p q : Coord) → IsLowerEarlier p q ⊎ (InLower p q ⊎ IsLowerEarlier q p)
  lower_ways p q =
      elim (which_before (block_number bits Upper p) (block_number bits Upper q)) [
        | inl a ↦ inl (inl a)
        | inr r ↦ elim r [
          | inr b ↦ inr (inr (inl b))
          | inl e ↦ elim (which_before (block_number bits Lower p) (block_number bits Lower q)) [
            | inl a ↦ inl (inr (e, a))
            | inr s ↦ elim s [ inl f ↦ inr (inl f) | inr b ↦ inr (inr (inr (sym e, b))) ]
          ]
        ]
      ]

  lower_ahead : (p q : Coord) → IsLowerEarlier p q → ComesBefore bits p q
  lower_ahead p q h = elim h [ inl a ↦ by_upper bits p q a | inr b ↦ by_lower bits p q b.0 b.1 ]

  lower_moved : (p q r : Coord) → IsLowerEarlier p q → InLower p r → IsLowerEarlier r q
  lower_moved p q r h s =
      let u = upper_from_lower bits p r s in
      elim h [ inl a ↦ inl (moved_before bits Upper p q r a u) | inr b ↦ inr (sym u ∙ b.0, moved_before bits Lower p q r b.1 s) ]

  pub leaf_nested : IsNested bits Leaf InLower IsLowerEarlier
  leaf_nested = record {
    ways = lower_ways;
    ahead = lower_ahead;
    within = λ p q s h. by_leaf bits p q s h;
    from_block = λ p q e. lower_from_leaf bits p q e;
    turn = λ p q s. sym s;
    join = λ p q r s t. s ∙ t;
    moved = lower_moved;
  }

module _ (bits : Bits) (level : Level) (Shares Earlier : Coord → Coord → Type 0) (nested : IsNested bits level Shares Earlier) where
  -- what lies between two coordinates of a block lies in it
  contiguous_in : (p q r : Coord) → (ComesBefore bits q p → ⊥) → (ComesBefore bits r q → ⊥) → block_number bits level p ≡ block_number bits level r → block_number bits level q ≡ block_number bits level p
  contiguous_in p q r from to e =
      let s = nested.from_block p r e in
      elim (nested.ways p q) [
        | inl a ↦ absurd (to (nested.ahead r q (nested.moved p q r a s)))
        | inr w ↦ elim w [
          | inr b ↦ absurd (from (nested.ahead q p b))
          | inl t ↦ elim (which_before (block_number bits level p) (block_number bits level q)) [
            | inl a ↦ absurd (to (nested.within r q (nested.join r p q (nested.turn p r s) t) (moved_before bits level p q r a e)))
            | inr v ↦ elim v [ inl f ↦ sym f | inr b ↦ absurd (from (nested.within q p (nested.turn p q t) b)) ]
          ]
        ]
      ]

-- blocks are contiguous in block order: what lies between two coordinates of one lies in it
pub contiguous : (bits : Bits) (level : Level) (p q r : Coord) → (ComesBefore bits q p → ⊥) → (ComesBefore bits r q → ⊥) → block_number bits level p ≡ block_number bits level r → block_number bits level q ≡ block_number bits level p
contiguous bits Leaf p q r from to e = contiguous_in bits Leaf (InLower bits) (IsLowerEarlier bits) (leaf_nested bits) p q r from to e
contiguous bits Lower p q r from to e = contiguous_in bits Lower (InUpper bits) (IsBlockBefore bits Upper) (lower_nested bits) p q r from to e
contiguous bits Upper p q r from to e = contiguous_in bits Upper (AreAll bits) (AreNone bits) (upper_nested bits) p q r from to e

-- ---- how many coordinates come past one

each_passes : (P : Coord → Type 0) (t : Coord → Bool) (ps : List Coord) → ((q : Coord) → t q ≡ true → P q) → AllByRecursion P (filter t ps)
each_passes P t [] h = tt
each_passes P t (p ∷ ps) h = kept (t p) refl (each_passes P t ps h)
  where
    kept : (b : Bool) → t p ≡ b → AllByRecursion P (filter t ps) → AllByRecursion P (cond b (p ∷ filter t ps) (filter t ps))
    kept true e k = (h p e, k)
    kept false e k = k

or_ways : (a b : Bool) → (a || b) ≡ true → (a ≡ true) ⊎ (b ≡ true)
or_ways true b h = inl refl
or_ways false b h = inr h

module _ (bits : Bits) where
  abbrev past : Coord → List Coord
  past n = filter (is_past bits (Some n)) (coordinates everywhere)

  past_distinct : (n : Coord) → IsDistinct coord_eq (n ∷ past n)
  unfolding IsDistinct
  past_distinct n = (
    each_passes (λ q. coord_eq n q ≡ false) (is_past bits (Some n)) (coordinates everywhere) (λ q t. not_true (coord_eq n q) (λ e. not_same bits n q t (coord_exact n q e))),
    distinct_filter coord_eq (is_past bits (Some n)) (coordinates everywhere) (distinct_coordinates everywhere),
  )

  -- fewer coordinates come past a later one
  pub fewer_past : (p n : Coord) → is_inside everywhere n ≡ true → ComesBefore bits p n → coordinates_past bits n < coordinates_past bits p
  fewer_past p n i c =
      let more = count_at_least everywhere (is_past bits (Some p)) (n ∷ past n) (past_distinct n) (λ q m. member q (or_ways (coord_eq q n) (is_member coord_eq (past n) q) m)) in
      let e = length-filter (is_past bits (Some p)) (coordinates everywhere) in
      let f = length-filter (is_past bits (Some n)) (coordinates everywhere) in
      omega (arith, more, e, f)
    where
      member : (q : Coord) → (coord_eq q n ≡ true) ⊎ (is_member coord_eq (past n) q ≡ true) → IsTrue (is_inside everywhere q) × (is_past bits (Some p) q ≡ true)
      member q (inl e) = subst (λ (t : Coord). IsTrue (is_inside everywhere t) × (is_past bits (Some p) t ≡ true)) (sym (coord_exact q n e)) (i, c)
      member q (inr m) = let h = both (is_inside everywhere q) (is_past bits (Some n) q) (sym (member_passing everywhere (is_past bits (Some n)) q) ∙ m) in (h.0, comes_on bits p n q c h.1)
