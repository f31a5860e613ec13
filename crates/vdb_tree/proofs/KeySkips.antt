-- Passing over keys between the rows of a box of keys.
use Rattle.vdb_tree.proofs.Common.{◌≡◌, ◌⊎◌, inl, inr, ℤ, pos, ◌+ℤ◌, ◌<ℤ◌, ◌≤ℤ◌, true, false, List, arith, refl, sym, subst, IsTrue, ◌&&◌, Some, None, IsSome, is_gt, Less, ints, block_bits, key, numbers_over, Box, coord, coord_cmp, is_inside, IsBefore, Bits, Coord, Upper, key_less, less_apart, less_once, which_before, coord_equiv, coord_total, inside_from, inside_parts, Entry, root_at, IsNextMet, MeetsRootBlock, IsNextKey}
use Rattle.std.specs.Ordering.{int_eq}
use Rattle.vdb_coord.proofs.Digits.{number_mono}
use Rattle.vdb_coord.proofs.Walk.{up_to_x}
use Rattle.vdb_tree.specs.Capacity.{SkipsTo}
use Rattle.vdb_tree.proofs.Blocks.{never}
use Rattle.vdb_tree.proofs.KeysMet.{not_greater}
use Rattle.vdb_tree.proofs.Levels.{some_held}
use Rattle.vdb_tree.proofs.Needed.{some_or_none}
use Rattle.vdb_tree.proofs.RootCounts.{at_least}

le_same : (x y : ℤ) → x ≡ y → x ≤ℤ y
le_same x y e = omega (arith, ints, e)

le_less : (x y : ℤ) → x <ℤ y → x ≤ℤ y
le_less x y h = omega (arith, ints, h)

behind : (x : ℤ) → x <ℤ (x +ℤ pos 1)
behind x = omega (arith, ints)

up_to : (x y : ℤ) → x <ℤ y → (x +ℤ pos 1) ≤ℤ y
up_to x y h = omega (arith, ints, h)

not_both : (x y z : ℤ) → x <ℤ y → y ≤ℤ z → z ≤ℤ x → ⊥
not_both x y z h k l = omega (arith, ints, h, k, l)

beyond : (x y z : ℤ) → x ≡ y → y ≤ℤ z → z <ℤ x → ⊥
beyond x y z e k l = omega (arith, ints, e, k, l)

le_from : (x y z : ℤ) → x ≡ y → z ≤ℤ y → z ≤ℤ x
le_from x y z e h = omega (arith, ints, e, h)

le_to : (x y z : ℤ) → x ≡ y → y ≤ℤ z → x ≤ℤ z
le_to x y z e h = omega (arith, ints, e, h)

le_through : (x y z : ℤ) → x <ℤ y → y ≤ℤ z → x ≤ℤ z
le_through x y z h k = omega (arith, ints, h, k)

pub less_before : (t k : Coord) → coord_cmp t k ≡ Less → IsBefore t k
less_before t k h = elim (which_before t k) [
  | inl b ↦ b
  | inr r ↦ elim r [ inl e ↦ absurd (less_apart t k h e) | inr b ↦ absurd (less_once t k h (key_less k t b)) ]
]

no_later : (n k : Coord) → IsBefore n k ⊎ (n ≡ k) → is_gt (coord_cmp n k) ≡ false
no_later n k h = elim h [
  | inl b ↦ let e = key_less n k b in rw e refl
  | inr s ↦ subst (λ (j : Coord). is_gt (coord_cmp n j) ≡ false) s (not_greater _ (coord_equiv.refl n))
]

module _ (keys : Box) (t : Coord) where
  -- from a key, skip to the first row of its slab, into its own row, or to the next row
  pub skip_rows : t.y <ℤ keys.min.y → SkipsTo keys t (Some (coord t.x keys.min.y keys.min.z))
  skip_rows h =
      let n = coord t.x keys.min.y keys.min.z in (
        key_less t n (inr (refl, inl h)),
        λ k i past.
            let at = inside_parts keys k i in
            no_later n k (elim (less_before t k past) [ inl x ↦ inl (inl x) | inr r ↦ up_to_x n k (le_same t.x k.x r.0) at.1.0 at.2.0 ]),
      )

  pub skip_in_row : t.z <ℤ keys.min.z → SkipsTo keys t (Some (coord t.x t.y keys.min.z))
  skip_in_row h =
      let n = coord t.x t.y keys.min.z in (
        key_less t n (inr (refl, inr (refl, h))),
        λ k i past.
            let at = inside_parts keys k i in
            no_later n k (elim (less_before t k past) [
              | inl x ↦ inl (inl x)
              | inr r ↦ elim r.1 [ inl y ↦ inl (inr (r.0, inl y)) | inr s ↦ up_to_x n k (le_same t.x k.x r.0) (le_same t.y k.y s.0) at.2.0 ]
            ]),
      )

  -- a key past the least of its row that isn't in the box is past the row
  past_row : is_inside keys t ≡ false → keys.min.z ≤ℤ t.z → (k : Coord) → IsTrue (is_inside keys k) → t.x ≡ k.x → t.y ≡ k.y → t.z <ℤ k.z → ⊥
  past_row not low k i x y z =
      let at = inside_parts keys k i in
      never not (inside_from keys t (le_from t.x k.x keys.min.x x at.0.0) (le_to t.x k.x keys.max.x x at.0.1) (le_from t.y k.y keys.min.y y at.1.0) (le_to t.y k.y keys.max.y y at.1.1) low (le_through t.z k.z keys.max.z z at.2.1))

  pub skip_to_row : is_inside keys t ≡ false → keys.min.z ≤ℤ t.z → SkipsTo keys t (Some (coord t.x (t.y +ℤ pos 1) keys.min.z))
  skip_to_row not low =
      let n = coord t.x (t.y +ℤ pos 1) keys.min.z in (
        key_less t n (inr (refl, inl (behind t.y))),
        λ k i past.
            let at = inside_parts keys k i in
            no_later n k (elim (less_before t k past) [
              | inl x ↦ inl (inl x)
              | inr r ↦ elim r.1 [ inl y ↦ up_to_x n k (le_same t.x k.x r.0) (up_to t.y k.y y) at.2.0 | inr s ↦ absurd (past_row not low k i r.0 s.0 s.1) ]
            ]),
      )

  -- past the last row of a slab, the slab has no key left
  pub slab_beyond : keys.max.y <ℤ t.y → (k : Coord) → IsTrue (is_inside keys k) → k.x ≡ t.x → coord_cmp t k ≡ Less → ⊥
  slab_beyond h k i x past =
      let at = inside_parts keys k i in
      elim (less_before t k past) [
        | inl l ↦ let e = x in omega (arith, ints, l, e)
        | inr r ↦ elim r.1 [ inl y ↦ not_both t.y k.y keys.max.y y at.1.1 (le_less keys.max.y t.y h) | inr s ↦ beyond t.y k.y keys.max.y s.0 at.1.1 h ]
      ]

  pub slab_done : is_inside keys t ≡ false → keys.min.z ≤ℤ t.z → keys.max.y ≤ℤ t.y → (k : Coord) → IsTrue (is_inside keys k) → k.x ≡ t.x → coord_cmp t k ≡ Less → ⊥
  slab_done not low h k i x past =
      let at = inside_parts keys k i in
      elim (less_before t k past) [
        | inl l ↦ let e = x in omega (arith, ints, l, e)
        | inr r ↦ elim r.1 [ inl y ↦ not_both t.y k.y keys.max.y y at.1.1 h | inr s ↦ past_row not low k i r.0 s.0 s.1 ]
      ]

  module _ (slab : (k : Coord) → IsTrue (is_inside keys k) → k.x ≡ t.x → coord_cmp t k ≡ Less → ⊥) where
    pub skip_slab : SkipsTo keys t (Some (coord (t.x +ℤ pos 1) keys.min.y keys.min.z))
    skip_slab =
        let n = coord (t.x +ℤ pos 1) keys.min.y keys.min.z in (
          key_less t n (inl (behind t.x)),
          λ k i past.
              let at = inside_parts keys k i in
              no_later n k (elim (less_before t k past) [ inl x ↦ up_to_x n k (up_to t.x k.x x) at.1.0 at.2.0 | inr r ↦ absurd (slab k i (sym r.0) past) ]),
        )

    pub skip_none : keys.max.x ≤ℤ t.x → SkipsTo keys t None
    skip_none h k i past =
        let at = inside_parts keys k i in
        elim (less_before t k past) [ inl x ↦ not_both t.x k.x keys.max.x x at.0.1 h | inr r ↦ slab k i (sym r.0) past ]

-- ---- from key to key

module _ {V : Type 0} (bits : Bits) (box : Box) (root : List (Coord × Entry V)) (after : Coord) where
  -- the keys of the box come within those of its corners
  met_inside : (k : Coord) → MeetsRootBlock bits box k → is_inside (numbers_over bits Upper box) k ≡ true
  met_inside k met =
      let at = inside_parts box met.0 met.1 in
      let b = block_bits bits Upper in
      let q = met.0 in
      subst (λ (j : Coord). is_inside (numbers_over bits Upper box) j ≡ true) met.2
      (inside_from (numbers_over bits Upper box) (key bits q) (number_mono b box.min.x q.x at.0.0) (number_mono b q.x box.max.x at.0.1) (number_mono b box.min.y q.y at.1.0) (number_mono b q.y box.max.y at.1.1)
      (number_mono b box.min.z q.z at.2.0) (number_mono b q.z box.max.z at.2.1))

  -- no key of the box comes past the last
  pub met_last : (let last = (numbers_over bits Upper box).max in int_eq after.x last.x && (int_eq after.y last.y && int_eq after.z last.z)) ≡ true → IsNextMet bits box root (Some after) None
  met_last same k past met =
      let last = (numbers_over bits Upper box).max in
      let at = inside_parts (numbers_over bits Upper box) k (met_inside k met) in
      absurd (elim (less_before after k past) [
        | inl x ↦ grind (arith, ints, same, x, at.0.1)
        | inr r ↦ elim r.1 [ inl y ↦ grind (arith, ints, same, y, at.1.1) | inr z ↦ let l = z.1 in grind (arith, ints, same, l, at.2.1) ]
      ])

  -- no key of the table from past one up to another meets the box
  pub record IsMetPast (passed : Coord) : Type 0 where
    pub on : (k : Coord) → coord_cmp passed k ≡ Less → coord_cmp after k ≡ Less
    pub none : (k : Coord) → coord_cmp after k ≡ Less → MeetsRootBlock bits box k → IsSome (root_at root k) → coord_cmp passed k ≡ Less

  pub met_start : IsMetPast after
  met_start = record { on = λ k h. h; none = λ k h met held. h }

  held_from : (k : Coord) (e : Entry V) → root_at root k ≡ Some e → IsSome (root_at root k)
  held_from k e is = rw is refl

  module _ (passed : Coord) (so_far : IsMetPast passed) where
    pub met_end : IsNextKey root (Some passed) None → IsNextMet bits box root (Some after) None
    met_end next = λ k past met. elim (some_or_none (root_at root k)) [
      | inl x ↦ next k (so_far.none k past met (held_from k x.0 x.1))
      | inr none ↦ none
    ]

    module _ (n : Coord) (next : IsNextKey root (Some passed) (Some n)) where
      pub met_found : IsNextMet bits box root (Some after) (Some n)
      met_found = (next.0, so_far.on n next.1, λ k past met held. next.2 k (so_far.none k past met held) held)

      -- if the next key isn't one of the box, the keys that meet the box come past it
      module _ (not : is_inside (numbers_over bits Upper box) n ≡ false) where
        beyond_it : (k : Coord) → coord_cmp after k ≡ Less → MeetsRootBlock bits box k → IsSome (root_at root k) → coord_cmp n k ≡ Less
        beyond_it k past met held = elim (at_least n k (next.2 k (so_far.none k past met held) held)) [
          | inl same ↦ absurd (never not (subst (λ (j : Coord). is_inside (numbers_over bits Upper box) j ≡ true) same (met_inside k met)))
          | inr later ↦ later
        ]

        pub met_over : SkipsTo (numbers_over bits Upper box) n None → IsNextMet bits box root (Some after) None
        met_over skips = λ k past met. elim (some_or_none (root_at root k)) [
          | inl x ↦ absurd (skips k (met_inside k met) (beyond_it k past met (held_from k x.0 x.1)))
          | inr none ↦ none
        ]

        module _ (m : Coord) (skips : SkipsTo (numbers_over bits Upper box) n (Some m)) where
          pub met_there : IsSome (root_at root m) → IsNextMet bits box root (Some after) (Some m)
          met_there held = (held, so_far.on m (coord_total.trans passed n m next.1 skips.0), λ k past met some. skips.1 k (met_inside k met) (beyond_it k past met some))

          pub met_on : root_at root m ≡ None → IsMetPast m
          met_on none = record {
            on = λ k h. so_far.on k (coord_total.trans passed n k next.1 (coord_total.trans n m k skips.0 h));
            none = λ k past met held. elim (at_least m k (skips.1 k (met_inside k met) (beyond_it k past met held))) [
              | inl same ↦ absurd (some_held (root_at root k) held (subst (λ (j : Coord). root_at root j ≡ None) (sym same) none))
              | inr later ↦ later
            ];
          }
