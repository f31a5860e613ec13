-- The next coordinate of a box in block order.
use Rattle.vdb_walk.proofs.Common.{◌≡◌, ◌⊎◌, inl, inr, sym, ◌∙◌, refl, ℤ, pos, ◌+ℤ◌, ◌≤ℤ◌, ◌<ℤ◌, ◌&&◌, true, arith, Option, Some, None, is_lt, ints, block_around, block_cmp, block_number, ComesBefore, IsNextCoord, IsUpToBlock, Box, coord, is_inside, IsBefore, Bits, Coord, Leaf, contiguous, not_both, and_true, both, inside_numbered, number_in_block, inside_from, inside_parts, bool_cases, IsFirst, IsPastLast}
use Rattle.vdb_coord.proofs.BlockOrder.{by_voxel, not_same, which_before}
use Rattle.vdb_coord.proofs.Walk.{up_to_x}
use Rattle.vdb_walk.specs.internal.Firsts.{IsNextVoxel}

same_le : (x y : ℤ) → x ≡ y → x ≤ℤ y
same_le x y e = omega (arith, ints, e)

before_next : (x y : ℤ) → y <ℤ (x +ℤ pos 1) → y ≤ℤ x
before_next x y h = omega (arith, ints, h)

above : (x : ℤ) → x <ℤ (x +ℤ pos 1)
above x = omega (arith, ints)

no_less : (x y : ℤ) → x ≤ℤ y → y <ℤ x → ⊥
no_less x y h k = omega (arith, ints, h, k)

-- ---- by x, y and z

module _ (b : Box) (p : Coord) (inside : is_inside b p ≡ true) where
  parts : ((b.min.x ≤ℤ p.x) × (p.x ≤ℤ b.max.x)) × ((b.min.y ≤ℤ p.y) × (p.y ≤ℤ b.max.y)) × ((b.min.z ≤ℤ p.z) × (p.z ≤ℤ b.max.z))
  parts = inside_parts b p inside

  pub next_z : p.z <ℤ b.max.z → IsNextVoxel b p (Some (coord p.x p.y (p.z +ℤ pos 1)))
  next_z h =
      let low = parts.2.0 in (
        inside_from b (coord p.x p.y (p.z +ℤ pos 1)) parts.0.0 parts.0.1 parts.1.0 parts.1.1 (omega (arith, ints, low)) (omega (arith, ints, h)),
        inr (refl, inr (refl, above p.z)),
        λ q _ before. elim before [
          | inl x ↦ inl (inl x)
          | inr r ↦ elim r.1 [
            | inl y ↦ inl (inr (r.0, inl y))
            | inr s ↦ up_to_x q p (same_le q.x p.x r.0) (same_le q.y p.y s.0) (before_next p.z q.z s.1)
          ]
        ],
      )

  pub next_y : b.max.z ≤ℤ p.z → p.y <ℤ b.max.y → IsNextVoxel b p (Some (coord p.x (p.y +ℤ pos 1) b.min.z))
  next_y covered h =
      let low = parts.1.0 in
      let range = parts.2 in (
        inside_from b (coord p.x (p.y +ℤ pos 1) b.min.z) parts.0.0 parts.0.1 (omega (arith, ints, low)) (omega (arith, ints, h)) (omega (arith, ints)) (omega (arith, ints, range.0, range.1)),
        inr (refl, inl (above p.y)),
        λ q in_box before.
            let at = inside_parts b q in_box in
            let high = at.2.1 in
            elim before [
              | inl x ↦ inl (inl x)
              | inr r ↦ elim r.1 [
                | inl y ↦ up_to_x q p (same_le q.x p.x r.0) (before_next p.y q.y y) (omega (arith, ints, high, covered))
                | inr s ↦ absurd (no_less b.min.z q.z at.2.0 s.1)
              ]
            ],
      )

  pub next_x : b.max.z ≤ℤ p.z → b.max.y ≤ℤ p.y → p.x <ℤ b.max.x → IsNextVoxel b p (Some (coord (p.x +ℤ pos 1) b.min.y b.min.z))
  next_x high_z high_y h =
      let low = parts.0.0 in
      let ys = parts.1 in
      let zs = parts.2 in (
        inside_from b (coord (p.x +ℤ pos 1) b.min.y b.min.z) (omega (arith, ints, low)) (omega (arith, ints, h)) (omega (arith, ints)) (omega (arith, ints, ys.0, ys.1)) (omega (arith, ints)) (omega (arith, ints, zs.0, zs.1)),
        inl (above p.x),
        λ q in_box before.
            let at = inside_parts b q in_box in
            let y = at.1.1 in
            let z = at.2.1 in
            elim before [
              | inl x ↦ up_to_x q p (before_next p.x q.x x) (omega (arith, ints, y, high_y)) (omega (arith, ints, z, high_z))
              | inr r ↦ elim r.1 [
                | inl less ↦ absurd (no_less b.min.y q.y at.1.0 less)
                | inr s ↦ absurd (no_less b.min.z q.z at.2.0 s.1)
              ]
            ],
      )

  pub no_next : b.max.z ≤ℤ p.z → b.max.y ≤ℤ p.y → b.max.x ≤ℤ p.x → IsNextVoxel b p None
  no_next high_z high_y high_x = λ q in_box.
      let at = inside_parts b q in_box in
      let x = at.0.1 in
      let y = at.1.1 in
      let z = at.2.1 in
      up_to_x q p (omega (arith, ints, x, high_x)) (omega (arith, ints, y, high_y)) (omega (arith, ints, z, high_z))

-- ---- in block order

module _ (bits : Bits) (part near : Box) (p : Coord) (inside : is_inside part p ≡ true)
    (is : (q : Coord) → is_inside near q ≡ (is_inside part q && is_inside (block_around bits Leaf p) q)) where
  pub near_itself : is_inside near p ≡ true
  near_itself = is p ∙ and_true (is_inside part p) (is_inside (block_around bits Leaf p) p) inside (inside_numbered bits Leaf (block_number bits Leaf p) p refl)

  in_near : (q : Coord) → is_inside part q ≡ true → block_number bits Leaf q ≡ block_number bits Leaf p → is_inside near q ≡ true
  in_near q i e = is q ∙ and_true (is_inside part q) (is_inside (block_around bits Leaf p) q) i (inside_numbered bits Leaf (block_number bits Leaf p) q e)

  of_near : (q : Coord) → is_inside near q ≡ true → (is_inside part q ≡ true) × (block_number bits Leaf q ≡ block_number bits Leaf p)
  of_near q i =
      let h = both (is_inside part q) (is_inside (block_around bits Leaf p) q) (sym (is q) ∙ i) in
      (h.0, number_in_block bits Leaf (block_number bits Leaf p) q h.1)

  -- a coordinate that isn't past p by x, y and z isn't past p in block order
  not_past : (q : Coord) → block_number bits Leaf q ≡ block_number bits Leaf p → IsBefore q p ⊎ (q ≡ p) → ComesBefore bits p q → ⊥
  not_past q e h past = elim h [
    | inl b ↦ not_both bits p q past (by_voxel bits q p e b)
    | inr s ↦ not_same bits p q past (sym s)
  ]

  pub next_is_first : (n : Coord) → IsNextVoxel near p (Some n) → IsFirst bits (IsPastLast bits (Some p)) part (Some n)
  next_is_first n next =
      let at = of_near n next.0 in (
        at.0,
        by_voxel bits p n (sym at.1) next.1,
        λ q i past. elim (bool_cases (is_lt (block_cmp bits q n))) [
          | inl b ↦
              let same : block_number bits Leaf q ≡ block_number bits Leaf p = contiguous bits Leaf p q n (not_both bits p q past) (not_both bits q n b) (sym at.1) in
              absurd (elim (which_before q n) [
                | inl before ↦ not_past q same (next.2 q (in_near q i same) before) past
                | inr r ↦ elim r [
                  | inl e ↦ not_same bits q n b e
                  | inr after ↦ not_both bits q n b (by_voxel bits n q (at.1 ∙ sym same) after)
                ]
              ])
          | inr e ↦ e
        ],
      )

  up_to_block : IsNextVoxel near p None → (q : Coord) → is_inside part q ≡ true → IsUpToBlock bits Leaf p q → ComesBefore bits p q → ⊥
  up_to_block none q i h past = elim h [
    | inl b ↦ not_both bits p q past b
    | inr e ↦ not_past q e (none q (in_near q i e)) past
  ]

  pub coord_is_first : IsNextVoxel near p None → (found : Option Coord) → IsNextCoord bits Leaf part p found → IsFirst bits (IsPastLast bits (Some p)) part found
  coord_is_first none None h = λ q i past. up_to_block none q i (h q i) past
  coord_is_first none (Some n) h = (
    h.inside,
    h.past p inside refl,
    λ q i past. elim (bool_cases (is_lt (block_cmp bits q n))) [
      | inl b ↦ absurd (up_to_block none q i (h.between q i b) past)
      | inr e ↦ e
    ],
  )
