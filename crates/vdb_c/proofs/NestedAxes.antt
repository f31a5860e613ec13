-- Axes that are nested in some order.
use Rattle.vdb_c.proofs.Common.{◌≡◌, ◌⊎◌, inl, inr, ◌+◌, ◌*◌, ◌<◌, ◌≤◌, ℕ, ap, ◌∙◌, true, IsTrue, arith, tests, rules, add-one, nat_eq, nat_lt, mul-le, suc-mul, Box, are_apart, Strides}
use Rattle.std.proofs.Math.Nat.{mul_assoc, mul_comm, mul_left_comm}
use Rattle.std.proofs.lemmas.Nat.{same_from_place}
use Rattle.vdb_coord.proofs.Boxes.{three}
use Rattle.vdb_c.specs.Elements.{are_nested, axis_x, axis_y, axis_z, is_past, span}
use Rattle.vdb_c.specs.declared.boxes.elements.Axis.{Axis}
use Rattle.vdb_c.proofs.NextVoxels.{or_ways}

-- ---- one axis after others, whose steps come to at most `last`

past_ways : (a : Axis) (last : ℕ) → IsTrue (is_past a last) → (a.gap ≡ 0) ⊎ (last < a.stride)
past_ways a last past = elim (or_ways (nat_eq a.gap 0) (nat_lt last a.stride) past) [ inl h ↦ inl (one a.gap h) | inr h ↦ inr (less last a.stride h) ]
  where
    one : (n : ℕ) → nat_eq n 0 ≡ true → n ≡ 0
    one n h = search (rules, tests)

    less : (m n : ℕ) → nat_lt m n ≡ true → m < n
    less m n h = search (rules, tests)

-- equal sums have equal parts
same_step : (a : Axis) (last : ℕ) → IsTrue (is_past a last) → (k k' r r' : ℕ) → k ≤ a.gap → k' ≤ a.gap → r ≤ last → r' ≤ last → k * a.stride + r ≡ k' * a.stride + r' → (k ≡ k') × (r ≡ r')
same_step a last past k k' r r' hk hk' hr hr' e = elim (past_ways a last past) [
  | inl one ↦ (let same : k ≡ k' = omega (arith, one, hk, hk') in let times = ap (λ (n : ℕ). n * a.stride) same in (same, omega (arith, e, times)))
  | inr less ↦ same_from_place k r k' r' a.stride (omega (arith, hr, less)) (omega (arith, hr', less)) e
]

-- as many voxels as elements fit
step_fits : (a : Axis) (last n : ℕ) → IsTrue (is_past a last) → n ≤ last + 1 → (a.gap + 1) * n ≤ span a + last + 1
step_fits a last n past h =
    let times : (a.gap + 1) * n ≡ a.gap * n + n = ap (λ (m : ℕ). m * n) (add-one a.gap) ∙ suc-mul a.gap n in
    let most : a.gap * n ≤ span a = elim (past_ways a last past) [
      | inl one ↦ (let none : a.gap * n ≡ 0 * n = ap (λ (m : ℕ). m * n) one in omega (arith, none))
      | inr less ↦ mul-le a.gap n a.gap a.stride (omega arith) (omega (arith, h, less))
    ] in
    omega (arith, times, most, h)

-- ---- three axes

module _ (a b c : Axis) (nested : IsTrue (are_nested a b c)) where
  past : IsTrue (is_past a 0) × IsTrue (is_past b (span a)) × IsTrue (is_past c (span a + span b))
  past = three (is_past a 0) (is_past b (span a)) (is_past c (span a + span b)) nested

  same_steps : (i j k i' j' k' : ℕ) → i ≤ a.gap → j ≤ b.gap → k ≤ c.gap → i' ≤ a.gap → j' ≤ b.gap → k' ≤ c.gap
      → k * c.stride + (j * b.stride + i * a.stride) ≡ k' * c.stride + (j' * b.stride + i' * a.stride) → (i ≡ i') × (j ≡ j') × (k ≡ k')
  same_steps i j k i' j' k' hi hj hk hi' hj' hk' e =
      let low = mul-le i a.stride a.gap a.stride hi (omega arith) in
      let low' = mul-le i' a.stride a.gap a.stride hi' (omega arith) in
      let mid = mul-le j b.stride b.gap b.stride hj (omega arith) in
      let mid' = mul-le j' b.stride b.gap b.stride hj' (omega arith) in
      let third = same_step c (span a + span b) past.2 k k' (j * b.stride + i * a.stride) (j' * b.stride + i' * a.stride) hk hk' (omega (arith, low, mid)) (omega (arith, low', mid')) e in
      let second = same_step b (span a) past.1 j j' (i * a.stride) (i' * a.stride) hj hj' low low' third.1 in
      let first = same_step a 0 past.0 i i' 0 0 hi hi' (omega arith) (omega arith) (omega (arith, second.1)) in
      (first.0, second.0, third.0)

  steps_fit : (c.gap + 1) * ((b.gap + 1) * (a.gap + 1)) ≤ span c + (span b + span a) + 1
  steps_fit =
      let first = step_fits a 0 1 past.0 (omega arith) in
      let second = step_fits b (span a) (a.gap + 1) past.1 (omega (arith, first)) in
      let third = step_fits c (span a + span b) ((b.gap + 1) * (a.gap + 1)) past.2 (omega (arith, second)) in
      omega (arith, third)

-- ---- the axes of an array

module _ (b : Box) (s : Strides) (apart : IsTrue (are_apart b s)) where
  abbrev x : Axis
  x = axis_x b s

  abbrev y : Axis
  y = axis_y b s

  abbrev z : Axis
  z = axis_z b s

  in_order : {P : Type 0} → (IsTrue (are_nested z y x) → P) → (IsTrue (are_nested y z x) → P) → (IsTrue (are_nested z x y) → P) → (IsTrue (are_nested x z y) → P)
      → (IsTrue (are_nested y x z) → P) → (IsTrue (are_nested x y z) → P) → P
  in_order zyx yzx zxy xzy yxz xyz = elim (or_ways _ (are_nested x y z) apart) [
    | inr h ↦ xyz h
    | inl h ↦ elim (or_ways _ (are_nested y x z) h) [
      | inr h ↦ yxz h
      | inl h ↦ elim (or_ways _ (are_nested x z y) h) [
        | inr h ↦ xzy h
        | inl h ↦ elim (or_ways _ (are_nested z x y) h) [
          | inr h ↦ zxy h
          | inl h ↦ elim (or_ways (are_nested z y x) (are_nested y z x) h) [ inl h ↦ zyx h | inr h ↦ yzx h ]
        ]
      ]
    ]
  ]

  -- steps to one element are the same
  pub same_gaps : (i j k i' j' k' : ℕ) → i ≤ x.gap → j ≤ y.gap → k ≤ z.gap → i' ≤ x.gap → j' ≤ y.gap → k' ≤ z.gap
      → i * s.x + (j * s.y + k * s.z) ≡ i' * s.x + (j' * s.y + k' * s.z) → (i ≡ i') × (j ≡ j') × (k ≡ k')
  same_gaps i j k i' j' k' hi hj hk hi' hj' hk' e = in_order
      (λ n. let r = same_steps z y x n k j i k' j' i' hk hj hi hk' hj' hi' (omega (arith, e)) in (r.2, r.1, r.0))
      (λ n. let r = same_steps y z x n j k i j' k' i' hj hk hi hj' hk' hi' (omega (arith, e)) in (r.2, r.0, r.1))
      (λ n. let r = same_steps z x y n k i j k' i' j' hk hi hj hk' hi' hj' (omega (arith, e)) in (r.1, r.2, r.0))
      (λ n. let r = same_steps x z y n i k j i' k' j' hi hk hj hi' hk' hj' (omega (arith, e)) in (r.0, r.2, r.1))
      (λ n. let r = same_steps y x z n j i k j' i' k' hj hi hk hj' hi' hk' (omega (arith, e)) in (r.1, r.0, r.2))
      (λ n. let r = same_steps x y z n i j k i' j' k' hi hj hk hi' hj' hk' (omega (arith, e)) in (r.0, r.1, r.2))

  -- the box has at most as many voxels as there are elements up to that of its greatest corner
  pub volume_within : (x.gap + 1) * (y.gap + 1) * (z.gap + 1) ≤ span x + (span y + span z) + 1
  volume_within = in_order
      (λ n. let most = steps_fit z y x n in omega (arith, most, turned))
      (λ n. let most = steps_fit y z x n in let turn = ap (λ (m : ℕ). (x.gap + 1) * m) (mul_comm (z.gap + 1) (y.gap + 1)) in omega (arith, most, turned, turn))
      (λ n. let most = steps_fit z x y n in let turn = mul_left_comm (y.gap + 1) (x.gap + 1) (z.gap + 1) in omega (arith, most, turned, turn))
      (λ n. let most = steps_fit x z y n in let turn = mul_left_comm (y.gap + 1) (z.gap + 1) (x.gap + 1) in omega (arith, most, turned, turn, turn_z))
      (λ n. let most = steps_fit y x z n in omega (arith, most, turned, turn_z, ap (λ (m : ℕ). (z.gap + 1) * m) (mul_comm (x.gap + 1) (y.gap + 1))))
      (λ n. let most = steps_fit x y z n in omega (arith, most, turned, turn_z))
    where
      turned : (x.gap + 1) * (y.gap + 1) * (z.gap + 1) ≡ (x.gap + 1) * ((y.gap + 1) * (z.gap + 1))
      turned = mul_assoc (x.gap + 1) (y.gap + 1) (z.gap + 1)

      turn_z : (z.gap + 1) * ((y.gap + 1) * (x.gap + 1)) ≡ (x.gap + 1) * ((y.gap + 1) * (z.gap + 1))
      turn_z =
          mul_left_comm (z.gap + 1) (y.gap + 1) (x.gap + 1) ∙ ap (λ (m : ℕ). (y.gap + 1) * m) (mul_comm (z.gap + 1) (x.gap + 1))
          ∙ mul_left_comm (y.gap + 1) (x.gap + 1) (z.gap + 1)
