-- The voxels of a box, one after another.
use Rattle.vdb_c.proofs.Common.{◌≡◌, ◌⊎◌, inl, inr, ◌<◌, ℤ, pos, ◌+ℤ◌, ◌≤ℤ◌, ◌<ℤ◌, refl, sym, ap, ◌∙◌, subst, Bool, true, false, ◌||◌, IsTrue, SFits, w32, to_z, of_z, arith, Some, None, lt_z, ints, to_z-of_z, Box, coord, coord_eq, is_inside, IsBefore, coordinates_after, Coord, coord_equiv, coord_exact, inside_from, inside_parts, up_to_x, IsNextVoxel, IsUpTo}
use Rattle.vdb_coord.proofs.Walk.{few_after, nearer_x, nearer_y, nearer_z}

no_less : {m n : ℤ} → m ≤ℤ n → n <ℤ m → ⊥
no_less {m} {n} a c = omega (arith, ints, a, c)

module _ (b : Box) (p : Coord) (inside : IsTrue (is_inside b p)) where
  pub next_along_z : p.z <ℤ b.max.z → IsNextVoxel b p (Some (coord p.x p.y (p.z +ℤ pos 1)))
  next_along_z h =
      let own = inside_parts b p inside in (
        inside_from b (coord p.x p.y (p.z +ℤ pos 1)) own.0.0 own.0.1 own.1.0 own.1.1 (omega (arith, ints, own.2.0)) (omega (arith, ints, h)),
        inr (refl, inr (refl, omega (arith, ints))),
        λ q i before. elim before [
          | inl x ↦ inl (inl x)
          | inr r ↦ elim r.1 [
            | inl y ↦ inl (inr (r.0, inl y))
            | inr s ↦ up_to_x q p (omega (arith, ints, r.0)) (omega (arith, ints, s.0)) (omega (arith, ints, s.1))
          ]
        ],
      )

  module _ (end_z : b.max.z ≤ℤ p.z) where
    pub next_along_y : p.y <ℤ b.max.y → IsNextVoxel b p (Some (coord p.x (p.y +ℤ pos 1) b.min.z))
    next_along_y h =
        let own = inside_parts b p inside in
        let order = own.2 in (
          inside_from b (coord p.x (p.y +ℤ pos 1) b.min.z) own.0.0 own.0.1 (omega (arith, ints, own.1.0)) (omega (arith, ints, h)) (omega (arith, ints)) (omega (arith, ints, order.0, order.1)),
          inr (refl, inl (omega (arith, ints))),
          λ q i before.
              let at = inside_parts b q i in
              elim before [
                | inl x ↦ inl (inl x)
                | inr r ↦ elim r.1 [
                  | inl y ↦ up_to_x q p (omega (arith, ints, r.0)) (omega (arith, ints, y)) (omega (arith, ints, at.2.1, end_z))
                  | inr s ↦ absurd (no_less at.2.0 s.1)
                ]
              ],
        )

    module _ (end_y : b.max.y ≤ℤ p.y) where
      pub next_along_x : p.x <ℤ b.max.x → IsNextVoxel b p (Some (coord (p.x +ℤ pos 1) b.min.y b.min.z))
      next_along_x h =
          let own = inside_parts b p inside in
          let ys = own.1 in
          let zs = own.2 in (
            inside_from b (coord (p.x +ℤ pos 1) b.min.y b.min.z) (omega (arith, ints, own.0.0)) (omega (arith, ints, h)) (omega (arith, ints)) (omega (arith, ints, ys.0, ys.1)) (omega (arith, ints)) (omega (arith, ints, zs.0, zs.1)),
            inl (omega (arith, ints)),
            λ q i before.
                let at = inside_parts b q i in
                elim before [
                  | inl x ↦ up_to_x q p (omega (arith, ints, x)) (omega (arith, ints, at.1.1, end_y)) (omega (arith, ints, at.2.1, end_z))
                  | inr r ↦ elim r.1 [
                    | inl y ↦ absurd (no_less at.1.0 y)
                    | inr s ↦ absurd (no_less at.2.0 s.1)
                  ]
                ],
          )

      pub no_next : b.max.x ≤ℤ p.x → IsNextVoxel b p None
      no_next end_x = λ q i.
          let at = inside_parts b q i in
          up_to_x q p (omega (arith, ints, at.0.1, end_x)) (omega (arith, ints, at.1.1, end_y)) (omega (arith, ints, at.2.1, end_z))

-- a coordinate that comes later has fewer after it
pub nearer : (p q : Coord) → SFits w32 q.x → SFits w32 q.y → SFits w32 q.z → IsBefore p q → coordinates_after q < coordinates_after p
nearer p q x y z before =
    let high : (n : ℤ) → SFits w32 n → n ≤ℤ pos 2147483647 = λ n h. grind (arith, ints) in
    elim before [
      | inl h ↦ nearer_x p q (high q.x x) (high q.y y) (high q.z z) (few_after q.y y) (few_after q.z z) h
      | inr r ↦ elim r.1 [
        | inl h ↦ nearer_y p q (high q.x x) (high q.y y) (high q.z z) (few_after q.y y) (few_after q.z z) r.0 h
        | inr s ↦ nearer_z p q (high q.x x) (high q.y y) (high q.z z) (few_after q.y y) (few_after q.z z) r.0 s.0 s.1
      ]
    ]

-- ---- as the code makes them

-- a voxel is the next one, and fewer come after it
abbrev pub Moves : Box → Coord → Coord → Type 0
Moves b p n = IsNextVoxel b p (Some n) × (coordinates_after n < coordinates_after p)

at_components : (b : Box) (p n : Coord) (x y z : ℤ) → x ≡ n.x → y ≡ n.y → z ≡ n.z → Moves b p n → Moves b p (coord x y z)
at_components b p n x y z ex ey ez h = let e : n ≡ coord x y z = λ i. record { x = sym ex i; y = sym ey i; z = sym ez i } in subst (Moves b p) e h

module _ (b : Box) (p : Coord) (inside : IsTrue (is_inside b p)) (x y z : ℤ) where
  pub moved_z : SFits w32 p.x → SFits w32 p.y → SFits w32 (p.z +ℤ pos 1) → p.z <ℤ b.max.z → x ≡ p.x → y ≡ p.y → z ≡ p.z +ℤ pos 1 → Moves b p (coord x y z)
  moved_z fx fy fz h ex ey ez =
      let n : Coord = coord p.x p.y (p.z +ℤ pos 1) in
      let next = next_along_z b p inside h in at_components b p n x y z ex ey ez (next, nearer p n fx fy fz next.1)

  pub moved_y : SFits w32 p.x → SFits w32 (p.y +ℤ pos 1) → SFits w32 b.min.z → b.max.z ≤ℤ p.z → p.y <ℤ b.max.y → x ≡ p.x → y ≡ p.y +ℤ pos 1 → z ≡ b.min.z → Moves b p (coord x y z)
  moved_y fx fy fz end h ex ey ez =
      let n : Coord = coord p.x (p.y +ℤ pos 1) b.min.z in
      let next = next_along_y b p inside end h in at_components b p n x y z ex ey ez (next, nearer p n fx fy fz next.1)

  pub moved_x : SFits w32 (p.x +ℤ pos 1) → SFits w32 b.min.y → SFits w32 b.min.z → b.max.z ≤ℤ p.z → b.max.y ≤ℤ p.y → p.x <ℤ b.max.x → x ≡ p.x +ℤ pos 1 → y ≡ b.min.y → z ≡ b.min.z → Moves b p (coord x y z)
  moved_x fx fy fz end end' h ex ey ez =
      let n : Coord = coord (p.x +ℤ pos 1) b.min.y b.min.z in
      let next = next_along_x b p inside end end' h in at_components b p n x y z ex ey ez (next, nearer p n fx fy fz next.1)

-- numbers as they are compared
lt_passed : (a c : ℤ) → SFits w32 a → SFits w32 c → lt_z (to_z w32 (of_z w32 a)) (to_z w32 (of_z w32 c)) ≡ lt_z a c
lt_passed a c f g = rw (to_z-of_z w32 a f, to_z-of_z w32 c g) refl

from_lt : (a c : ℤ) → lt_z a c ≡ true → a <ℤ c
from_lt a c h = grind (arith, ints)

from_not_lt : (a c : ℤ) → lt_z a c ≡ false → c ≤ℤ a
from_not_lt a c h = grind (arith, ints)

pub below : (a c d : ℤ) → SFits w32 a → SFits w32 c → c ≡ d → lt_z (to_z w32 (of_z w32 a)) (to_z w32 (of_z w32 c)) ≡ true → a <ℤ d
below a c d f g e h = subst (λ (n : ℤ). a <ℤ n) e (from_lt a c (sym (lt_passed a c f g) ∙ h))

pub not_below : (a c d : ℤ) → SFits w32 a → SFits w32 c → c ≡ d → lt_z (to_z w32 (of_z w32 a)) (to_z w32 (of_z w32 c)) ≡ false → d ≤ℤ a
not_below a c d f g e h = subst (λ (n : ℤ). n ≤ℤ a) e (from_not_lt a c (sym (lt_passed a c f g) ∙ h))

-- the number after one that lies below another
pub one_more_fits : (a c : ℤ) → SFits w32 a → SFits w32 c → a <ℤ c → SFits w32 (a +ℤ pos 1)
one_more_fits a c f g h = grind (arith, ints)

pub one_more : (a : ℤ) → SFits w32 a → SFits w32 (a +ℤ pos 1) → to_z w32 (of_z w32 (to_z w32 (of_z w32 a) +ℤ pos 1)) ≡ a +ℤ pos 1
one_more a f g = ap (λ (m : ℤ). to_z w32 (of_z w32 (m +ℤ pos 1))) (to_z-of_z w32 a f) ∙ to_z-of_z w32 (a +ℤ pos 1) g

-- ---- the voxels of a box before one

abbrev pub none : Coord → Bool
none q = false

-- one more
abbrev pub with_voxel : (Coord → Bool) → Coord → Coord → Bool
with_voxel passed p q = passed q || coord_eq p q

pub or_ways : (a c : Bool) → IsTrue (a || c) → IsTrue a ⊎ IsTrue c
or_ways true c h = inl refl
or_ways false c h = inr h

pub or_first : (a c : Bool) → IsTrue a → IsTrue (a || c)
or_first a c h = rw h refl

pub or_second : (a c : Bool) → IsTrue c → IsTrue (a || c)
or_second true c h = refl
or_second false c h = h

pub not_before_itself : (p : Coord) → IsBefore p p → ⊥
not_before_itself p h = elim h [
  | inl x ↦ no_less (itself p.x) x
  | inr r ↦ elim r.1 [
    | inl y ↦ no_less (itself p.y) y
    | inr s ↦ no_less (itself p.z) s.1
  ]
]
  where
    itself : (n : ℤ) → n ≤ℤ n
    itself n = omega (arith, ints)

pub earlier : (q r s : Coord) → IsBefore q r → IsBefore r s → IsBefore q s
earlier q r s a c = elim a [
  | inl x ↦ elim c [ inl x' ↦ inl (omega (arith, ints, x, x')) | inr c' ↦ inl (omega (arith, ints, x, c'.0)) ]
  | inr a' ↦ elim c [
    | inl x' ↦ inl (omega (arith, ints, a'.0, x'))
    | inr c' ↦ elim a'.1 [
      | inl y ↦ elim c'.1 [ inl y' ↦ inr (a'.0 ∙ c'.0, inl (omega (arith, ints, y, y'))) | inr d' ↦ inr (a'.0 ∙ c'.0, inl (omega (arith, ints, y, d'.0))) ]
      | inr d ↦ elim c'.1 [ inl y' ↦ inr (a'.0 ∙ c'.0, inl (omega (arith, ints, d.0, y'))) | inr d' ↦ inr (a'.0 ∙ c'.0, inr (d.0 ∙ d'.0, omega (arith, ints, d.1, d'.1))) ]
    ]
  ]
]

-- none comes before the least corner
pub up_to_min : (b : Box) (p : Coord) → p ≡ b.min → IsUpTo b p none
up_to_min b p at_min = record {
  inside = λ q h. absurd cc;
  before = λ q h. absurd cc;
  all = λ q i h.
      let at = inside_parts b q i in
      absurd (elim (subst (IsBefore q) at_min h) [
        | inl x ↦ no_less at.0.0 x
        | inr r ↦ elim r.1 [
          | inl y ↦ no_less at.1.0 y
          | inr s ↦ no_less at.2.0 s.1
        ]
      ]);
}

module _ (b : Box) (p : Coord) (inside : IsTrue (is_inside b p)) (passed : Coord → Bool) (so_far : IsUpTo b p passed) where
  pub not_yet : passed p ≡ true → ⊥
  not_yet h = not_before_itself p (so_far.before p h)

  pub with_inside : (q : Coord) → IsTrue (with_voxel passed p q) → IsTrue (is_inside b q)
  with_inside q h = elim (or_ways (passed q) (coord_eq p q) h) [ inl k ↦ so_far.inside q k | inr e ↦ subst (λ (r : Coord). IsTrue (is_inside b r)) (coord_exact p q e) inside ]

  pub up_to_next : (next : Coord) → IsNextVoxel b p (Some next) → IsUpTo b next (with_voxel passed p)
  up_to_next next h = record {
    inside = with_inside;
    before = λ q k. elim (or_ways (passed q) (coord_eq p q) k) [
      | inl l ↦ earlier q p next (so_far.before q l) h.1
      | inr e ↦ subst (λ (r : Coord). IsBefore r next) (coord_exact p q e) h.1
    ];
    all = λ q i k. elim (h.2 q i k) [
      | inl l ↦ or_first (passed q) (coord_eq p q) (so_far.all q i l)
      | inr e ↦ or_second (passed q) (coord_eq p q) (subst (λ (r : Coord). IsTrue (coord_eq p r)) (sym e) (coord_equiv.refl p))
    ];
  }

  pub all_passed : IsNextVoxel b p None → (q : Coord) → IsTrue (is_inside b q) → IsTrue (with_voxel passed p q)
  all_passed h q i = elim (h q i) [
    | inl l ↦ or_first (passed q) (coord_eq p q) (so_far.all q i l)
    | inr e ↦ or_second (passed q) (coord_eq p q) (subst (λ (r : Coord). IsTrue (coord_eq p r)) (sym e) (coord_equiv.refl p))
  ]
