-- The elements of the voxels of a part of a box.
use Rattle.vdb_c.proofs.Common.{◌≡◌, ◌≢◌, ◌⊎◌, inl, inr, sym, ap, ◌∙◌, subst, ℕ, ℤ, ◌+◌, ◌*◌, ◌<◌, ◌≤◌, ◌+ℤ◌, ◌≤ℤ◌, pos, arith, ints, true, IsTrue, List, get_or, int_gap, int_le, is_bounds, Box, coord, everywhere, is_box, is_inside, is_within, Coord, both, min_inside, inside_from, inside_parts, IsLaid, are_apart, place, Strides}
use Rattle.vdb_c.specs.Elements.{IsCopied}
use Rattle.std.proofs.Common.{negsuc}
use Rattle.std.proofs.Math.Nat.{add-mul}
use Rattle.vdb_c.proofs.Places.{place_at_most, reached, same_place}

test : (low z : ℤ) → low ≤ℤ z → int_le low z ≡ true
test low z h = grind (arith, ints)

gap_along : (low z : ℤ) (n : ℕ) → low ≤ℤ z → int_gap low (z +ℤ pos n) ≡ int_gap low z + n
gap_along low z n h = by low z (int_gap low z) (int_gap low (z +ℤ pos n)) (reached low z (test low z h)) (reached low (z +ℤ pos n) (test low (z +ℤ pos n) (omega (arith, ints, h))))
  where
    by : (low z : ℤ) (g g' : ℕ) → low +ℤ pos g ≡ z → low +ℤ pos g' ≡ z +ℤ pos n → g' ≡ g + n
    by low z g g' e k = omega (arith, ints, e, k)

-- the voxel so many past another along each axis
abbrev pub voxel_at : Coord → ℕ × (ℕ × ℕ) → Coord
voxel_at p n = coord (p.x +ℤ pos n.0) (p.y +ℤ pos n.1.0) (p.z +ℤ pos n.1.1)

-- a part of a box: its least corner with its element, and how far its greatest corner is past it
pub record IsPartIn (b : Box) (s : Strides) (part : Box) (p : Coord) (first dx dy dz : ℕ) : Type 0 where
  pub within : (q : Coord) → IsTrue (is_inside part q) → IsTrue (is_inside b q)
  pub inside : IsTrue (is_inside part p)
  pub least : p ≡ part.min
  pub x : p.x +ℤ pos dx ≡ part.max.x
  pub y : p.y +ℤ pos dy ≡ part.max.y
  pub z : p.z +ℤ pos dz ≡ part.max.z
  pub element : first ≡ place b s p

pub part_in : (b : Box) (s : Strides) (part : Box) (p max : Coord) (first dx dy dz : ℕ) → ((q : Coord) → IsTrue (is_inside part q) → IsTrue (is_inside b q)) → IsTrue (is_inside part p) → p ≡ part.min → max ≡ part.max
    → dx ≡ int_gap p.x max.x → dy ≡ int_gap p.y max.y → dz ≡ int_gap p.z max.z → first ≡ place b s p → IsPartIn b s part p first dx dy dz
part_in b s part p max first dx dy dz within inside least greatest x y z element =
    let own = inside_parts part p inside in
    record {
      within = within;
      inside = inside;
      least = least;
      x = end p.x max.x part.max.x dx x (ap (λ (m : Coord). m.x) greatest) own.0.1;
      y = end p.y max.y part.max.y dy y (ap (λ (m : Coord). m.y) greatest) own.1.1;
      z = end p.z max.z part.max.z dz z (ap (λ (m : Coord). m.z) greatest) own.2.1;
      element = element;
    }
  where
    end : (low high top : ℤ) (n : ℕ) → n ≡ int_gap low high → high ≡ top → low ≤ℤ top → low +ℤ pos n ≡ top
    end low high top n e same h = ap (λ (m : ℕ). low +ℤ pos m) e ∙ reached low high (test low high (subst (λ (m : ℤ). low ≤ℤ m) (sym same) h)) ∙ same

module _ (b : Box) (s : Strides) (part : Box) (p : Coord) (first dx dy dz : ℕ) (h : IsPartIn b s part p first dx dy dz) where
  abbrev pub InPlane : ℕ × ℕ → Type 0
  InPlane j = (j.0 < dy + 1) × (j.1 < dz + 1)

  abbrev pub InPart : ℕ × (ℕ × ℕ) → Type 0
  InPart n = (n.0 < dx + 1) × InPlane n.1

  pub at_inside : (n : ℕ × (ℕ × ℕ)) → InPart n → IsTrue (is_inside part (voxel_at p n))
  at_inside n w =
      let own = inside_parts part p h.inside in
      inside_from part (voxel_at p n) (more part.min.x p.x n.0 own.0.0) (most p.x part.max.x n.0 dx h.x w.0) (more part.min.y p.y n.1.0 own.1.0) (most p.y part.max.y n.1.0 dy h.y w.1.0)
      (more part.min.z p.z n.1.1 own.2.0) (most p.z part.max.z n.1.1 dz h.z w.1.1)
    where
      more : (low z : ℤ) (n : ℕ) → low ≤ℤ z → low ≤ℤ (z +ℤ pos n)
      more low z n h = omega (arith, ints, h)

      most : (low top : ℤ) (n m : ℕ) → low +ℤ pos m ≡ top → n < m + 1 → (low +ℤ pos n) ≤ℤ top
      most low top n m e h = omega (arith, ints, e, h)

  pub at_place : (n : ℕ × (ℕ × ℕ)) → place b s (voxel_at p n) ≡ first + n.0 * s.x + n.1.0 * s.y + n.1.1 * s.z
  at_place n =
      let low = inside_parts b p (h.within p h.inside) in
      by (int_gap b.min.x (p.x +ℤ pos n.0)) (int_gap b.min.y (p.y +ℤ pos n.1.0)) (int_gap b.min.z (p.z +ℤ pos n.1.1)) (int_gap b.min.x p.x) (int_gap b.min.y p.y) (int_gap b.min.z p.z) n.0 n.1.0 n.1.1 first h.element
      (gap_along b.min.x p.x n.0 low.0.0) (gap_along b.min.y p.y n.1.0 low.1.0) (gap_along b.min.z p.z n.1.1 low.2.0)
    where
      by : (a c r a' c' r' i j k f : ℕ) → f ≡ a' * s.x + (c' * s.y + r' * s.z) → a ≡ a' + i → c ≡ c' + j → r ≡ r' + k → a * s.x + (c * s.y + r * s.z) ≡ f + i * s.x + j * s.y + k * s.z
      by a c r a' c' r' i j k f e x y z =
          let ex : a * s.x ≡ a' * s.x + i * s.x = ap (λ (m : ℕ). m * s.x) x ∙ add-mul a' i s.x in
          let ey : c * s.y ≡ c' * s.y + j * s.y = ap (λ (m : ℕ). m * s.y) y ∙ add-mul c' j s.y in
          let ez : r * s.z ≡ r' * s.z + k * s.z = ap (λ (m : ℕ). m * s.z) z ∙ add-mul r' k s.z in
          omega (arith, e, ex, ey, ez)

  pub voxel_of : (q : Coord) → IsTrue (is_inside part q) → (n : ℕ × (ℕ × ℕ)) × InPart n × (voxel_at p n ≡ q)
  voxel_of q i =
      let own = inside_parts part q i in
      let low = subst (λ (m : Coord). (m.x ≤ℤ q.x) × ((m.y ≤ℤ q.y) × (m.z ≤ℤ q.z))) (sym h.least) (own.0.0, (own.1.0, own.2.0)) in
      let x = reached p.x q.x (test p.x q.x low.0) in
      let y = reached p.y q.y (test p.y q.y low.1.0) in
      let z = reached p.z q.z (test p.z q.z low.1.1) in (
        (int_gap p.x q.x, (int_gap p.y q.y, int_gap p.z q.z)),
        (few p.x q.x part.max.x (int_gap p.x q.x) dx x h.x own.0.1, (few p.y q.y part.max.y (int_gap p.y q.y) dy y h.y own.1.1, few p.z q.z part.max.z (int_gap p.z q.z) dz z h.z own.2.1)),
        λ k. coord (x k) (y k) (z k),
      )
    where
      few : (low m top : ℤ) (g n : ℕ) → low +ℤ pos g ≡ m → low +ℤ pos n ≡ top → m ≤ℤ top → g < n + 1
      few low m top g n e k l = omega (arith, ints, e, k, l)

  pub part_reach : (len : ℕ) → place b s b.max < len → (x y z : ℕ) → x < dx + 1 → y < dy + 1 → z < dz + 1 → first + x * s.x + y * s.y + z * s.z < len
  part_reach len reach x y z k l m =
      by (place b s (voxel_at p (x, (y, z)))) (first + x * s.x + y * s.y + z * s.z) (place b s b.max) (at_place (x, (y, z)))
      (place_at_most b s (voxel_at p (x, (y, z))) (h.within (voxel_at p (x, (y, z))) (at_inside (x, (y, z)) (k, (l, m))))) reach
    where
      by : (m n top : ℕ) → m ≡ n → m ≤ top → top < len → n < len
      by m n top e most reach = omega (arith, e, most, reach)

-- the least corner of a box has the first element
pub place_min : (b : Box) (s : Strides) → place b s b.min ≡ 0
place_min b s = rw (none b.min.x, none b.min.y, none b.min.z) (omega arith)
  where
    none : (x : ℤ) → int_gap x x ≡ 0
    none (pos a) = grind (arith, ints)
    none (negsuc a) = grind (arith, ints)

-- with strides of 0 all voxels have the first element
pub place_none : (b : Box) (p : Coord) → place b (record { x = 0; y = 0; z = 0 }) p ≡ 0
place_none b p = by (int_gap b.min.x p.x) (int_gap b.min.y p.y) (int_gap b.min.z p.z)
  where
    by : (a c r : ℕ) → a * 0 + (c * 0 + r * 0) ≡ 0
    by a c r = omega arith

-- a part by itself, and in a box
pub both_sides : (t : Strides) (b : Box) (s : Strides) (part : Box) (p max : Coord) (to dx dy dz : ℕ) → ((q : Coord) → IsTrue (is_inside part q) → IsTrue (is_inside b q)) → IsTrue (is_bounds part) → p ≡ part.min → max ≡ part.max
    → dx ≡ int_gap p.x max.x → dy ≡ int_gap p.y max.y → dz ≡ int_gap p.z max.z → to ≡ place b s p → IsPartIn part t part p 0 dx dy dz × IsPartIn b s part p to dx dy dz
both_sides t b s part p max to dx dy dz within bounds least greatest x y z element =
    let inside = subst (λ (q : Coord). IsTrue (is_inside part q)) (sym least) (min_inside part (both (is_box part) (is_within part everywhere) bounds).0) in
    (part_in part t part p max 0 dx dy dz (λ q i. i) inside least greatest x y z (sym (ap (place part t) least ∙ place_min part t)), part_in b s part p max to dx dy dz within inside least greatest x y z element)

-- the elements of a part that are copied: from an element on, and to those in an array
module _ (t : Strides) (b : Box) (s : Strides) (part : Box) (p : Coord) (at to dx dy dz : ℕ) (source : IsPartIn part t part p 0 dx dy dz) (target : IsPartIn b s part p to dx dy dz) where
  abbrev InBoth : ℕ × (ℕ × ℕ) → Type 0
  InBoth = InPart part t part p 0 dx dy dz source

  pub source_reach : (len : ℕ) → at + place part t part.max < len → (x y z : ℕ) → x < dx + 1 → y < dy + 1 → z < dz + 1 → at + x * t.x + y * t.y + z * t.z < len
  source_reach len reach x y z k l m =
      let below = part_reach part t part p 0 dx dy dz source (place part t part.max + 1) (omega arith) x y z k l m in
      by (x * t.x) (y * t.y) (z * t.z) (place part t part.max) below reach
    where
      by : (a c r top : ℕ) → 0 + a + c + r < top + 1 → at + top < len → at + a + c + r < len
      by a c r top below reach = omega (arith, below, reach)

  source_at : (n : ℕ × (ℕ × ℕ)) → at + n.0 * t.x + n.1.0 * t.y + n.1.1 * t.z ≡ at + place part t (voxel_at p n)
  source_at n = by (n.0 * t.x) (n.1.0 * t.y) (n.1.1 * t.z) (place part t (voxel_at p n)) (at_place part t part p 0 dx dy dz source n)
    where
      by : (a c r m : ℕ) → m ≡ 0 + a + c + r → at + a + c + r ≡ at + m
      by a c r m e = omega (arith, e)

  module _ {X : Type 0} (from old new : List X) where
    pub part_laid : IsTrue (are_apart b s) → IsCopied InBoth (λ n. at + n.0 * t.x + n.1.0 * t.y + n.1.1 * t.z) (λ n. to + n.0 * s.x + n.1.0 * s.y + n.1.1 * s.z) from old new
        → (of : Coord → X) → ((q : Coord) (d : X) → IsTrue (is_inside part q) → get_or from (at + place part t q) d ≡ of q) → IsLaid b s (is_inside part) of old new
    part_laid apart h of is = record { size = h.size; voxels = λ q d i l. at_voxel q d i (h.each (place b s q)); others = λ i d out. elsewhere i d out (h.each i) }
      where
        at_voxel : (q : Coord) (d : X) → IsTrue (is_inside part q)
            → ((n : ℕ × (ℕ × ℕ)) × InBoth n × (to + n.0 * s.x + n.1.0 * s.y + n.1.1 * s.z ≡ place b s q) × ((d : X) → get_or new (place b s q) d ≡ get_or from (at + n.0 * t.x + n.1.0 * t.y + n.1.1 * t.z) d))
            ⊎ (((n : ℕ × (ℕ × ℕ)) → InBoth n → to + n.0 * s.x + n.1.0 * s.y + n.1.1 * s.z ≢ place b s q) × ((d : X) → get_or new (place b s q) d ≡ get_or old (place b s q) d))
            → get_or new (place b s q) d ≡ of q
        at_voxel q d i (inl w) =
            let n = w.0 in
            let own = at_inside part t part p 0 dx dy dz source n w.1 in
            let same = same_place b s apart (voxel_at p n) q (target.within (voxel_at p n) own) (target.within q i) (at_place b s part p to dx dy dz target n ∙ w.2) in
            w.3 d ∙ ap (λ (j : ℕ). get_or from j d) (source_at n) ∙ is (voxel_at p n) d own ∙ ap of same
        at_voxel q d i (inr w) =
            let v = voxel_of b s part p to dx dy dz target q i in
            absurd (w.0 v.0 v.1 (sym (at_place b s part p to dx dy dz target v.0) ∙ ap (place b s) v.2))

        elsewhere : (i : ℕ) (d : X) → ((q : Coord) → IsTrue (is_inside part q) → place b s q ≢ i)
            → ((n : ℕ × (ℕ × ℕ)) × InBoth n × (to + n.0 * s.x + n.1.0 * s.y + n.1.1 * s.z ≡ i) × ((d : X) → get_or new i d ≡ get_or from (at + n.0 * t.x + n.1.0 * t.y + n.1.1 * t.z) d))
            ⊎ (((n : ℕ × (ℕ × ℕ)) → InBoth n → to + n.0 * s.x + n.1.0 * s.y + n.1.1 * s.z ≢ i) × ((d : X) → get_or new i d ≡ get_or old i d))
            → get_or new i d ≡ get_or old i d
        elsewhere i d out (inl w) = absurd (out (voxel_at p w.0) (at_inside part t part p 0 dx dy dz source w.0 w.1) (at_place b s part p to dx dy dz target w.0 ∙ w.2))
        elsewhere i d out (inr w) = w.1 d

    -- with x in the place of z
    pub part_turned : IsCopied (λ (n : ℕ × (ℕ × ℕ)). (n.0 < dz + 1) × ((n.1.0 < dy + 1) × (n.1.1 < dx + 1))) (λ n. at + n.0 * t.z + n.1.0 * t.y + n.1.1 * t.x) (λ n. to + n.0 * s.z + n.1.0 * s.y + n.1.1 * s.x) from old new
        → IsCopied InBoth (λ n. at + n.0 * t.x + n.1.0 * t.y + n.1.1 * t.z) (λ n. to + n.0 * s.x + n.1.0 * s.y + n.1.1 * s.z) from old new
    part_turned h = record { size = h.size; each = λ i. by i (h.each i) }
      where
        around : (f a b c : ℕ) → f + a + b + c ≡ f + c + b + a
        around f a b c = omega arith

        by : (i : ℕ)
            → ((n : ℕ × (ℕ × ℕ)) × ((n.0 < dz + 1) × ((n.1.0 < dy + 1) × (n.1.1 < dx + 1))) × (to + n.0 * s.z + n.1.0 * s.y + n.1.1 * s.x ≡ i) × ((d : X) → get_or new i d ≡ get_or from (at + n.0 * t.z + n.1.0 * t.y + n.1.1 * t.x) d))
            ⊎ (((n : ℕ × (ℕ × ℕ)) → (n.0 < dz + 1) × ((n.1.0 < dy + 1) × (n.1.1 < dx + 1)) → to + n.0 * s.z + n.1.0 * s.y + n.1.1 * s.x ≢ i) × ((d : X) → get_or new i d ≡ get_or old i d))
            → ((n : ℕ × (ℕ × ℕ)) × InBoth n × (to + n.0 * s.x + n.1.0 * s.y + n.1.1 * s.z ≡ i) × ((d : X) → get_or new i d ≡ get_or from (at + n.0 * t.x + n.1.0 * t.y + n.1.1 * t.z) d))
            ⊎ (((n : ℕ × (ℕ × ℕ)) → InBoth n → to + n.0 * s.x + n.1.0 * s.y + n.1.1 * s.z ≢ i) × ((d : X) → get_or new i d ≡ get_or old i d))
        by i (inl w) =
            let n = w.0 in
            inl (
              (n.1.1, (n.1.0, n.0)),
              (w.1.1.1, (w.1.1.0, w.1.0)),
              around to (n.1.1 * s.x) (n.1.0 * s.y) (n.0 * s.z) ∙ w.2,
              λ d. w.3 d ∙ ap (λ (j : ℕ). get_or from j d) (around at (n.0 * t.z) (n.1.0 * t.y) (n.1.1 * t.x)),
            )
        by i (inr w) = inr (λ n k e. w.0 (n.1.1, (n.1.0, n.0)) (k.1.1, (k.1.0, k.0)) (around to (n.1.1 * s.z) (n.1.0 * s.y) (n.0 * s.x) ∙ e), w.1)
