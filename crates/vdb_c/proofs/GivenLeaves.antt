-- Leaves that a call gives cells row by row.
use Rattle.vdb_c.proofs.Common.{◌≡◌, ◌≢◌, ◌⊎◌, inl, inr, refl, sym, ap, ◌∙◌, subst, ℕ, ℤ, ◌+◌, ◌*◌, ◌<◌, ◌≤◌, ◌+ℤ◌, pos, arith, ints, Bool, true, false, not, IsTrue, List, length, get_or, Option, Some, slice_get, int_gap, offset, vdb, Box, is_inside, Coord, cell_in, Cell, off, IsInOneLeaf, place, Strides}
use Rattle.std.proofs.Common.{◌/◌, ◌%◌, ◌*ℤ◌}
use Rattle.std.proofs.Math.Nat.{div-one}
use Rattle.std.specs.Option.{option_map_or}
use Rattle.std.proofs.lemmas.Option.{slice_get-get_or}
use Rattle.vdb_coord.specs.Components.{number_at}
use Rattle.vdb_coord.specs.declared.Level.TheVariants.{Leaf as leaf_level}
use Rattle.vdb_coord.proofs.Division.{parts, rest, rest_below}
use Rattle.vdb_coord.proofs.Positions.{offset_below}
use Rattle.vdb_node.specs.Leaf.{Leaf}
use Rattle.vdb_c.specs.FromBox.{HasCells, cell_at, cell_of_element, cells_of}
use Rattle.vdb_c.proofs.PartPlaces.{IsPartIn, at_inside, at_place, part_in, part_reach as reach, place_min, voxel_at, voxel_of}

-- ---- elements

-- the cell of an element with the background
pub blank_cell : {V X : Type 0} (eq : V → V → Bool) (exact : (x y : V) → eq x y ≡ true → x ≡ y) (value : X → V) (background : V) (x : X) → eq (value x) background ≡ true → cell_of_element eq value background x ≡ off background
blank_cell eq exact value background x is =
    let same = exact (value x) background is in
    λ i. record { value = same i; on = ap not is i }

-- the cell of an element, as the code reads it
pub read_cell : {V X : Type 0} (eq : V → V → Bool) (value : X → V) (background : V) (values : List X) (index : ℕ) (x : X)
    → index < length values → x ≡ get_or values index x → cell_of_element eq value background x ≡ cell_at eq value background values index
read_cell {X = X} eq value background values index x lt is =
    let got : slice_get values index ≡ Some x = slice_get-get_or values index x lt ∙ ap Some (sym is) in
    ap (λ (o : Option X). option_map_or (cell_of_element eq value background) o (off background)) (sym got)

-- ---- rows after rows, and planes after planes

below_or_last : (m n : ℕ) → m < n + 1 → (m < n) ⊎ (m ≡ n)
below_or_last m n h = grind (arith, h)

module _ {V J : Type 0} (Within : J → Type 0) (entry : ℕ → J → ℕ) (cell : ℕ → J → Cell V) where
  -- the first so many have their cells
  abbrev pub HaveCells : ℕ → (ℕ → Cell V) → (ℕ → Cell V) → Type 0
  HaveCells count old new = HasCells (λ (n : ℕ × J). (n.0 < count) × Within n.1) (λ n. entry n.0 n.1) (λ n. cell n.0 n.1) old new

  pub have_none : (cells : ℕ → Cell V) → HaveCells 0 cells cells
  have_none cells = record { within = λ n h. absurd (no_less n.0 h.0); others = λ i l out. refl }
    where
      no_less : (n : ℕ) → n < 0 → ⊥
      no_less n h = omega (arith, h)

  pub have_next : (count : ℕ) (old mid new : ℕ → Cell V) → HaveCells count old mid → HasCells Within (entry count) (cell count) mid new
      → ((n : ℕ) (j : J) → n < count → Within j → entry n j < 512) → ((n : ℕ) (i j : J) → n < count → Within i → Within j → entry count j ≢ entry n i) → HaveCells (count + 1) old new
  have_next count old mid new h next small apart = record {
    within = λ n w. by n w.1 (below_or_last n.0 count w.0);
    others = λ i l out. next.others i l (λ j k. out (count, j) (omega arith, k)) ∙ h.others i l (λ n w. let less = w.0 in out n (omega (arith, less), w.1));
  }
    where
      by : (n : ℕ × J) → Within n.1 → (n.0 < count) ⊎ (n.0 ≡ count) → new (entry n.0 n.1) ≡ cell n.0 n.1
      by n w (inl less) = next.others (entry n.0 n.1) (small n.0 n.1 less w) (λ j k. apart n.0 n.1 j less w k) ∙ h.within n (less, w)
      by n w (inr e) = subst (λ (m : ℕ). new (entry m n.1) ≡ cell m n.1) (sym e) (next.within n.1 w)

pub row_apart : (o y z m n count : ℕ) → z < y → m < count → n < count → o % 8 + count ≤ 8 → o + 8 * y + n ≢ o + 8 * z + m
row_apart o y z m n count h k l row e = omega (arith, h, k, l, row, e)

pub row_below : (o y m count : ℕ) → o % 8 + count ≤ 8 → o + 8 * y < 512 → m < count → o + 8 * y + m < 512
row_below o y m count row h l = omega (arith, row, h, l)

-- ---- the entries and the elements of a part of a box

rest_along : (z : ℤ) (n : ℕ) → number_at 3 z ≡ number_at 3 (z +ℤ pos n) → rest 8 (z +ℤ pos n) / 1 ≡ rest 8 z / 1 + n
rest_along z n same =
    div-one (rest 8 (z +ℤ pos n))
    ∙ by (number_at 3 z) (number_at 3 (z +ℤ pos n)) (rest 8 z) (rest 8 (z +ℤ pos n)) z same (parts 8 z (omega arith)) (parts 8 (z +ℤ pos n) (omega arith))
    ∙ ap (λ (r : ℕ). r + n) (sym (div-one (rest 8 z)))
  where
    by : (q q' : ℤ) (r r' : ℕ) (z : ℤ) → q ≡ q' → q *ℤ pos 8 +ℤ pos r ≡ z → q' *ℤ pos 8 +ℤ pos r' ≡ z +ℤ pos n → r' ≡ r + n
    by q q' r r' z e h k = omega (arith, ints, e, h, k)

rest_small : (x : ℤ) → rest 8 x / 1 < 8
rest_small x = subst (λ (r : ℕ). r < 8) (sym (div-one (rest 8 x))) (rest_below 8 x (omega arith))

-- a part of a box in one leaf extent: its least corner with its entry and its element, and how far its greatest corner is past it
pub record IsPartAt (b : Box) (s : Strides) (part : Box) (p : Coord) (o first dx dy dz : ℕ) : Type 0 where
  pub in_box : IsPartIn b s part p first dx dy dz
  pub block : IsInOneLeaf vdb part
  pub entry : o ≡ offset vdb leaf_level p

pub part_at : (b : Box) (s : Strides) (part : Box) (p max : Coord) (o first dx dy dz : ℕ) → ((q : Coord) → IsTrue (is_inside part q) → IsTrue (is_inside b q)) → IsInOneLeaf vdb part → IsTrue (is_inside part p) → p ≡ part.min → max ≡ part.max
    → dx ≡ int_gap p.x max.x → dy ≡ int_gap p.y max.y → dz ≡ int_gap p.z max.z → o ≡ offset vdb leaf_level p → first ≡ place b s p → IsPartAt b s part p o first dx dy dz
part_at b s part p max o first dx dy dz within block inside least greatest x y z entry element = record {
  in_box = part_in b s part p max first dx dy dz within inside least greatest x y z element;
  block = block;
  entry = entry;
}

module _ (b : Box) (s : Strides) (part : Box) (p : Coord) (o first dx dy dz : ℕ) (h : IsPartAt b s part p o first dx dy dz) where
  abbrev InPlane : ℕ × ℕ → Type 0
  InPlane j = (j.0 < dy + 1) × (j.1 < dz + 1)

  abbrev InPart : ℕ × (ℕ × ℕ) → Type 0
  InPart n = (n.0 < dx + 1) × InPlane n.1

  voxel_inside : (n : ℕ × (ℕ × ℕ)) → InPart n → IsTrue (is_inside part (voxel_at p n))
  voxel_inside n w = at_inside b s part p first dx dy dz h.in_box n w

  at_offset : (n : ℕ × (ℕ × ℕ)) → InPart n → offset vdb leaf_level (voxel_at p n) ≡ o + 64 * n.0 + 8 * n.1.0 + n.1.1
  at_offset n w =
      let same = h.block p (voxel_at p n) h.in_box.inside (voxel_inside n w) in
      by (rest 8 p.x / 1) (rest 8 p.y / 1) (rest 8 p.z / 1) (rest 8 (p.x +ℤ pos n.0) / 1) (rest 8 (p.y +ℤ pos n.1.0) / 1) (rest 8 (p.z +ℤ pos n.1.1) / 1) n.0 n.1.0 n.1.1 o h.entry
      (rest_along p.x n.0 (ap (λ (c : Coord). c.x) same)) (rest_along p.y n.1.0 (ap (λ (c : Coord). c.y) same)) (rest_along p.z n.1.1 (ap (λ (c : Coord). c.z) same))
    where
      by : (a c r a' c' r' i j k o : ℕ) → o ≡ (a * 8 + c) * 8 + r → a' ≡ a + i → c' ≡ c + j → r' ≡ r + k → (a' * 8 + c') * 8 + r' ≡ o + 64 * i + 8 * j + k
      by a c r a' c' r' i j k o e x y z = omega (arith, e, x, y, z)

  -- the last voxel of the first plane lies in the same rows of the leaf
  ends : (c : ℕ) × (r : ℕ) × (c < 8) × (r < 8) × ((a : ℕ) × (o ≡ a * 64 + c * 8 + r)) × (c + dy < 8) × (r + dz < 8)
  ends =
      let w : InPart (0, (dy, dz)) = (omega arith, (omega arith, omega arith)) in
      let same = h.block p (voxel_at p (0, (dy, dz))) h.in_box.inside (voxel_inside (0, (dy, dz)) w) in
      let y = rest_along p.y dy (ap (λ (c : Coord). c.y) same) in
      let z = rest_along p.z dz (ap (λ (c : Coord). c.z) same) in (
        rest 8 p.y / 1,
        rest 8 p.z / 1,
        rest_small p.y,
        rest_small p.z,
        (rest 8 p.x / 1, by (rest 8 p.x / 1) (rest 8 p.y / 1) (rest 8 p.z / 1) o h.entry),
        subst (λ (n : ℕ). n < 8) y (rest_small (p.y +ℤ pos dy)),
        subst (λ (n : ℕ). n < 8) z (rest_small (p.z +ℤ pos dz)),
      )
    where
      by : (a c r o : ℕ) → o ≡ (a * 8 + c) * 8 + r → o ≡ a * 64 + c * 8 + r
      by a c r o e = omega (arith, e)

  pub part_row : (x : ℕ) → (o + 64 * x) % 8 + (dz + 1) ≤ 8
  part_row x = by ends.4.0 ends.0 ends.1 o dz ends.4.1 ends.6
    where
      by : (a c r o z : ℕ) → o ≡ a * 64 + c * 8 + r → r + z < 8 → (o + 64 * x) % 8 + (z + 1) ≤ 8
      by a c r o z e l = omega (arith, e, l)

  pub part_entry : (x y : ℕ) → x < dx + 1 → y < dy + 1 → o + 64 * x + 8 * y < 512
  part_entry x y k l = by (offset vdb leaf_level (voxel_at p (x, (y, 0)))) (o + 64 * x + 8 * y) (at_offset (x, (y, 0)) (k, (l, omega arith))) (offset_below vdb leaf_level (voxel_at p (x, (y, 0))))
    where
      by : (m n : ℕ) → m ≡ n + 0 → m < 512 → n < 512
      by m n e l = omega (arith, e, l)

  pub part_reach : (len : ℕ) → place b s b.max < len → (x y z : ℕ) → x < dx + 1 → y < dy + 1 → z < dz + 1 → first + x * s.x + y * s.y + z * s.z < len
  part_reach = reach b s part p first dx dy dz h.in_box

  pub plane_apart : (x n : ℕ) (i j : ℕ × ℕ) → n < x → InPlane i → InPlane j → o + 64 * x + 8 * j.0 + j.1 ≢ o + 64 * n + 8 * i.0 + i.1
  plane_apart x n i j less k l e = by ends.0 ends.1 i.0 i.1 j.0 j.1 ends.5 ends.6 k.0 k.1 l.0 l.1 e
    where
      by : (c r a f d g : ℕ) → c + dy < 8 → r + dz < 8 → a < dy + 1 → f < dz + 1 → d < dy + 1 → g < dz + 1 → o + 64 * x + 8 * d + g ≡ o + 64 * n + 8 * a + f → ⊥
      by c r a f d g hc hr ha hf hd hg e = omega (arith, less, hc, hr, ha, hf, hd, hg, e)

  pub plane_below : (n : ℕ) (j : ℕ × ℕ) → n < dx + 1 → InPlane j → o + 64 * n + 8 * j.0 + j.1 < 512
  plane_below n j k l = row_below (o + 64 * n) j.0 j.1 (dz + 1) (part_row n) (part_entry n j.0 k l.0) l.1

  -- the cells of the voxels from those of the planes
  pub part_given : {V : Type 0} (cell : ℕ → Cell V) (old new : ℕ → Cell V) (n : ℕ) → n ≡ dx + 1 → HaveCells InPlane (λ x j. o + 64 * x + 8 * j.0 + j.1) (λ x j. cell (first + x * s.x + j.0 * s.y + j.1 * s.z)) n old new
      → HasCells (λ (q : Coord). IsTrue (is_inside part q)) (offset vdb leaf_level) (λ q. cell (place b s q)) old new
  part_given cell old new m all given = record {
    within = λ q i.
        let v = voxel_of b s part p first dx dy dz h.in_box q i in
        let first_below = v.1.0 in
        subst (λ (r : Coord). new (offset vdb leaf_level r) ≡ cell (place b s r)) v.2 (ap new (at_offset v.0 v.1) ∙ given.within v.0 (omega (arith, first_below, all), v.1.1) ∙ sym (ap cell (at_place b s part p first dx dy dz h.in_box v.0)));
    others = λ i l out. given.others i l (λ n w e.
        let below = w.0 in
        let k : InPart n = (omega (arith, below, all), w.1) in
        out (voxel_at p n) (voxel_inside n k) (at_offset n k ∙ e));
  }

-- the strides of the entries of a leaf
abbrev pub leaf_strides : Strides
leaf_strides = record { x = 64; y = 8; z = 1 }

-- a part in one leaf extent: from the entry of its least corner on, its entries lie like the elements of an array of its own
module _ (part : Box) (p : Coord) (o : ℕ) (inside : IsTrue (is_inside part p)) (least : p ≡ part.min) (block : IsInOneLeaf vdb part) (entry : o ≡ offset vdb leaf_level p) where
  pub entry_from : (q : Coord) → IsTrue (is_inside part q) → o + place part leaf_strides q ≡ offset vdb leaf_level q
  entry_from q i =
      let at = part_at part leaf_strides part p part.max o 0 (int_gap p.x part.max.x) (int_gap p.y part.max.y) (int_gap p.z part.max.z) (λ r j. j) block inside least refl refl refl refl entry
      (sym (ap (place part leaf_strides) least ∙ place_min part leaf_strides)) in
      let v = voxel_of part leaf_strides part p 0 (int_gap p.x part.max.x) (int_gap p.y part.max.y) (int_gap p.z part.max.z) at.in_box q i in
      let element = sym (ap (place part leaf_strides) v.2) ∙ at_place part leaf_strides part p 0 (int_gap p.x part.max.x) (int_gap p.y part.max.y) (int_gap p.z part.max.z) at.in_box v.0 in
      let index = sym (ap (offset vdb leaf_level) v.2) ∙ at_offset part leaf_strides part p o 0 (int_gap p.x part.max.x) (int_gap p.y part.max.y) (int_gap p.z part.max.z) at v.0 v.1 in
      by (place part leaf_strides q) (offset vdb leaf_level q) v.0.0 v.0.1.0 v.0.1.1 element index
    where
      by : (e f x y z : ℕ) → e ≡ 0 + x * 64 + y * 8 + z * 1 → f ≡ o + 64 * x + 8 * y + z → o + e ≡ f
      by e f x y z h k = omega (arith, h, k)

  pub entry_below : (q : Coord) → IsTrue (is_inside part q) → o + place part leaf_strides q < 512
  entry_below q i = subst (λ (n : ℕ). n < 512) (sym (entry_from q i)) (offset_below vdb leaf_level q)

-- ---- the leaf afterwards

module _ {V I : Type 0} (Within : I → Type 0) (entry : I → ℕ) (cell : I → Cell V) (old : ℕ → Cell V) (background : V) (leaf : Leaf V) (d : Cell V) (blank : Bool) (h : HasCells Within entry cell old (cells_of background blank leaf d)) where
  pub as_blank : blank ≡ true → HasCells Within entry cell old (λ i. off background)
  as_blank e = subst (λ (b : Bool). HasCells Within entry cell old (cells_of background b leaf d)) e h

  pub as_laid : blank ≡ false → HasCells Within entry cell old (cell_in d leaf)
  as_laid e = subst (λ (b : Bool). HasCells Within entry cell old (cells_of background b leaf d)) e h
