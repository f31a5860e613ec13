-- Voxels of a leaf that are painted.
use Rattle.vdb_tree.proofs.Common.{◌≡◌, ◌⊎◌, inl, inr, ℕ, ℤ, pos, ◌+◌, ◌<◌, ◌≤◌, ◌+ℤ◌, ◌<ℤ◌, ◌≤ℤ◌, SFits, arith, of_z, to_z, w32, true, false, refl, sym, ap, subst, ◌∙◌, IsTrue, Some, None, ints, to_z-of_z, block_number, offset, number_at, Box, coord, is_box, is_inside, IsBefore, IsBlockBefore, IsNextBlock, Bits, Coord, Leaf, which_before, entry_number_leaf, min_inside, none_before, cell_in, Cell, IsRun, PaintsVoxels}
use lib.Signed.{lt_z}
use Rattle.vdb_coord.specs.Components.{last_of}
use Rattle.vdb_coord.proofs.BlockOrder.{before_not_past, before_not_same}
use Rattle.vdb_coord.proofs.Walk.{next_x, next_y, next_z, no_next}
use Rattle.vdb_node.specs.Leaf.{FillsRun, Leaf as LeafOf}
use Rattle.vdb_tree.specs.internal.Paints.{voxels}
use Rattle.vdb_tree.proofs.Pools.{below_or}
use Rattle.vdb_tree.proofs.VoxelRuns.{in_run_of_offset, offset_in_run}

-- for these bits each coordinate is a block of its own
own_block : (p q : Coord) → block_number voxels Leaf p ≡ block_number voxels Leaf q → p ≡ q
own_block p q e = sym (entry_number_leaf voxels p) ∙ e ∙ entry_number_leaf voxels q

-- ---- the next coordinate

own_last : (x : ℤ) → last_of 0 (number_at 0 x) ≡ x
own_last x = let e : number_at 0 x ≡ x = ap (λ (p : Coord). p.x) (entry_number_leaf voxels (coord x x x)) in rw e (grind (arith, ints))

-- the number after one that is below another fits
pub bumped : (x m : ℤ) → SFits w32 x → SFits w32 m → lt_z (to_z w32 (of_z w32 x)) (to_z w32 (of_z w32 m)) ≡ true
    → (to_z w32 (of_z w32 (to_z w32 (of_z w32 x) +ℤ pos 1)) ≡ x +ℤ pos 1) × (x <ℤ m) × SFits w32 (x +ℤ pos 1)
bumped x m fx fm h =
    let less : x <ℤ m = let k = simp to_z-of_z at h in grind (arith, ints) in
    let fits : SFits w32 (x +ℤ pos 1) = grind (arith, ints) in
    (simp to_z-of_z, less, fits)

pub covered : (x m : ℤ) → SFits w32 x → SFits w32 m → lt_z (to_z w32 (of_z w32 x)) (to_z w32 (of_z w32 m)) ≡ false → m ≤ℤ x
covered x m fx fm h = let k = simp to_z-of_z at h in grind (arith, ints)

-- a number of 32 bits isn't above the greatest
pub greatest : (x : ℤ) → SFits w32 x → x ≤ℤ pos 2147483647
greatest x h = grind (arith, ints)

pub behind : (x : ℤ) → x <ℤ (x +ℤ pos 1)
behind x = omega (arith, ints)

module _ (part : Box) (p : Coord) (inside : is_inside part p ≡ true) where
  pub next_along_z : p.z <ℤ part.max.z → IsNextBlock voxels Leaf part p (Some (coord p.x p.y (p.z +ℤ pos 1)))
  next_along_z h = let e = own_last p.z in let next = next_z voxels Leaf part p inside (rw e h) in rw e at next

  pub next_along_y : part.max.z ≤ℤ p.z → p.y <ℤ part.max.y → IsNextBlock voxels Leaf part p (Some (coord p.x (p.y +ℤ pos 1) part.min.z))
  next_along_y z h = let e = own_last p.y in let f = own_last p.z in let next = next_y voxels Leaf part p inside (rw f z) (rw e h) in rw e at next

  pub next_along_x : part.max.z ≤ℤ p.z → part.max.y ≤ℤ p.y → p.x <ℤ part.max.x → IsNextBlock voxels Leaf part p (Some (coord (p.x +ℤ pos 1) part.min.y part.min.z))
  next_along_x z y h = let e = own_last p.x in let f = own_last p.y in let g = own_last p.z in let next = next_x voxels Leaf part p inside (rw g z) (rw f y) (rw e h) in rw e at next

  pub none_along : part.max.z ≤ℤ p.z → part.max.y ≤ℤ p.y → part.max.x ≤ℤ p.x → IsNextBlock voxels Leaf part p None
  none_along z y x = let e = own_last p.x in let f = own_last p.y in let g = own_last p.z in no_next voxels Leaf part p inside (rw g z) (rw f y) (rw e x)

-- ---- the walk

-- an index lies within a run of indexes, before it or past it
side : (from to i : ℕ) → (from ≤ i) × (i < to) ⊎ ((i < from) ⊎ (to ≤ i))
side from to i = elim (below_or i from) [
  | inl less ↦ inr (inl less)
  | inr more ↦ elim (below_or i to) [
    | inl less ↦ inl (more, less)
    | inr past ↦ inr (inr past)
  ]
]

-- if each coordinate is a block of its own, blocks have the order of coordinates
background_before : (a b : Coord) → IsBlockBefore voxels Leaf a b → IsBefore a b
background_before a b h = let e = entry_number_leaf voxels a in let f = entry_number_leaf voxels b in subst (λ (t : Coord). IsBefore t b) e (subst (λ (t : Coord). IsBefore (block_number voxels Leaf a) t) f h)

block_before : (a b : Coord) → IsBefore a b → IsBlockBefore voxels Leaf a b
block_before a b h = let e = entry_number_leaf voxels a in let f = entry_number_leaf voxels b in subst (λ (t : Coord). IsBefore t (block_number voxels Leaf b)) (sym e) (subst (λ (t : Coord). IsBefore a t) (sym f) h)

-- a coordinate up to the last of a run doesn't come after it
not_after : (last q : Coord) → IsBlockBefore voxels Leaf q last ⊎ (block_number voxels Leaf q ≡ block_number voxels Leaf last) → IsBefore last q → ⊥
not_after last q h past = elim h [
  | inl before ↦ before_not_past q last (background_before q last before) past
  | inr same ↦ before_not_same last q past (sym (own_block q last same))
]

-- a coordinate up to the end of a run is in it, or comes before it
run_or_before : (p q : Coord) → (IsBefore q p → ⊥) ⊎ IsBlockBefore voxels Leaf q p
run_or_before p q = elim (which_before q p) [
  | inl before ↦ inr (block_before q p before)
  | inr r ↦ elim r [
    | inl e ↦ inl (λ before. before_not_same q p before e)
    | inr past ↦ inl (λ before. before_not_past q p before past)
  ]
]

module _ {V : Type 0} (bits : Bits) (part : Box) (cell : Cell V) where
  -- the coordinates of the part before this one are painted
  pub record PaintsVoxelsTo (old new : LeafOf V) (p : Coord) : Type 0 where
    pub inside : IsTrue (is_inside part p)
    pub done : (q : Coord) → IsTrue (is_inside part q) → IsBlockBefore voxels Leaf q p → (d : Cell V) → cell_in d new (offset bits Leaf q) ≡ cell
    pub others : (i : ℕ) → ((q : Coord) → IsTrue (is_inside part q) → offset bits Leaf q ≡ i → ⊥) → (d : Cell V) → cell_in d new i ≡ cell_in d old i

  pub voxels_none : (leaf : LeafOf V) → is_box part ≡ true → PaintsVoxelsTo leaf leaf part.min
  voxels_none leaf is = record { inside = min_inside part is; done = λ q inside before. absurd (none_before voxels Leaf part q inside before); others = λ i none d. refl }

  module _ (old mid new : LeafOf V) (p : Coord) (so_far : PaintsVoxelsTo old mid p) (last : Coord) (run : IsRun bits part p last)
      (fills : FillsRun mid new (offset bits Leaf p) (offset bits Leaf last + 1) cell) where
    up_to : (q : Coord) → IsTrue (is_inside part q) → IsBlockBefore voxels Leaf q last ⊎ (block_number voxels Leaf q ≡ block_number voxels Leaf last) → (d : Cell V) → cell_in d new (offset bits Leaf q) ≡ cell
    up_to q inside h d = elim (run_or_before p q) [
      | inl from ↦ let at = offset_in_run bits part p last run q inside from (not_after last q h) in fills.changed d (offset bits Leaf q) at.0 at.1
      | inr before ↦ elim (side (offset bits Leaf p) (offset bits Leaf last + 1) (offset bits Leaf q)) [
        | inl within ↦ fills.changed d (offset bits Leaf q) within.0 within.1
        | inr out ↦ elim out [
          | inl less ↦ fills.before d (offset bits Leaf q) less ∙ so_far.done q inside before d
          | inr more ↦ fills.after d (offset bits Leaf q) more ∙ so_far.done q inside before d
        ]
      ]
    ]

    others_stay : (j : ℕ) → ((q : Coord) → IsTrue (is_inside part q) → offset bits Leaf q ≡ j → ⊥) → (d : Cell V) → cell_in d new j ≡ cell_in d old j
    others_stay j none d = elim (side (offset bits Leaf p) (offset bits Leaf last + 1) j) [
      | inl within ↦ absurd (let at = in_run_of_offset bits part p last run j within.0 within.1 in none at.0 at.1 at.2)
      | inr out ↦ elim out [
        | inl less ↦ fills.before d j less ∙ so_far.others j none d
        | inr more ↦ fills.after d j more ∙ so_far.others j none d
      ]
    ]

    pub voxels_next : (next : Coord) → IsNextBlock voxels Leaf part last (Some next) → PaintsVoxelsTo old new next
    voxels_next next h = record { inside = h.0; done = λ q inside before. up_to q inside (h.2 q inside before); others = others_stay }

    pub voxels_all : IsNextBlock voxels Leaf part last None → PaintsVoxels bits part cell old new
    voxels_all h = record { painted = λ q inside. up_to q inside (h q inside); others = others_stay }
