-- A search in a block, by its tiles or voxel by voxel.
use Rattle.vdb_composite.proofs.Common.{◌≡◌, ◌≢◌, ◌⊎◌, inl, inr, sym, ap, ◌∙◌, ℕ, ◌+◌, ◌<◌, ◌≤◌, Bool, true, not, arith, IsTrue, Option, Some, block_around, entries, offset, Box, is_inside, Bits, Coord, Leaf, offset_below, Cell, Field, mixed_cell, Blend, Mix, never}
use Rattle.vdb_coord.proofs.Loops.{corner}
use Rattle.vdb_coord.proofs.Nesting.{corner_of_entry}
use Rattle.vdb_tree.specs.ConstantBlocks.{cell_eq}
use Rattle.vdb_composite.specs.Mixes.{Meets, Misses}
use Rattle.vdb_composite.specs.declared.search.Sought.{Sought}
use Rattle.vdb_composite.proofs.MixLeaves.{in_leaf_block}
use Rattle.vdb_composite.proofs.Mixed.{some_same}
use Rattle.vdb_tree.proofs.Uniform.{cell_itself}

-- another cell is found by the test for equal ones
pub is_other : {V : Type 0} (eq : V → V → Bool) (exact : (x y : V) → eq x y ≡ true → x ≡ y) (itself : (x : V) → eq x x ≡ true) (one cell : Cell V) → not (cell_eq eq one cell) ≡ true
    → ◌≢◌ {A = Option (Cell V)} (Some one) (Some cell)
is_other eq exact itself one cell other e =
    let same = some_same one cell e in
    never (ap not (ap (cell_eq eq one) (sym same) ∙ cell_itself eq exact itself one)) other

earlier_or_here : (a i : ℕ) → a < i + 1 → (a < i) ⊎ (a ≡ i)
earlier_or_here a i h = grind arith

module _ {V : Type 0} (blend : Blend → V → V → Option V) (bits : Bits) (box : Box) (mix : Mix) (sought : Sought V) (f g : Field V) where
  -- no voxel of the box at an index below this combines to what the search looks for
  abbrev pub MissesBelow : ℕ → Type 0
  MissesBelow n = (q : Coord) → IsTrue (is_inside box q) → offset bits Leaf q < n → Misses sought (mixed_cell blend mix (f.cell q) (g.cell q))

  pub misses_none : MissesBelow 0
  misses_none q i h = absurd (below _ h)
    where
      below : (n : ℕ) → n < 0 → ⊥
      below n h = omega (arith, h)

  module _ (n : ℕ) (a b : Cell V) (first : (q : Coord) → IsTrue (is_inside box q) → offset bits Leaf q ≡ n → f.cell q ≡ a) (second : (q : Coord) → IsTrue (is_inside box q) → offset bits Leaf q ≡ n → g.cell q ≡ b) where
    pub misses_next : MissesBelow n → Misses sought (mixed_cell blend mix a b) → MissesBelow (n + 1)
    misses_next so_far here q i h =
        elim (earlier_or_here (offset bits Leaf q) n h) [
          | inl k ↦ so_far q i k
          | inr e ↦ rw (first q i e, second q i e) here
        ]

    pub meets_here : box ≡ block_around bits Leaf box.min → n < entries bits Leaf → Meets sought (mixed_cell blend mix a b) → (q : Coord) × IsTrue (is_inside box q) × Meets sought (mixed_cell blend mix (f.cell q) (g.cell q))
    meets_here block small here =
        let q = corner bits Leaf box.min n in
        let at = corner_of_entry bits Leaf box.min n small in
        let i = in_leaf_block bits box block q at.0 in
        (q, i, rw (first q i at.1, second q i at.1) here)

  pub misses_all : (n : ℕ) → entries bits Leaf ≤ n → MissesBelow n → (q : Coord) → IsTrue (is_inside box q) → Misses sought (mixed_cell blend mix (f.cell q) (g.cell q))
  misses_all n end so_far q i = let k = offset_below bits Leaf q in so_far q i (omega (arith, k, end))
