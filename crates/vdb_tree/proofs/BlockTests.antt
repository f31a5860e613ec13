-- Tests of whether a block has one cell all over.
use Rattle.vdb_tree.proofs.Common.{◌≡◌, ℕ, ◌<◌, Bool, true, false, arith, refl, sym, ap, subst, ◌∙◌, IsTrue, ◌↔◌, Option, Some, None, block_number, offset, entry_number, Bits, Coord, Level, Lower, Upper, block_from_entry, entry_from_offset, offset_from_entry, Child, Tile, Cell, IsConstantAt, IsConstantBlock, Layout, cell_at, entry_over, root_entry, upper_entry, cell_eq}
use Rattle.vdb_tree.proofs.Descents.{root_by_block, upper_by_block}
use Rattle.vdb_tree.proofs.Needed.{tile_block}
use Rattle.vdb_tree.proofs.Uniform.{cell_exact, cell_itself}

false_true : false ≡ true → ⊥
false_true e = cc

same_some : {A : Type 0} (x y : A) → ◌≡◌ {A = Option A} (Some x) (Some y) → x ≡ y
same_some x y e = cc

none_is_some : {A : Type 0} (x : A) → ◌≡◌ {A = Option A} None (Some x) → ⊥
none_is_some x e = cc

module _ {V : Type 0} (eq : V → V → Bool) (exact : (x y : V) → eq x y ≡ true → x ≡ y) (itself : (x : V) → eq x x ≡ true) (bits : Bits) (t : Layout V) where
  -- the test by a tile's cell
  pub tile_test : (level : Level) (p : Coord) (tile cell : Cell V) (same : Bool) → entry_over bits level t p ≡ Tile tile → same ≡ cell_eq eq tile cell → IsTrue same ↔ IsConstantBlock bits level t p cell
  tile_test level p tile cell same over e = (
    (λ h. subst (IsConstantBlock bits level t p) (cell_exact eq exact itself tile cell (sym e ∙ h)) (tile_block bits t level p tile over)),
    (λ h.
        let one : tile ≡ cell = sym (tile_block bits t level p tile over p refl) ∙ h p refl in
        e ∙ ap (cell_eq eq tile) (sym one) ∙ cell_itself eq exact itself tile),
  )

  -- the test by a leaf's one cell
  pub one_test : (level : Level) (p : Coord) (one cell : Cell V) (o : Option (Cell V)) (same : Bool) → o ≡ Some one → ((c : Cell V) → (o ≡ Some c) ↔ IsConstantBlock bits level t p c) → same ≡ cell_eq eq one cell
      → IsTrue same ↔ IsConstantBlock bits level t p cell
  one_test level p one cell o same was found e = (
    (λ h. subst (IsConstantBlock bits level t p) (cell_exact eq exact itself one cell (sym e ∙ h)) ((found one).0 was)),
    (λ h.
        let other : one ≡ cell = same_some one cell (sym was ∙ (found cell).1 h) in
        e ∙ ap (cell_eq eq one) (sym other) ∙ cell_itself eq exact itself one),
  )

module _ {V : Type 0} (bits : Bits) (t : Layout V) where
  -- the test by a leaf without one cell
  pub none_test : (level : Level) (p : Coord) (cell : Cell V) (o : Option (Cell V)) → o ≡ None → ((c : Cell V) → (o ≡ Some c) ↔ IsConstantBlock bits level t p c) → IsTrue false ↔ IsConstantBlock bits level t p cell
  none_test level p cell o was found = ((λ h. absurd (false_true h)), (λ h. absurd (none_is_some cell (sym was ∙ (found cell).1 h))))

  -- the cells of p's block of the level at entries below an index
  abbrev pub IsConstantBelow : Level → Coord → Cell V → ℕ → Type 0
  IsConstantBelow level p cell n = (q : Coord) → block_number bits level q ≡ block_number bits level p → offset bits level q < n → cell_at bits t q ≡ cell

  -- the cells of p's entry of the level's node
  abbrev pub IsConstantEntry : Level → Coord → Cell V → Type 0
  IsConstantEntry level p cell = (q : Coord) → entry_number bits level q ≡ entry_number bits level p → cell_at bits t q ≡ cell

  module _ (level : Level) (p : Coord) (cell : Cell V) where
    pub none_below : IsConstantBelow level p cell 0
    none_below q b h = absurd (never _ h)
      where
        never : (n : ℕ) → n < 0 → ⊥
        never n h = omega (arith, h)

    -- an entry that doesn't have the cell
    pub entry_differs : (i : ℕ) → (same : Bool) → same ≡ false → (IsTrue same ↔ IsConstantAt bits level t p i cell) → IsTrue false ↔ IsConstantBlock bits level t p cell
    entry_differs i same was test = ((λ h. absurd (false_true h)), (λ h. absurd (false_true (sym was ∙ test.1 (λ q b o. h q b)))))

    -- the test of an entry, by the test at a coordinate in it
    pub entry_test : (i : ℕ) (c : Coord) → block_number bits level c ≡ block_number bits level p → offset bits level c ≡ i → (same : Bool) → (IsTrue same ↔ IsConstantEntry level c cell) → IsTrue same ↔ IsConstantAt bits level t p i cell
    entry_test i c in_block at same test = (
      (λ h q b o. test.0 h q (entry_from_offset bits level q c (b ∙ sym in_block) (o ∙ sym at))),
      (λ h. test.1 (λ q e. h q (block_from_entry bits level q c e ∙ in_block) (offset_from_entry bits level q c e ∙ at))),
    )

  -- a coordinate of a node lies below it
  pub same_root : (p : Coord) (s : ℕ) (c : Coord) → block_number bits Upper c ≡ block_number bits Upper p → root_entry bits t p ≡ Child s → root_entry bits t c ≡ Child s
  same_root p s c e child = root_by_block bits t c p e ∙ child

  pub same_upper : (p : Coord) (s : ℕ) (c : Coord) → block_number bits Lower c ≡ block_number bits Lower p → upper_entry bits t p ≡ Child s → upper_entry bits t c ≡ Child s
  same_upper p s c e child = upper_by_block bits t c p e ∙ child
