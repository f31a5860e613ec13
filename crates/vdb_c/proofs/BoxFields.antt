-- Fields that a call writes voxel by voxel.
use Rattle.vdb_c.proofs.Common.{◌≡◌, refl, sym, ap, ◌∙◌, subst, Bool, true, false, cond, IsTrue, ℕ, ◌+◌, ◌&&◌, tests, rules, Option, Some, nat_lt, Box, coord_eq, everywhere, is_inside, volume, Coord, coord_exact, Cell, Field, as_cell_of, as_field_of, field, write, written, Write, cell_inside, same_cells, Scalar, is_first, rank, with_writes, written_any}
use Rattle.vdb_c.proofs.Ranks.{first_all, first_not, first_now, first_other}

twice : {V : Type 0} (background : V) (c : Coord → Cell V) → field background (field background c).cell ≡ field background c
twice background c = same_cells background (field background c).cell c (λ p i. cell_inside background c p i)

module _ (b : Box) (change : Coord → Option (Write Scalar)) where
  first_none : (q : Coord) → is_first b 0 q ≡ false
  first_none q = by (is_inside b q)
    where
      by : (c : Bool) → (c && nat_lt (rank b q) 0) ≡ false
      by true = search (rules, tests)
      by false = refl

  pub writes_none : {V : Type 0} (make : V → Scalar) (g : Field V) (n : ℕ) → n ≡ 0 → as_field_of make g ≡ with_writes (is_first b n) change (as_field_of make g)
  writes_none make g n e =
      let f = as_field_of make g in
      rw e
      (sym
      (same_cells f.background (λ q. cond (is_first b 0 q) (written_any (change q) (f.cell q)) (f.cell q)) f.cell (λ q _. rw (first_none q) refl)
      ∙ twice (make g.background) (λ q. as_cell_of make (g.cell q))))

  module _ (f : Field Scalar) where
    pub writes_all : (n : ℕ) → n ≡ volume b → with_writes (is_first b n) change f ≡ with_writes (is_inside b) change f
    writes_all n e = same_cells f.background _ _ (λ q _. ap (λ (c : Bool). cond c (written_any (change q) (f.cell q)) (f.cell q)) (rw e (by q (is_inside b q) refl)))
      where
        by : (q : Coord) (c : Bool) → is_inside b q ≡ c → is_first b (volume b) q ≡ is_inside b q
        by q true i = first_all b q i ∙ sym i
        by q false i = rw i refl

    module _ (p : Coord) (inside : IsTrue (is_inside b p)) (n : ℕ) (e : n ≡ rank b p) (w : Write Scalar) (is : change p ≡ Some w) where
      abbrev so_far : Field Scalar
      so_far = with_writes (is_first b n) change f

      cell_at : (q : Coord) → IsTrue (is_inside everywhere q) → so_far.cell q ≡ cond (is_first b n q) (written_any (change q) (f.cell q)) (f.cell q)
      cell_at q i = cell_inside f.background (λ r. cond (is_first b n r) (written_any (change r) (f.cell r)) (f.cell r)) q i

      here : IsTrue (is_inside everywhere p) → written w (so_far.cell p) ≡ cond (is_first b (n + 1) p) (written_any (change p) (f.cell p)) (f.cell p)
      here i =
          let before : so_far.cell p ≡ f.cell p = cell_at p i ∙ rw (first_not b p inside n e) refl in
          ap (written w) before ∙ sym (rw (first_now b p inside n e, is) refl)

      at : (q : Coord) → IsTrue (is_inside everywhere q) → (c : Bool) → coord_eq p q ≡ c
          → cond c (written w (so_far.cell q)) (so_far.cell q) ≡ cond (is_first b (n + 1) q) (written_any (change q) (f.cell q)) (f.cell q)
      at q i true same =
          let there : p ≡ q = coord_exact p q same in
          subst (λ (r : Coord). IsTrue (is_inside everywhere r) → written w (so_far.cell r) ≡ cond (is_first b (n + 1) r) (written_any (change r) (f.cell r)) (f.cell r)) there here i
      at q i false other = cell_at q i ∙ ap (λ (c : Bool). cond c (written_any (change q) (f.cell q)) (f.cell q)) (sym (first_other b p inside n e q other))

      pub writes_next : write p w (with_writes (is_first b n) change f) ≡ with_writes (is_first b (n + 1)) change f
      writes_next = same_cells f.background (λ q. cond (coord_eq p q) (written w (so_far.cell q)) (so_far.cell q)) (λ q. cond (is_first b (n + 1) q) (written_any (change q) (f.cell q)) (f.cell q)) (λ q i. at q i (coord_eq p q) refl)
