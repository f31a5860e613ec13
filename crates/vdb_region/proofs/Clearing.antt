-- Clearing what lies beyond faces, one face after another.
use Rattle.vdb_region.proofs.Common.{◌≡◌, ◌∙◌, sym, refl, ap, length, true, false, Bool, not, ◌&&◌, ◌||◌, List, ◌≤◌, list_any, faces, Box, everywhere, is_inside, Bits, Coord, Leaf, Lower, Upper, Face, and_true, Field, clip, fill, off, roots, never, Cell, clear, is_beyond, hull}
use Rattle.std.proofs.Common.{cond, [], ◌∷◌}
use Rattle.vdb_coord.specs.Blocks.{block, block_numbers}
use Rattle.vdb_coord.proofs.CountBounds.{count_at_most, member_passing}
use Rattle.vdb_tree.specs.Field.{field}
use Rattle.vdb_tree.specs.ConstantBlocks.{is_background, root_keys}
use Rattle.vdb_tree.proofs.Fields.{cell_inside, same_cells}
use Rattle.vdb_tree.proofs.Rooted.{not_from, was_false}
use Rattle.vdb_tree.proofs.Uniform.{uniform_cells, uniform_from}
use Rattle.vdb_region.proofs.Halves.{beyond_all}
use Rattle.vdb_region.proofs.Hulls.{hull_holds}

module _ {V : Type 0} (background : V) (cells : Coord → Cell V) where
  abbrev f : Field V
  f = field background cells

  either : {A : Type 0} (s o t r : Bool) (x y : A) → s ≡ (o && t) → cond s x (cond (o && r) x y) ≡ cond (o && (t || r)) x y
  either s true true r x y e = rw e refl
  either s true false r x y e = rw e refl
  either s false t r x y e = rw e refl

  neither : {A : Type 0} (o t r : Bool) (x y : A) → (o && t) ≡ false → cond (o && r) x y ≡ cond (o && (t || r)) x y
  neither true t r x y e = rw e refl
  neither false t r x y e = refl

  empty : (fs : List Face) → length fs ≡ 0 → fs ≡ []
  empty [] e = refl
  empty (face ∷ fs) e = cc

  none : {A : Type 0} (o : Bool) (x y : A) → y ≡ cond (o && false) x y
  none true x y = refl
  none false x y = refl

  module _ (out inn : Box) where
    -- with no face left, nothing is cleared
    pub clear_none : (fs : List Face) → length fs ≡ 0 → f ≡ clear out inn fs f
    clear_none fs e = same_cells background cells (λ q. cond (is_inside out q && false) (off background) (f.cell q)) (λ q inside. sym (cell_inside background cells q inside) ∙ none (is_inside out q) (off background) (f.cell q)) ∙ ap (λ gs. clear out inn gs f) (sym (empty fs e))

    module _ (face : Face) (rest : List Face) where
      abbrev others : Coord → Cell V
      others q = cond (is_inside out q && list_any (is_beyond inn q) rest) (off background) (f.cell q)

      -- the side of one more face is filled, after those of the later faces
      pub clear_next : (s : Box) → ((q : Coord) → is_inside s q ≡ (is_inside out q && is_beyond inn q face)) → fill s (off background) (clear out inn rest f) ≡ clear out inn (face ∷ rest) f
      clear_next s same = same_cells background _ _ (λ q inside.
          let at = cell_inside background others q inside in
          rw at (either (is_inside s q) (is_inside out q) (is_beyond inn q face) (list_any (is_beyond inn q) rest) (off background) (f.cell q) (same q)))

      -- the side of one more face is empty
      pub clear_skip : ((q : Coord) → (is_inside out q && is_beyond inn q face) ≡ false) → clear out inn rest f ≡ clear out inn (face ∷ rest) f
      clear_skip none = same_cells background _ _ (λ q inside. neither (is_inside out q) (is_beyond inn q face) (list_any (is_beyond inn q) rest) (off background) (f.cell q) (none q))

  -- all rings together, from the outermost on
  ring : {A : Type 0} (b f l r e : Bool) (x y : A) → e ≡ true → (b ≡ true → f ≡ true) → (b ≡ true → l ≡ true) → (b ≡ true → r ≡ true)
      → cond (f && not b) x (cond (l && not f) x (cond (r && not l) x (cond (e && not r) x y))) ≡ cond b y x
  ring b f l r false x y h p q s = absurd (never refl h)
  ring true f l r true x y h p q s = let g = p refl in let k = q refl in let m = s refl in rw (g, k, m) refl
  ring false true l r true x y h p q s = refl
  ring false false true r true x y h p q s = refl
  ring false false false true true x y h p q s = refl
  ring false false false false true x y h p q s = refl

  module _ (bits : Bits) (b : Box) where
    abbrev around : Field V
    around = clear everywhere (hull bits Upper b) faces f

    abbrev roots_left : Field V
    roots_left = clear (hull bits Upper b) (hull bits Lower b) faces around

    abbrev lowers_left : Field V
    lowers_left = clear (hull bits Lower b) (hull bits Leaf b) faces roots_left

    pub clear_all : clear (hull bits Leaf b) b faces lowers_left ≡ clip b f
    clear_all = same_cells background _ _ (λ q inside.
        let upper = beyond_all (hull bits Upper b) q in
        let lower = beyond_all (hull bits Lower b) q in
        let leaf = beyond_all (hull bits Leaf b) q in
        let own = beyond_all b q in
        rw (upper, lower, leaf, own, inside)
        (ring (is_inside b q) (is_inside (hull bits Leaf b) q) (is_inside (hull bits Lower b) q) (is_inside (hull bits Upper b) q) true (off background) (cells q) refl
        (hull_holds bits b Leaf q) (hull_holds bits b Lower q) (hull_holds bits b Upper q)))

-- the number of root blocks with anything but the background doesn't grow if none gets such a cell
pub fewer_roots : {V : Type 0} (eq : V → V → Bool) (bits : Bits) (f g : Field V)
    → ((k : Coord) → is_background eq f (block bits Upper k) ≡ true → is_background eq g (block bits Upper k) ≡ true) → roots eq bits g ≤ roots eq bits f
fewer_roots eq bits f g h =
    count_at_most (block_numbers bits Upper) (λ n. not (is_background eq g (block bits Upper n))) (root_keys eq bits f)
    (λ k inside n. member_passing (block_numbers bits Upper) (λ n. not (is_background eq f (block bits Upper n))) k ∙ and_true _ _ inside (not_from _ (non_background (is_background eq f (block bits Upper k)) (h k) (was_false _ n))))
  where
    non_background : (s : Bool) {t : Bool} → (s ≡ true → t ≡ true) → t ≡ false → s ≡ false
    non_background true imp e = absurd (never e (imp refl))
    non_background false imp e = refl

cut : {V : Type 0} (v : V) (i j : Bool) (x : Cell V) → x ≡ off v → cond i (cond j x (off v)) (off v) ≡ off v
cut v true true x e = e
cut v true false x e = refl
cut v false j x e = refl

-- a clipped field has no more root blocks with anything but the background
pub clip_within : {V : Type 0} (eq : V → V → Bool) (exact : (x y : V) → eq x y ≡ true → x ≡ y) (itself : (x : V) → eq x x ≡ true) (bits : Bits) (b : Box) (background : V) (cells : Coord → Cell V)
    → roots eq bits (clip b (field background cells)) ≤ roots eq bits (field background cells)
clip_within eq exact itself bits b background cells =
    let f = field background cells in
    fewer_roots eq bits f (clip b f) (λ k background_cell.
    uniform_from eq exact itself (clip b f) (block bits Upper k) (off background) (λ p inside. cut background (is_inside everywhere p) (is_inside b p) (f.cell p) (uniform_cells eq exact itself f (block bits Upper k) (off background) background_cell p inside)))
