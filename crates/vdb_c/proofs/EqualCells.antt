-- Values, leaves and trees compared.
use Rattle.vdb_c.proofs.Common.{◌≡◌, ◌⊎◌, ◌<◌, ◌≤◌, ◌+◌, ◌-◌, ◌*◌, ◌^◌, ◌∙◌, inl, inr, ap, refl, subst, sym, arith, ℕ, Bool, false, true, List, get_or, length, IsTrue, not, vdb, Leaf, Box, Coord, everywhere, is_inside, offset, Cell, cell_in, Field, field, off, Layout, cell_at, field_of, IsPartOfLeaf, cell_inside, same_cells}
use Rattle.std.specs.Prelude.{◌↔◌}
use Rattle.std.proofs.lemmas.List.{get_or_default}
use Rattle.vdb_coord.proofs.Loops.{corner}
use Rattle.vdb_coord.proofs.Nesting.{corner_of_entry}
use Rattle.vdb_coord.proofs.Positions.{offset_below}
use Rattle.vdb_coord.specs.Blocks.{block_around}
use Rattle.vdb_mask.proofs.WordBits.{same_from_has_bit}
use Rattle.vdb_mask.specs.Mask.{has_bit, is_on}
use Rattle.vdb_node.specs.Leaf.{Leaf as LeafOf}
use Rattle.vdb_composite.proofs.MixLeaves.{in_leaf_block}
use Rattle.vdb_tree.proofs.Blocks.{never}
use Rattle.vdb_tree.proofs.Uniform.{cell_exact, cell_same}
use Rattle.vdb_tree.specs.ConstantBlocks.{cell_eq}
use Rattle.vdb_tree.specs.Pairs.{IsBackgroundInBoth}
use Rattle.vdb_c.specs.Equality.{AreEqualIn, AreEqualRuns}

-- a test that fails, of what doesn't hold
pub refuted : {P : Type 0} (b : Bool) → b ≡ false → (P → ⊥) → IsTrue b ↔ P
refuted b fails other = (λ holds. absurd (never fails holds), λ p. absurd (other p))

-- ---- values

module _ {V : Type 0} (a b : List V) (i : ℕ) (x y : V) (is_x : x ≡ get_or a i x) (is_y : y ≡ get_or b i y) (fits : i < length b) where
  pub same_elements : ((d : V) → get_or a i d ≡ get_or b i d) → x ≡ y
  same_elements same = is_x ∙ same x ∙ get_or_default b i x y fits ∙ sym is_y

  pub elements_same : i < length a → x ≡ y → (d : V) → get_or a i d ≡ get_or b i d
  elements_same small same d = get_or_default a i d x small ∙ sym is_x ∙ same ∙ is_y ∙ get_or_default b i y d fits

earlier_or_here : (a i : ℕ) → a < i + 1 → (a < i) ⊎ (a ≡ i)
earlier_or_here a i h = grind arith

-- equal values at one index more
pub one_more : {V : Type 0} (a b : List V) (i : ℕ) → ((j : ℕ) → j < i → (d : V) → get_or a j d ≡ get_or b j d) → ((d : V) → get_or a i d ≡ get_or b i d) → (j : ℕ) → j < i + 1 → (d : V) → get_or a j d ≡ get_or b j d
one_more a b i before here j h d = elim (earlier_or_here j i h) [
  | inl l ↦ before j l d
  | inr e ↦ rw e (here d)
]

-- ---- leaves

module _ {V : Type 0} (a : LeafOf V) where
  -- the cell that each voxel has
  pub without_default : (cell : Cell V) → length a.values ≡ 512 → (d : Cell V) → ((i : ℕ) → i < 512 → cell_in d a i ≡ cell) → (e : Cell V) (i : ℕ) → i < 512 → cell_in e a i ≡ cell
  without_default cell len d all e i h =
      let value = get_or_default a.values i e.value d.value (omega (arith, h, len)) ∙ ap (λ (c : Cell V). c.value) (all i h) in
      let state = ap (λ (c : Cell V). c.on) (all i h) in
      λ t. record { value = value t; on = state t }

  pub constant_same : (eq : V → V → Bool) (exact : (x y : V) → eq x y ≡ true → x ≡ y) (itself : (x : V) → eq x x ≡ true) (one cell : Cell V)
      → ((d : Cell V) (i : ℕ) → i < 512 → cell_in d a i ≡ one) → (d : Cell V) (t : Bool) → t ≡ cell_eq eq one cell → IsTrue t ↔ ((i : ℕ) → i < 512 → cell_in d a i ≡ cell)
  constant_same eq exact itself one cell is_one d t is = (
    λ holds. let same = cell_exact eq exact itself one cell (sym is ∙ holds) in λ i h. is_one d i h ∙ same,
    λ all. let some : 0 < 512 = omega arith in is ∙ cell_same eq exact itself one cell (sym (is_one d 0 some) ∙ all 0 some),
  )

module _ {V : Type 0} (d e : Cell V) (a b : LeafOf V) where
  pub no_run : AreEqualRuns 0 0 d e a b
  no_run i g h = absurd (below i h)
    where
      below : (n : ℕ) → n < 0 → ⊥
      below n h = omega (arith, h)

  before_or_from : (i n : ℕ) → (i < n) ⊎ (n ≤ i)
  before_or_from i n = grind arith

  -- 64 more
  pub more_runs : (k : ℕ) → AreEqualRuns 0 (64 * k) d e a b → AreEqualRuns (64 * k) (64 * k + 64) d e a b → AreEqualRuns 0 (64 * (k + 1)) d e a b
  more_runs k below run i g h = elim (before_or_from i (64 * k)) [
    | inl l ↦ below i g l
    | inr m ↦ run i m (omega (arith, h))
  ]

  -- the 64 from an index on
  pub run_of : (k : ℕ) → k < 8 → AreEqualRuns 0 512 d e a b → AreEqualRuns (64 * k) (64 * k + 64) d e a b
  run_of k small all i g h = all i (omega arith) (omega (arith, small, h))

  module _ (k w v : ℕ) (first : (j : ℕ) → j < 64 → is_on a.states (64 * k + j) ≡ has_bit w j) (second : (j : ℕ) → j < 64 → is_on b.states (64 * k + j) ≡ has_bit v j) where
    -- equal cells have equal words of states
    pub words_same : w < 2 ^ 64 → v < 2 ^ 64 → AreEqualRuns (64 * k) (64 * k + 64) d e a b → w ≡ v
    words_same fits_w fits_v run =
        same_from_has_bit w v fits_w fits_v (λ j h. sym (first j h) ∙ ap (λ (c : Cell V). c.on) (run (64 * k + j) (omega arith) (omega (arith, h))) ∙ second j h)

    -- equal words and equal values are equal cells
    pub runs_same : w ≡ v → ((j : ℕ) → j < 64 → (cell_in d a (64 * k + j)).value ≡ (cell_in e b (64 * k + j)).value) → AreEqualRuns (64 * k) (64 * k + 64) d e a b
    runs_same words values i g h =
        let j = i - 64 * k in
        let small : j < 64 = omega (arith, g, h) in
        let at : 64 * k + j ≡ i = omega (arith, g) in
        let value = values j small in
        let state : is_on a.states (64 * k + j) ≡ is_on b.states (64 * k + j) = first j small ∙ ap (λ (n : ℕ). has_bit n j) words ∙ sym (second j small) in
        subst (λ (n : ℕ). cell_in d a n ≡ cell_in e b n) at (λ t. record { value = value t; on = state t })

-- ---- boxes

module _ {V : Type 0} (f g : Field V) (box : Box) where
  -- two tiles
  pub tiles_same : (eq : V → V → Bool) (exact : (x y : V) → eq x y ≡ true → x ≡ y) (itself : (x : V) → eq x x ≡ true) (a b : Cell V) → IsTrue (is_inside box box.min)
      → ((q : Coord) → IsTrue (is_inside box q) → f.cell q ≡ a) → ((q : Coord) → IsTrue (is_inside box q) → g.cell q ≡ b)
      → (t : Bool) → t ≡ cell_eq eq a b → IsTrue t ↔ AreEqualIn box f g
  tiles_same eq exact itself a b inside first second t is = (
    λ holds. let same = cell_exact eq exact itself a b (sym is ∙ holds) in λ q i. first q i ∙ same ∙ sym (second q i),
    λ all. is ∙ cell_same eq exact itself a b (sym (first box.min inside) ∙ all box.min inside ∙ second box.min inside),
  )

  module _ (a : LeafOf V) (first : IsPartOfLeaf vdb f box a × (box ≡ block_around vdb Leaf box.min)) where
    -- the voxel at an index
    at : (i : ℕ) → i < 512 → (q : Coord) × IsTrue (is_inside box q) × (offset vdb Leaf q ≡ i)
    at i h = let is = corner_of_entry vdb Leaf box.min i h in (corner vdb Leaf box.min i, in_leaf_block vdb box first.1 (corner vdb Leaf box.min i) is.0, is.1)

    -- a leaf and a tile
    pub leaf_same : (b : Cell V) → ((q : Coord) → IsTrue (is_inside box q) → g.cell q ≡ b)
        → (t : Bool) → ((d : Cell V) → IsTrue t ↔ ((i : ℕ) → i < 512 → cell_in d a i ≡ b)) → IsTrue t ↔ AreEqualIn box f g
    leaf_same b second t is = (
      λ holds q i. first.0.cells q i ∙ (is (off f.background)).0 holds (offset vdb Leaf q) (offset_below vdb Leaf q) ∙ sym (second q i),
      λ all. (is (off f.background)).1 (λ i h. let p = at i h in
          ap (cell_in (off f.background) a) (sym p.2) ∙ sym (first.0.cells p.0 p.1) ∙ all p.0 p.1 ∙ second p.0 p.1),
    )

    -- two leaves
    pub leaves_same : (b : LeafOf V) → IsPartOfLeaf vdb g box b
        → (t : Bool) → ((d e : Cell V) → IsTrue t ↔ AreEqualRuns 0 512 d e a b) → IsTrue t ↔ AreEqualIn box f g
    leaves_same b second t is = (
      λ holds q i. first.0.cells q i ∙ (is (off f.background) (off g.background)).0 holds (offset vdb Leaf q) (omega arith) (offset_below vdb Leaf q) ∙ sym (second.cells q i),
      λ all. (is (off f.background) (off g.background)).1 (λ i _ h. let p = at i h in
          ap (cell_in (off f.background) a) (sym p.2) ∙ sym (first.0.cells p.0 p.1) ∙ all p.0 p.1 ∙ second.cells p.0 p.1 ∙ ap (cell_in (off g.background) b) p.2),
    )

-- a tile and a leaf
pub turned : {V : Type 0} (f g : Field V) (box : Box) (t : Bool) → IsTrue t ↔ AreEqualIn box g f → IsTrue t ↔ AreEqualIn box f g
turned f g box t is = (λ holds q i. sym (is.0 holds q i), λ all. is.1 (λ q i. sym (all q i)))

-- ---- trees

pub denied : (b : Bool) → not b ≡ false → b ≡ true
denied true h = refl
denied false h = cc

module _ {V : Type 0} (t u : Layout V) where
  -- both trees have the same cell at q
  abbrev pub IsSameAt : Coord → Type 0
  IsSameAt q = (field_of vdb t).cell q ≡ (field_of vdb u).cell q

  -- they have if both have the background there
  pub background_same : t.background ≡ u.background → (q : Coord) → IsTrue (is_inside everywhere q) → IsBackgroundInBoth vdb t u q → IsSameAt q
  background_same background q i both = both.0 ∙ ap off background ∙ sym both.1

  pub backgrounds_same : (eq : V → V → Bool) → ((x y : V) → eq x y ≡ true → x ≡ y) → (x y : V) → x ≡ t.background → y ≡ u.background → (differ : Bool) → differ ≡ not (eq x y) → differ ≡ false
      → t.background ≡ u.background
  backgrounds_same eq exact x y is_x is_y differ is fails = sym is_x ∙ exact x y (denied (eq x y) (sym is ∙ fails)) ∙ is_y

  pub backgrounds_differ : (eq : V → V → Bool) → ((x : V) → eq x x ≡ true) → (x y : V) → x ≡ t.background → y ≡ u.background → (differ : Bool) → differ ≡ not (eq x y) → differ ≡ true
      → field_of vdb t ≡ field_of vdb u → ⊥
  backgrounds_differ eq itself x y is_x is_y differ is holds same =
      let equal : eq x y ≡ true = ap (eq x) (is_y ∙ sym (ap (λ (f : Field V). f.background) same) ∙ sym is_x) ∙ itself x in
      never (ap not equal) (sym is ∙ holds)

-- two trees with one background and the same cells have equal fields
pub fields_same : {V : Type 0} (t u : Layout V) → t.background ≡ u.background → ((q : Coord) → IsTrue (is_inside everywhere q) → (field_of vdb t).cell q ≡ (field_of vdb u).cell q)
    → field_of vdb t ≡ field_of vdb u
fields_same {V} t u background cells =
    same_cells t.background (cell_at vdb t) (cell_at vdb u) (λ q i. sym (cell_inside t.background (cell_at vdb t) q i) ∙ cells q i ∙ cell_inside u.background (cell_at vdb u) q i)
    ∙ ap (λ (b : V). field b (cell_at vdb u)) background
