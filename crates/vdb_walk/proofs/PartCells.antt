-- When a walk over parts shows that a box has one cell.
use Rattle.vdb_walk.proofs.Common.{◌≡◌, ◌⊎◌, inl, inr, sym, ap, ◌∙◌, refl, subst, ℕ, ◌+◌, ◌<◌, ◌≤◌, Bool, true, false, not, arith, IsTrue, ◌↔◌, Option, Some, None, is_lt, block_cmp, block_number, entries, key, node_bits, offset, ComesBefore, Box, is_box, is_inside, IsBlockBefore, Bits, Coord, Leaf, Upper, not_before_min, not_true, same_truth, corner_of_entry, voxel_from_leaf, entries_is, offset_below, min_inside, IsConstantLeaf, cell_in, entry_count, Field, off, Layout, field_of, root_at, IsPartOfLeaf, IsSkipped, Passes, TreeWalk, YieldsBox, is_left, is_uniform, Skip, Background, cell_exact, uniform_cells, uniform_from, Cell}
use Rattle.vdb_coord.specs.Walk.{IsNextBlock}
use Rattle.vdb_coord.proofs.Loops.{corner}
use Rattle.vdb_coord.proofs.Walk.{none_before}
use Rattle.vdb_node.specs.Leaf.{Leaf as LeafOf}
use Rattle.vdb_tree.specs.ConstantBlocks.{cell_eq}
use Rattle.vdb_tree.specs.declared.queries.parts.Skip.TheVariants.{Absent}
use Rattle.vdb_tree.proofs.PartWalks.{absent_skipped}
use Rattle.vdb_tree.proofs.Uniform.{cell_itself}
use Rattle.vdb_walk.specs.internal.PartCells.{IsCellAt, IsCellOrSkipped, IsInEachRoot}

false_true : {b : Bool} → b ≡ false → b ≡ true → ⊥
false_true {b} h k = let e : false ≡ true = sym h ∙ k in cc

true_or_false : (b : Bool) → (b ≡ true) ⊎ (b ≡ false)
true_or_false true = inl refl
true_or_false false = inr refl

earlier_or_here : (a i : ℕ) → a < i + 1 → (a < i) ⊎ (a ≡ i)
earlier_or_here a i h = grind arith

denied : (u : Bool) → not u ≡ false → u ≡ true
denied true h = refl
denied false h = cc

unless : (u : Bool) → not u ≡ true → u ≡ false
unless true h = cc
unless false h = refl

-- ---- tests of one cell

module _ {V : Type 0} (eq : V → V → Bool) (exact : (x y : V) → eq x y ≡ true → x ≡ y) (itself : (x : V) → eq x x ≡ true) (f : Field V) (b : Box) (c : Cell V) where
  -- a box whose cells are all one cell
  pub tile_uniform : (p : Coord) → is_inside b p ≡ true → (one : Cell V) → ((q : Coord) → IsTrue (is_inside b q) → f.cell q ≡ one) → (same : Bool) → same ≡ cell_eq eq one c → same ≡ is_uniform eq f b c
  tile_uniform p inside one cells same test =
      same_truth same (is_uniform eq f b c)
      (λ h. let is : one ≡ c = cell_exact eq exact itself one c (sym test ∙ h) in uniform_from eq exact itself f b c (λ q i. cells q i ∙ is))
      (λ h. let is : one ≡ c = sym (cells p inside) ∙ uniform_cells eq exact itself f b c h p inside in test ∙ ap (cell_eq eq one) (sym is) ∙ cell_itself eq exact itself one)

  -- a voxel of the box with another cell
  pub voxel_differs : (p : Coord) → is_inside b p ≡ true → (one : Cell V) → one ≡ f.cell p → (same : Bool) → same ≡ cell_eq eq one c → same ≡ false → is_uniform eq f b c ≡ false
  voxel_differs p inside one at same test other =
      not_true (is_uniform eq f b c) (λ h.
      let is : one ≡ c = at ∙ uniform_cells eq exact itself f b c h p inside in
      false_true other (test ∙ ap (cell_eq eq one) (sym is) ∙ cell_itself eq exact itself one))

  -- a voxel with another cell, by the test
  pub other_voxel : (p : Coord) → is_inside b p ≡ true → (one : Cell V) → one ≡ f.cell p → (other : Bool) → other ≡ not (cell_eq eq one c) → other ≡ true → is_uniform eq f b c ≡ false
  other_voxel p inside one at other test h = voxel_differs p inside one at (cell_eq eq one c) refl (unless (cell_eq eq one c) (sym test ∙ h))

  pub same_voxel : (p : Coord) → is_inside b p ≡ true → (one : Cell V) → one ≡ f.cell p → (other : Bool) → other ≡ not (cell_eq eq one c) → other ≡ false → f.cell p ≡ c
  same_voxel p inside one at other test h = sym at ∙ cell_exact eq exact itself one c (denied (cell_eq eq one c) (sym test ∙ h))

  -- a part of the box with another cell
  pub part_differs : (part : Box) → ((q : Coord) → IsTrue (is_inside part q) → IsTrue (is_inside b q)) → (same : Bool) → same ≡ is_uniform eq f part c → same ≡ false → is_uniform eq f b c ≡ false
  part_differs part within same test other =
      not_true (is_uniform eq f b c) (λ h. false_true other (test ∙ uniform_from eq exact itself f part c (λ q i. uniform_cells eq exact itself f b c h q (within q i))))

-- ---- the part of a leaf

module _ {V : Type 0} (bits : Bits) (f : Field V) (b : Box) (leaf : LeafOf V) (part : IsPartOfLeaf bits f b leaf) where
  -- the leaf's own cells are all one cell
  pub constant_part : (c : Cell V) → IsConstantLeaf leaf (entry_count (node_bits bits Leaf)) c → (q : Coord) → IsTrue (is_inside b q) → f.cell q ≡ c
  constant_part c one q i = part.cells q i ∙ one (off f.background) (offset bits Leaf q) (rw (← entries_is bits Leaf) (offset_below bits Leaf q))

  -- the voxel of an entry
  module _ (ordered : is_box b ≡ true) (index : ℕ) (small : index < entries bits Leaf) (p voxel : Coord) (used : Bits) (at_min : p ≡ b.min) (same : used ≡ bits) (is : voxel ≡ corner used Leaf p index) (c : Cell V) where
    here : voxel ≡ corner bits Leaf b.min index
    here = is ∙ ap (λ (u : Bits). corner u Leaf p index) same ∙ ap (λ (m : Coord). corner bits Leaf m index) at_min

    in_block : block_number bits Leaf voxel ≡ block_number bits Leaf b.min
    in_block = ap (block_number bits Leaf) here ∙ (corner_of_entry bits Leaf b.min index small).0

    at_index : offset bits Leaf voxel ≡ index
    at_index = ap (offset bits Leaf) here ∙ (corner_of_entry bits Leaf b.min index small).1

    only : (q : Coord) → IsTrue (is_inside b q) → offset bits Leaf q ≡ index → q ≡ voxel
    only q i o = voxel_from_leaf bits q voxel (part.block q b.min i (min_inside b ordered) ∙ sym in_block) (o ∙ sym at_index)

    pub beside : (inside : Bool) → inside ≡ is_inside b voxel → inside ≡ false → IsTrue true ↔ IsCellAt bits f b index c
    beside inside test out = (
      (λ _ q i o. absurd (false_true (sym test ∙ out) (subst (λ (r : Coord). is_inside b r ≡ true) (only q i o) i))),
      (λ _. refl),
    )

    module _ (eq : V → V → Bool) (exact : (x y : V) → eq x y ≡ true → x ≡ y) (itself : (x : V) → eq x x ≡ true) where
      pub voxel_test : (inside : Bool) → inside ≡ is_inside b voxel → inside ≡ true → (own : Cell V) → ((d : Cell V) → cell_in d leaf index ≡ own) → (equal : Bool) → equal ≡ cell_eq eq own c
          → IsTrue equal ↔ IsCellAt bits f b index c
      voxel_test inside test in_box own reads equal e =
          let i : is_inside b voxel ≡ true = sym test ∙ in_box in
          let at : f.cell voxel ≡ own = part.cells voxel i ∙ ap (cell_in (off f.background) leaf) at_index ∙ reads (off f.background) in (
            (λ h q k o. ap f.cell (only q k o) ∙ at ∙ cell_exact eq exact itself own c (sym e ∙ h)),
            (λ h. let one : own ≡ c = sym at ∙ h voxel i at_index in e ∙ ap (cell_eq eq own) (sym one) ∙ cell_itself eq exact itself own),
          )

-- ---- a loop over the entries of a leaf

module _ {V : Type 0} (bits : Bits) (f : Field V) (b : Box) (c : Cell V) where
  -- the coordinates of the box at entries below an index have the cell
  abbrev pub IsCellBelow : ℕ → Type 0
  IsCellBelow n = (q : Coord) → IsTrue (is_inside b q) → offset bits Leaf q < n → f.cell q ≡ c

  pub cell_below_none : IsCellBelow 0
  cell_below_none q i h = absurd (never _ h)
    where
      never : (n : ℕ) → n < 0 → ⊥
      never n h = omega (arith, h)

  pub cell_below_next : (n : ℕ) → IsCellBelow n → IsCellAt bits f b n c → IsCellBelow (n + 1)
  cell_below_next n below at q i h = elim (earlier_or_here (offset bits Leaf q) n h) [ inl k ↦ below q i k | inr e ↦ at q i e ]

  module _ (eq : V → V → Bool) (exact : (x y : V) → eq x y ≡ true → x ≡ y) (itself : (x : V) → eq x x ≡ true) where
    pub cell_below_all : (n : ℕ) → entries bits Leaf ≤ n → IsCellBelow n → true ≡ is_uniform eq f b c
    cell_below_all n end below = sym (uniform_from eq exact itself f b c (λ q i. let k = offset_below bits Leaf q in below q i (omega (arith, k, end))))

    pub entry_other : (n : ℕ) (same : Bool) → (IsTrue same ↔ IsCellAt bits f b n c) → same ≡ false → false ≡ is_uniform eq f b c
    entry_other n same test other = sym (not_true (is_uniform eq f b c) (λ h. false_true other (test.1 (λ q i o. uniform_cells eq exact itself f b c h q i))))

-- ---- a walk over the parts of a box

module _ {V : Type 0} (bits : Bits) (t : Layout V) (b : Box) (c : Cell V) (skip : Skip) where
  -- each coordinate that is no longer left has the cell or was skipped
  pub record IsGone (walk : TreeWalk V) : Type 0 where
    pub box : walk.box ≡ b
    pub skips : walk.skip ≡ skip
    pub gone : (q : Coord) → IsTrue (is_inside b q) → is_left bits walk.at q ≡ false → ((field_of bits t).cell q ≡ c) ⊎ IsSkipped bits skip t q

  pub gone_start : (walk : TreeWalk V) → walk.box ≡ b → walk.skip ≡ skip → walk.at ≡ Some b.min → IsGone walk
  gone_start walk box skips at = record {
    box = box;
    skips = skips;
    gone = λ q i left. absurd (not_before_min bits b q i (before q (sym (ap (λ (o : Option Coord). is_left bits o q) at) ∙ left)));
  }
    where
      before : (q : Coord) → is_left bits (Some b.min) q ≡ false → ComesBefore bits q b.min
      before q h = denied (is_lt (block_cmp bits q b.min)) h

  module _ (old new : TreeWalk V) (so_far : IsGone old) where
    gone_on : (but : Coord → Bool) → Passes bits t old new but → ((q : Coord) → but q ≡ true → (field_of bits t).cell q ≡ c) → IsGone new
    gone_on but passes part = record {
      box = passes.box ∙ so_far.box;
      skips = passes.skip ∙ so_far.skips;
      gone = λ q i left.
          elim (true_or_false (is_left bits old.at q)) [
            | inr before ↦ so_far.gone q i before
            | inl now ↦ elim (true_or_false (but q)) [
              | inl h ↦ inl (part q h)
              | inr h ↦ inr (subst (λ (s : Skip). IsSkipped bits s t q) so_far.skips (passes.passed q (ap (λ (d : Box). is_inside d q) so_far.box ∙ i) now left h))
            ]
          ];
    }

    pub gone_next : (part : Box) → YieldsBox bits t old new part → ((q : Coord) → IsTrue (is_inside part q) → (field_of bits t).cell q ≡ c) → IsGone new
    gone_next part yields cells = gone_on (is_inside part) yields.passes cells

    pub gone_end : Passes bits t old new (λ q. false) → new.at ≡ None → IsCellOrSkipped bits t b c skip
    gone_end passes none q i =
        (gone_on (λ q. false) passes (λ q h. absurd (false_true refl h))).gone q i (ap (λ (o : Option Coord). is_left bits o q) none)

    pub part_within : (part : Box) → YieldsBox bits t old new part → (q : Coord) → IsTrue (is_inside part q) → IsTrue (is_inside b q)
    part_within part yields q i = sym (ap (λ (d : Box). is_inside d q) so_far.box) ∙ yields.inside q i

-- ---- a walk over the root blocks of a box

module _ {V : Type 0} (bits : Bits) (t : Layout V) (b : Box) (c : Cell V) where
  -- the root blocks before the one around a coordinate of the box
  pub record HaveBefore (p : Coord) : Type 0 where
    pub inside : IsTrue (is_inside b p)
    pub done : (q : Coord) → IsTrue (is_inside b q) → IsBlockBefore bits Upper q p → (r : Coord) × (key bits r ≡ key bits q) × ((field_of bits t).cell r ≡ c)

  pub have_none : is_box b ≡ true → HaveBefore b.min
  have_none is = record { inside = min_inside b is; done = λ q i before. absurd (none_before bits Upper b q i before) }

  module _ (p : Coord) (so_far : HaveBefore p) (here : (field_of bits t).cell p ≡ c) where
    up_to : (q : Coord) → IsTrue (is_inside b q) → IsBlockBefore bits Upper q p ⊎ (block_number bits Upper q ≡ block_number bits Upper p) → (r : Coord) × (key bits r ≡ key bits q) × ((field_of bits t).cell r ≡ c)
    up_to q i (inl before) = so_far.done q i before
    up_to q i (inr same) = (p, sym same, here)

    pub have_next : (next : Coord) → IsNextBlock bits Upper b p (Some next) → HaveBefore next
    have_next next h = record { inside = h.0; done = λ q i before. up_to q i (h.2 q i before) }

    pub have_all : IsNextBlock bits Upper b p None → IsInEachRoot bits t b c
    have_all h q i = up_to q i (h q i)

-- ---- the box

module _ {V : Type 0} (eq : V → V → Bool) (exact : (x y : V) → eq x y ≡ true → x ≡ y) (itself : (x : V) → eq x x ≡ true) (bits : Bits) (t : Layout V) (b : Box) (c : Cell V) where
  -- if the cell is the inactive background, the walk skipped only that
  pub background_uniform : c ≡ off t.background → IsCellOrSkipped bits t b c Background → is_uniform eq (field_of bits t) b c ≡ true
  background_uniform is cells = uniform_from eq exact itself (field_of bits t) b c (λ q i. elim (cells q i) [ inl e ↦ e | inr e ↦ e ∙ sym is ])

  -- each root block has the cell somewhere, and a root block without an entry has it everywhere
  pub rooted_uniform : IsInEachRoot bits t b c → IsCellOrSkipped bits t b c Absent → is_uniform eq (field_of bits t) b c ≡ true
  rooted_uniform rooted cells =
      uniform_from eq exact itself (field_of bits t) b c (λ q i.
      elim (cells q i) [
        | inl e ↦ e
        | inr none ↦
            let r = rooted q i in
            let absent : root_at t.root (key bits r.0) ≡ None = ap (root_at t.root) r.1 ∙ none in
            absent_skipped bits t Background q none ∙ sym (absent_skipped bits t Background r.0 absent) ∙ r.2
      ])

  -- a test that is exact both ways
  pub exact_test : (f : Field V) (same : Bool) → (same ≡ true → is_uniform eq f b c ≡ true) → (same ≡ false → is_uniform eq f b c ≡ false) → same ≡ is_uniform eq f b c
  exact_test f same on_true on_false =
      same_truth same (is_uniform eq f b c) on_true (λ h. elim (true_or_false same) [ inl e ↦ e | inr e ↦ absurd (false_true (on_false e) h) ])
