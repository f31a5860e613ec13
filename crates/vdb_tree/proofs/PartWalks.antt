-- Walks over the parts of a tree: starts, and what lies between them.
use Rattle.vdb_tree.proofs.Common.{◌≡◌, ◌⊎◌, inl, inr, ℕ, ◌<◌, Bool, true, false, arith, ap, refl, sym, subst, ◌∙◌, not, ◌&&◌, if◌then◌else◌, Option, Some, None, IfNone, IfSome, IsSome, IsTrue, is_some, is_gt, is_lt, ordering_reverse, Ordering, Less, Equal, Greater, block_around, block_cmp, block_number, key, ComesBefore, IsUpToBlock, coordinates_past, Box, coord_cmp, everywhere, is_inside, Bits, Coord, Level, Leaf, Lower, Upper, comes_on, contiguous, from_key, key_equal, not_before_min, not_both, which_first, coord_total, inside_numbered, lower_from_leaf, number_in_block, upper_from_lower, Entry, Child, Tile, IsJumpAt, IsLast, Layout, cell_at, entry_over, field_of, background_cell, root_at, root_entry, upper_entry, IsStart, IsStartAfter, IsSkipped, IsWalk, Passes, TreeWalk, end_level, if_tile, is_left, left_count, Skip, Background, Inactive, Cell, IsNextKey}
use Rattle.vdb_coord.proofs.BlockOrder.{fewer_past, not_past_max}
use Rattle.vdb_tree.specs.Parts.{IsPartAround, YieldsBox}
use Rattle.vdb_tree.specs.declared.queries.parts.Skip.TheVariants.{Absent}
use Rattle.vdb_tree.proofs.Descents.{root_by_block, tile_cell, tile_lower, tile_upper, upper_by_block}
use Rattle.vdb_tree.proofs.Levels.{bool_cases}
use Rattle.vdb_tree.proofs.PieceCells.{tile_block}

false_true : false ≡ true → ⊥
false_true e = cc

both_parts : (a b : Bool) → (a && b) ≡ true → (a ≡ true) × (b ≡ true)
both_parts true true h = (refl, refl)
both_parts true false h = cc
both_parts false b h = cc

and_true : (a b : Bool) → a ≡ true → b ≡ true → (a && b) ≡ true
and_true a b h k = rw (h, k) refl

at_least : (k l : Coord) → is_gt (coord_cmp k l) ≡ false → (l ≡ k) ⊎ (coord_cmp k l ≡ Less)
at_least k l h = by (coord_cmp k l) refl
  where
    by : (o : Ordering) → coord_cmp k l ≡ o → (l ≡ k) ⊎ (coord_cmp k l ≡ Less)
    by Less e = inr e
    by Equal e = inl (sym (key_equal k l e))
    by Greater e = absurd (false_true (sym h ∙ ap is_gt e))

-- of two keys one comes first, or they are equal
key_ways : (k l : Coord) → (coord_cmp k l ≡ Less) ⊎ ((k ≡ l) ⊎ (coord_cmp l k ≡ Less))
key_ways k l = by (coord_cmp k l) refl
  where
    by : (o : Ordering) → coord_cmp k l ≡ o → (coord_cmp k l ≡ Less) ⊎ ((k ≡ l) ⊎ (coord_cmp l k ≡ Less))
    by Less e = inl e
    by Equal e = inr (inl (key_equal k l e))
    by Greater e = inr (inr (coord_total.antisymm l k ∙ ap ordering_reverse e))

-- ---- what is left

module _ (bits : Bits) where
  -- a coordinate is left if and only if it doesn't come before the start
  pub left_not_before : (p q : Coord) → IsTrue (is_left bits (Some p) q) → ComesBefore bits q p → ⊥
  left_not_before p q h b = let e : is_lt (block_cmp bits q p) ≡ true = b in false_true (rw e at h)

  pub before_not_left : (p q : Coord) → is_left bits (Some p) q ≡ false → ComesBefore bits q p
  before_not_left p q h = by (is_lt (block_cmp bits q p)) h
    where
      by : (b : Bool) → not b ≡ false → b ≡ true
      by true h = refl
      by false h = cc

  pub left_unless : (p q : Coord) → (ComesBefore bits q p → ⊥) → IsTrue (is_left bits (Some p) q)
  left_unless p q h = by (is_lt (block_cmp bits q p)) h
    where
      by : (b : Bool) → (b ≡ true → ⊥) → not b ≡ true
      by true h = absurd (h refl)
      by false h = refl

  pub gone_if_before : (p q : Coord) → ComesBefore bits q p → is_left bits (Some p) q ≡ false
  gone_if_before p q h = let e : is_lt (block_cmp bits q p) ≡ true = h in rw e refl

-- ---- starts

up_to_upper : (bits : Bits) (level : Level) (q n : Coord) → block_number bits level q ≡ block_number bits level n → block_number bits Upper q ≡ block_number bits Upper n
up_to_upper bits Upper q n e = e
up_to_upper bits Lower q n e = upper_from_lower bits q n e
up_to_upper bits Leaf q n e = upper_from_lower bits q n (lower_from_leaf bits q n e)

child_unless : {V : Type 0} (e : Entry V) (level : Level) → (if_tile e Upper level ≡ Upper → ⊥) → (s : ℕ) × (e ≡ Child s)
child_unless (Child s) level h = (s, refl)
child_unless (Tile c) level h = absurd (h refl)

upper_not_leaf : Upper ≡ Leaf → ⊥
upper_not_leaf e = cc

lower_not_leaf : Lower ≡ Leaf → ⊥
lower_not_leaf e = cc

children_if_leaf : {V : Type 0} (e d : Entry V) → if_tile e Upper (if_tile d Lower Leaf) ≡ Leaf → ((s : ℕ) × (e ≡ Child s)) × ((s : ℕ) × (d ≡ Child s))
children_if_leaf (Tile c) d h = absurd (upper_not_leaf h)
children_if_leaf (Child s) (Tile c) h = absurd (lower_not_leaf h)
children_if_leaf (Child s) (Child r) h = ((s, refl), (r, refl))

module _ {V : Type 0} (bits : Bits) (t : Layout V) where
  -- the block where the descent to n ends lies in n's block of the level
  abbrev EndsWithin : Level → Coord → Type 0
  EndsWithin level n = (q : Coord) → block_number bits (end_level bits t n) q ≡ block_number bits (end_level bits t n) n → block_number bits level q ≡ block_number bits level n

  ends_in_upper : (n : Coord) → EndsWithin Upper n
  ends_in_upper n q e = up_to_upper bits (end_level bits t n) q n e

  below_child : (e : Entry V) (q n : Coord) → block_number bits (if_tile e Lower Leaf) q ≡ block_number bits (if_tile e Lower Leaf) n → block_number bits Lower q ≡ block_number bits Lower n
  below_child (Tile c) q n e = e
  below_child (Child s) q n e = lower_from_leaf bits q n e

  ends_in_lower : (p n : Coord) → (end_level bits t p ≡ Upper → ⊥) → block_number bits Upper n ≡ block_number bits Upper p → EndsWithin Lower n
  ends_in_lower p n node b q e =
      let child = child_unless (root_entry bits t p) (if_tile (upper_entry bits t p) Lower Leaf) node in
      let at : root_entry bits t n ≡ Child child.0 = root_by_block bits t n p b ∙ child.1 in
      let level : end_level bits t n ≡ if_tile (upper_entry bits t n) Lower Leaf = ap (λ (x : Entry V). if_tile x Upper (if_tile (upper_entry bits t n) Lower Leaf)) at in
      below_child (upper_entry bits t n) q n (subst (λ (l : Level). block_number bits l q ≡ block_number bits l n) level e)

  ends_in_leaf : (p n : Coord) → end_level bits t p ≡ Leaf → block_number bits Lower n ≡ block_number bits Lower p → EndsWithin Leaf n
  ends_in_leaf p n node b q e =
      let both = children_if_leaf (root_entry bits t p) (upper_entry bits t p) node in
      let root : root_entry bits t n ≡ Child both.0.0 = root_by_block bits t n p (upper_from_lower bits n p b) ∙ both.0.1 in
      let lower : upper_entry bits t n ≡ Child both.1.0 = upper_by_block bits t n p b ∙ both.1.1 in
      let level : end_level bits t n ≡ Leaf =
      ap (λ (x : Entry V). if_tile x Upper (if_tile (upper_entry bits t n) Lower Leaf)) root ∙ ap (λ (x : Entry V). if_tile x Lower Leaf) lower in
      subst (λ (l : Level). block_number bits l q ≡ block_number bits l n) level e

  module _ (box : Box) where
    start_from : (level : Level) (n : Coord) → IsTrue (is_inside box n)
        → ((q : Coord) → IsTrue (is_inside box q) → block_number bits level q ≡ block_number bits level n → ComesBefore bits q n → ⊥) → EndsWithin level n → IsStart bits t box n
    start_from level n i least ends = record { inside = i; first = λ q j b e. least q j (ends q e) b }

    -- the least corner of a box is a start
    pub start_at_corner : IsTrue (is_inside box box.min) → IsStart bits t box box.min
    start_at_corner i = record { inside = i; first = λ q j b e. not_before_min bits box q j b }

    -- ---- within a block of the outer level

    module _ (outer level : Level) (skip : Skip) (p : Coord) where
      jump_found : (n : Coord) → IsJumpAt bits t skip box outer level p n → EndsWithin level n → IsStartAfter bits t box skip level p (Some n)
      jump_found n found ends = record {
        start = start_from level n found.inside found.first ends;
        past = found.past;
        between = λ q i b. elim (which_first bits q p) [
          | inl c ↦ inl (inl c)
          | inr r ↦ elim r [
            | inl e ↦ inl (inr (ap (block_number bits level) e))
            | inr c ↦ found.between q i (contiguous bits outer p q n (not_both bits p q c) (not_both bits q n b) (sym found.outer_block)) b
          ]
        ];
      }

      jump_last : IsLast bits t skip box outer level p → (q : Coord) → IsTrue (is_inside box q) → IsUpToBlock bits outer p q ⊎ IsSkipped bits skip t q → IsUpToBlock bits level p q ⊎ IsSkipped bits skip t q
      jump_last none q i h = elim h [
        | inl u ↦ elim u [ inl c ↦ inl (inl c) | inr e ↦ none.passed q i e ]
        | inr s ↦ inr s
      ]

      jump_outer : ((q n : Coord) → block_number bits level q ≡ block_number bits level n → block_number bits outer q ≡ block_number bits outer n)
          → IsLast bits t skip box outer level p → (found : Option Coord) → IsStartAfter bits t box skip outer p found → IsStartAfter bits t box skip level p found
      jump_outer up none None h = λ q i. jump_last none q i (h q i)
      jump_outer up none (Some n) h = record {
        start = h.start;
        past = λ q i e. h.past q i (up q p e);
        between = λ q i b. jump_last none q i (h.between q i b);
      }

  -- the next start past a leaf extent in a lower node, and past a lower extent in an upper node
  pub leaf_found : (box : Box) (skip : Skip) (p : Coord) → end_level bits t p ≡ Leaf → (n : Coord) → IsJumpAt bits t skip box Lower Leaf p n → IsStartAfter bits t box skip Leaf p (Some n)
  leaf_found box skip p node n found = jump_found box Lower Leaf skip p n found (ends_in_leaf p n node found.outer_block)

  pub lower_found : (box : Box) (skip : Skip) (p : Coord) → (end_level bits t p ≡ Upper → ⊥) → (n : Coord) → IsJumpAt bits t skip box Upper Lower p n → IsStartAfter bits t box skip Lower p (Some n)
  lower_found box skip p node n found = jump_found box Upper Lower skip p n found (ends_in_lower p n node found.outer_block)

  pub leaf_none : (box : Box) (skip : Skip) (p : Coord) → IsLast bits t skip box Lower Leaf p → (found : Option Coord) → IsStartAfter bits t box skip Lower p found → IsStartAfter bits t box skip Leaf p found
  leaf_none box skip p = jump_outer box Lower Leaf skip p (lower_from_leaf bits)

  pub lower_none : (box : Box) (skip : Skip) (p : Coord) → IsLast bits t skip box Upper Lower p → (found : Option Coord) → IsStartAfter bits t box skip Upper p found → IsStartAfter bits t box skip Lower p found
  lower_none box skip p = jump_outer box Upper Lower skip p (upper_from_lower bits)

  -- ---- under later keys

  -- an absent upper extent is the inactive background
  absent_cell : (q : Coord) → root_at t.root (key bits q) ≡ None → cell_at bits t q ≡ background_cell t
  absent_cell q none =
      let tile : root_entry bits t q ≡ Tile (background_cell t) = rw none refl in
      tile_cell bits t (background_cell t) q (tile_lower bits t (background_cell t) q (tile_upper bits t (background_cell t) q tile))

  either_way : {A : Type 0} (b : Bool) (x y : A) → x ≡ y → (if b then x else y) ≡ y
  either_way true x y e = e
  either_way false x y e = refl

  absent_field : (q : Coord) → root_at t.root (key bits q) ≡ None → (field_of bits t).cell q ≡ background_cell t
  absent_field q none = either_way (is_inside everywhere q) (cell_at bits t q) (background_cell t) (absent_cell q none)

  pub absent_skipped : (skip : Skip) (q : Coord) → root_at t.root (key bits q) ≡ None → IsSkipped bits skip t q
  absent_skipped Absent q none = none
  absent_skipped Background q none = absent_field q none
  absent_skipped Inactive q none = ap (λ (c : Cell V). c.on) (absent_field q none)

  some_or_none : {A : Type 0} (o : Option A) → IsSome o ⊎ (o ≡ None)
  some_or_none (Some x) = inl refl
  some_or_none None = inr refl

  -- no key past p's, up to one, has an entry and meets the box
  pub record IsKeysPassed (box : Box) (p passed : Coord) : Type 0 where
    pub start : (k : Coord) → coord_cmp passed k ≡ Less → coord_cmp (key bits p) k ≡ Less
    pub absent : (q : Coord) → IsTrue (is_inside box q) → coord_cmp (key bits p) (key bits q) ≡ Less → (coord_cmp passed (key bits q) ≡ Less) ⊎ (root_at t.root (key bits q) ≡ None)

  pub keys_start : (box : Box) (p : Coord) → IsKeysPassed box p (key bits p)
  keys_start box p = record { start = λ k h. h; absent = λ q i h. inl h }

  module _ (box : Box) (p passed : Coord) (done : IsKeysPassed box p passed) (k : Coord) (next : IsNextKey t.root (Some passed) (Some k)) where
    -- a key past p's that meets the box comes no earlier than the next, unless it is absent
    no_earlier : (q : Coord) → IsTrue (is_inside box q) → coord_cmp (key bits p) (key bits q) ≡ Less → ((key bits q ≡ k) ⊎ (coord_cmp k (key bits q) ≡ Less)) ⊎ (root_at t.root (key bits q) ≡ None)
    no_earlier q i h = elim (done.absent q i h) [
      | inl later ↦ elim (some_or_none (root_at t.root (key bits q))) [
        | inl held ↦ inl (at_least k (key bits q) (next.2 (key bits q) later held))
        | inr none ↦ inr none
      ]
      | inr none ↦ inr none
    ]

    pub keys_next : ((q : Coord) → IsTrue (is_inside box q) → key bits q ≡ k → ⊥) → IsKeysPassed box p k
    keys_next none = record {
      start = λ l h. done.start l (coord_total.trans passed k l next.1 h);
      absent = λ q i h. elim (no_earlier q i h) [
        | inl later ↦ elim later [ inl e ↦ absurd (none q i e) | inr l ↦ inl l ]
        | inr absent ↦ inr absent
      ];
    }

    keys_found : (skip : Skip) (n : Coord) → IsTrue (is_inside box n) → key bits n ≡ k → ((q : Coord) → IsTrue (is_inside box q) → key bits q ≡ k → ComesBefore bits q n → ⊥)
        → IsStartAfter bits t box skip Upper p (Some n)
    keys_found skip n inside under first = record {
      start = start_from box Upper n inside (λ q i e b. first q i (e ∙ under) b) (ends_in_upper n);
      past = λ q i e.
          let to : coord_cmp (key bits p) (key bits n) ≡ Less = subst (λ (b : Coord). coord_cmp (key bits p) b ≡ Less) (sym under) (done.start k next.1) in
          from_key bits q n (subst (λ (a : Coord). coord_cmp a (key bits n) ≡ Less) (sym e) to);
      between = λ q i b. elim (key_ways (key bits q) (key bits p)) [
        | inl less ↦ inl (inl (from_key bits q p less))
        | inr r ↦ elim r [
          | inl same ↦ inl (inr same)
          | inr later ↦ elim (no_earlier q i later) [
            | inl l ↦ elim l [
              | inl e ↦ absurd (first q i e b)
              | inr past ↦ absurd (not_both bits q n b (from_key bits n q (subst (λ (a : Coord). coord_cmp a (key bits q) ≡ Less) (sym under) past)))
            ]
            | inr absent ↦ inr (absent_skipped skip q absent)
          ]
        ]
      ];
    }

  pub found_keys : (box : Box) (p passed : Coord) → IsKeysPassed box p passed → (k : Coord) → IsNextKey t.root (Some passed) (Some k) → (skip : Skip)
      → (found : Option Coord) → is_some found ≡ true
      → IfSome found (λ n. IsTrue (is_inside box n)) → IfSome found (λ n. key bits n ≡ k) → IfSome found (λ n. (q : Coord) → IsTrue (is_inside box q) → key bits q ≡ k → ComesBefore bits q n → ⊥)
      → IsStartAfter bits t box skip Upper p found
  found_keys box p passed done k next skip (Some n) h inside under first = keys_found box p passed done k next skip n inside under first
  found_keys box p passed done k next skip None h inside under first = absurd (false_true h)

  pub keys_end : (box : Box) (p passed : Coord) → IsKeysPassed box p passed → IsNextKey t.root (Some passed) None → (skip : Skip) → IsStartAfter bits t box skip Upper p None
  keys_end box p passed done none skip q i = elim (key_ways (key bits q) (key bits p)) [
    | inl less ↦ inl (inl (from_key bits q p less))
    | inr r ↦ elim r [
      | inl same ↦ inl (inr same)
      | inr later ↦ inr (absent_skipped skip q (elim (done.absent q i later) [ inl l ↦ none (key bits q) l | inr absent ↦ absent ]))
    ]
  ]

  -- the keys of a box come no later than the key of its greatest corner
  not_past_last : (box : Box) (q : Coord) → IsTrue (is_inside box q) → coord_cmp (key bits box.max) (key bits q) ≡ Less → ⊥
  not_past_last box q i h = not_past_max bits box q i (from_key bits box.max q h)

  -- the next key comes past the keys of the box
  pub keys_stop : (box : Box) (p passed : Coord) → IsKeysPassed box p passed → (k : Coord) → IsNextKey t.root (Some passed) (Some k) → coord_cmp (key bits box.max) k ≡ Less
      → (skip : Skip) → IsStartAfter bits t box skip Upper p None
  keys_stop box p passed done k next past skip q i = elim (key_ways (key bits q) (key bits p)) [
    | inl less ↦ inl (inl (from_key bits q p less))
    | inr r ↦ elim r [
      | inl same ↦ inl (inr same)
      | inr later ↦ elim (no_earlier box p passed done k next q i later) [
        | inl l ↦ elim l [
          | inl e ↦ absurd (not_past_last box q i (subst (λ (b : Coord). coord_cmp (key bits box.max) b ≡ Less) (sym e) past))
          | inr after ↦ absurd (not_past_last box q i (coord_total.trans (key bits box.max) k (key bits q) past after))
        ]
        | inr absent ↦ inr (absent_skipped skip q absent)
      ]
    ]
  ]

  -- ---- the part around a start

  -- a walk may pass over a tile of the inactive background
  pub background_skipped : (level : Level) (p : Coord) (cell : Cell V) → entry_over bits level t p ≡ Tile cell → cell ≡ background_cell t
      → (q : Coord) → block_number bits level q ≡ block_number bits level p → IsSkipped bits Background t q
  background_skipped level p cell tile same q e = either_way (is_inside everywhere q) (cell_at bits t q) (background_cell t) (tile_block bits t level p q cell tile e ∙ same)

  on_either : (b : Bool) (x y : Cell V) → x.on ≡ false → y.on ≡ false → (if b then x else y).on ≡ false
  on_either true x y h k = h
  on_either false x y h k = k

  -- a walk may pass over an inactive tile
  pub inactive_skipped : (level : Level) (p : Coord) (cell : Cell V) → entry_over bits level t p ≡ Tile cell → cell.on ≡ false
      → (q : Coord) → block_number bits level q ≡ block_number bits level p → IsSkipped bits Inactive t q
  inactive_skipped level p cell tile inactive q e =
      on_either (is_inside everywhere q) (cell_at bits t q) (background_cell t) (ap (λ (c : Cell V). c.on) (tile_block bits t level p q cell tile e) ∙ inactive) refl

  -- what the box has of a block, by two clauses of a contract
  pub part_is : (box part : Box) (level : Level) (p : Coord) → end_level bits t p ≡ level
      → ((q : Coord) → IsTrue (is_inside part q) → IsTrue (is_inside box q) × (block_number bits level q ≡ block_number bits level p))
      → ((q : Coord) → IsTrue (is_inside box q) → block_number bits level q ≡ block_number bits level p → IsTrue (is_inside part q)) → IsPartAround bits t box p part
  part_is box part level p ends within all q =
      let in_block : block_number bits level q ≡ block_number bits level p → is_inside (block_around bits (end_level bits t p) p) q ≡ true
      = λ e. subst (λ (l : Level). is_inside (block_around bits l p) q ≡ true) (sym ends) (inside_numbered bits level (block_number bits level p) q e) in
      let of_block : is_inside (block_around bits (end_level bits t p) p) q ≡ true → block_number bits level q ≡ block_number bits level p
      = λ i. number_in_block bits level (block_number bits level p) q (subst (λ (l : Level). is_inside (block_around bits l p) q ≡ true) ends i) in
      alike (is_inside part q) (is_inside box q) (is_inside (block_around bits (end_level bits t p) p) q) (λ i. let h = within q i in (h.0, in_block h.1)) (λ i j. all q i (of_block j))
    where
      alike : (a b c : Bool) → (a ≡ true → (b ≡ true) × (c ≡ true)) → (b ≡ true → c ≡ true → a ≡ true) → a ≡ (b && c)
      alike true b c h k = let both = h refl in sym (and_true b c both.0 both.1)
      alike false true true h k = k refl refl
      alike false true false h k = refl
      alike false false c h k = refl

  -- ---- a step of a walk

  -- the walk went from the start p to the start past the part around it
  pub record IsStep (old new : TreeWalk V) (p : Coord) : Type 0 where
    pub at : old.at ≡ Some p
    pub same_box : new.box ≡ old.box
    pub same_skip : new.skip ≡ old.skip
    pub start : IsStart bits t old.box p
    pub after : IsStartAfter bits t old.box old.skip (end_level bits t p) p new.at

  pub step_is : (old mid new : TreeWalk V) (p : Coord) (next : Option Coord) (box : Box) (skip : Skip) → old.at ≡ Some p → mid.box ≡ old.box → mid.skip ≡ old.skip
      → new ≡ record mid { at = next } → box ≡ mid.box → skip ≡ mid.skip → IfSome old.at (IsStart bits t old.box) → IsStartAfter bits t box skip (end_level bits t p) p next → IsStep old new p
  step_is old mid new p next box skip at same_box same_skip went box_is skip_is start after = record {
    at = at;
    same_box = ap (λ (w : TreeWalk V). w.box) went ∙ same_box;
    same_skip = ap (λ (w : TreeWalk V). w.skip) went ∙ same_skip;
    start = subst (λ (o : Option Coord). IfSome o (IsStart bits t old.box)) at start;
    after =
        let there : new.at ≡ next = ap (λ (w : TreeWalk V). w.at) went in
        let boxes : box ≡ old.box = box_is ∙ same_box in
        let skips : skip ≡ old.skip = skip_is ∙ same_skip in
        subst (λ (o : Option Coord). IsStartAfter bits t old.box old.skip (end_level bits t p) p o) (sym there)
        (subst (λ (x : Skip). IsStartAfter bits t old.box x (end_level bits t p) p next) skips
        (subst (λ (x : Box). IsStartAfter bits t x skip (end_level bits t p) p next) boxes after));
  }

  -- after a step the walk is at a start of its box again
  pub walk_goes : (mid new : TreeWalk V) (box : Box) (skip : Skip) (level : Level) (p : Coord) (next : Option Coord) → IsWalk bits t mid → box ≡ mid.box → IsStartAfter bits t box skip level p next
      → new ≡ record mid { at = next } → IsWalk bits t new
  walk_goes mid new box skip level p next walk box_is after went = rw went (record {
    start = next_start next (subst (λ (x : Box). IsStartAfter bits t x skip level p next) box_is after);
    lives = walk.lives;
  })
    where
      next_start : (o : Option Coord) → IsStartAfter bits t mid.box skip level p o → IfSome o (IsStart bits t mid.box)
      next_start None h = tt
      next_start (Some n) h = h.start

  module _ (old new : TreeWalk V) (p : Coord) (is : IsStep old new p) where
    at : old.at ≡ Some p
    at = is.at

    same_box : new.box ≡ old.box
    same_box = is.same_box

    same_skip : new.skip ≡ old.skip
    same_skip = is.same_skip

    start : IsStart bits t old.box p
    start = is.start

    after : IsStartAfter bits t old.box old.skip (end_level bits t p) p new.at
    after = is.after

    abbrev Ends : Coord → Type 0
    Ends q = block_number bits (end_level bits t p) q ≡ block_number bits (end_level bits t p) p

    was_left : (q : Coord) → IsTrue (is_left bits old.at q) → ComesBefore bits q p → ⊥
    was_left q h = left_not_before bits p q (subst (λ (o : Option Coord). IsTrue (is_left bits o q)) at h)

    step_later : (next : Option Coord) → IsStartAfter bits t old.box old.skip (end_level bits t p) p next → (q : Coord) → IsTrue (is_left bits next q) → IsTrue (is_left bits old.at q)
    step_later None h q l = absurd (false_true l)
    step_later (Some n) h q l =
        subst (λ (o : Option Coord). IsTrue (is_left bits o q)) (sym at)
        (left_unless bits p q (λ b. left_not_before bits n q l (comes_on bits q p n b (h.past p start.inside refl))))

    step_between : (next : Option Coord) → IsStartAfter bits t old.box old.skip (end_level bits t p) p next → (q : Coord) → IsTrue (is_inside old.box q) → is_left bits next q ≡ false
        → IsUpToBlock bits (end_level bits t p) p q ⊎ IsSkipped bits old.skip t q
    step_between None h q i gone = h q i
    step_between (Some n) h q i gone = h.between q i (before_not_left bits n q gone)

    step_gone : (next : Option Coord) → IsStartAfter bits t old.box old.skip (end_level bits t p) p next → (q : Coord) → IsTrue (is_inside old.box q) → Ends q → is_left bits next q ≡ false
    step_gone None h q i e = refl
    step_gone (Some n) h q i e = gone_if_before bits n q (h.past q i e)

    -- what was left and isn't any more lies in the block where the descent to p ends, or was passed over
    step_passed : (q : Coord) → IsTrue (is_inside old.box q) → IsTrue (is_left bits old.at q) → is_left bits new.at q ≡ false → Ends q ⊎ IsSkipped bits old.skip t q
    step_passed q i l gone = elim (step_between new.at after q i gone) [
      | inl u ↦ elim u [ inl b ↦ absurd (was_left q l b) | inr e ↦ inl e ]
      | inr s ↦ inr s
    ]

    pub step_skips : ((q : Coord) → IsTrue (is_inside old.box q) → Ends q → IsSkipped bits old.skip t q) → Passes bits t old new (λ q. false)
    step_skips skipped = record {
      box = same_box;
      skip = same_skip;
      later = step_later new.at after;
      passed = λ q i l gone but. elim (step_passed q i l gone) [ inl e ↦ skipped q i e | inr s ↦ s ];
    }

    module _ (part : Box) (around : IsPartAround bits t old.box p part) where
      in_part : (q : Coord) → IsTrue (is_inside part q) → IsTrue (is_inside old.box q) × Ends q
      in_part q i =
          let both : (is_inside old.box q && is_inside (block_around bits (end_level bits t p) p) q) ≡ true = sym (around q) ∙ i in
          let parts = both_parts (is_inside old.box q) (is_inside (block_around bits (end_level bits t p) p) q) both in
          (parts.0, number_in_block bits (end_level bits t p) (block_number bits (end_level bits t p) p) q parts.1)

      out_of_part : (q : Coord) → IsTrue (is_inside old.box q) → is_inside part q ≡ false → Ends q → ⊥
      out_of_part q i out e =
          let there : is_inside (block_around bits (end_level bits t p) p) q ≡ true = inside_numbered bits (end_level bits t p) (block_number bits (end_level bits t p) p) q e in
          let both : (is_inside old.box q && is_inside (block_around bits (end_level bits t p) p) q) ≡ true = rw (i, there) refl in
          false_true (sym out ∙ around q ∙ both)

      pub step_yields : YieldsBox bits t old new part
      step_yields = record {
        passes = record {
          box = same_box;
          skip = same_skip;
          later = step_later new.at after;
          passed = λ q i l gone out. elim (step_passed q i l gone) [ inl e ↦ absurd (out_of_part q i out e) | inr s ↦ s ];
        };
        inside = λ q i. (in_part q i).0;
        left = λ q i.
            subst (λ (o : Option Coord). IsTrue (is_left bits o q)) (sym at)
            (left_unless bits p q (λ b. start.first q (in_part q i).0 b (in_part q i).1));
        gone = λ q i. step_gone new.at after q (in_part q i).0 (in_part q i).1;
      }

  -- a step yields what was found around the start
  pub some_yields : {P : Type 0} (bounds_of : P → Box) (old new : TreeWalk V) (p : Coord) → IsStep old new p → (box : Box) → box ≡ old.box → (found : Option P)
      → IfSome found (λ part. IsPartAround bits t box p (bounds_of part)) → IfSome found (λ part. YieldsBox bits t old new (bounds_of part))
  some_yields bounds_of old new p step box same None h = tt
  some_yields bounds_of old new p step box same (Some part) h = step_yields old new p step (bounds_of part) (subst (λ (b : Box). IsPartAround bits t b p (bounds_of part)) same h)

  pub none_passes : {P : Type 0} (old new : TreeWalk V) (p : Coord) → IsStep old new p → (box : Box) → box ≡ old.box → (skip : Skip) → skip ≡ old.skip → (found : Option P)
      → IfNone found ((q : Coord) → IsTrue (is_inside box q) → block_number bits (end_level bits t p) q ≡ block_number bits (end_level bits t p) p → IsSkipped bits skip t q)
      → IfNone found (Passes bits t old new (λ q. false))
  none_passes old new p step box same skip also None h =
      step_skips old new p step (λ q i e. subst (λ (k : Skip). IsSkipped bits k t q) also (h q (subst (λ (b : Box). IsTrue (is_inside b q)) (sym same) i) e))
  none_passes old new p step box same skip also (Some part) h = tt

  -- a step leaves fewer coordinates
  pub step_nearer : (p : Coord) (next : Option Coord) → IfSome next (λ n. coordinates_past bits n < coordinates_past bits p) → left_count bits next < left_count bits (Some p)
  step_nearer p None h = omega arith
  step_nearer p (Some n) h = omega (arith, h)

  -- ---- steps one after another

  module _ (a b c : TreeWalk V) (first : Passes bits t a b (λ q. false)) where
    pub passes_on : (but : Coord → Bool) → Passes bits t b c but → Passes bits t a c but
    passes_on but more = record {
      box = more.box ∙ first.box;
      skip = more.skip ∙ first.skip;
      later = λ q l. first.later q (more.later q l);
      passed = λ q i l gone out. elim (bool_cases (is_left bits b.at q)) [
        | inl still ↦ subst (λ (s : Skip). IsSkipped bits s t q) first.skip (more.passed q (subst (λ (x : Box). IsTrue (is_inside x q)) (sym first.box) i) still gone out)
        | inr out_now ↦ first.passed q i l out_now refl
      ];
    }

    pub yields_on : (part : Box) → YieldsBox bits t b c part → YieldsBox bits t a c part
    yields_on part more = record {
      passes = passes_on (is_inside part) more.passes;
      inside = λ q i. subst (λ (x : Box). IsTrue (is_inside x q)) first.box (more.inside q i);
      left = λ q i. first.later q (more.left q i);
      gone = more.gone;
    }

  pub some_on : {P : Type 0} (bounds_of : P → Box) (a b c : TreeWalk V) → Passes bits t a b (λ q. false) → (found : Option P)
      → IfSome found (λ part. YieldsBox bits t b c (bounds_of part)) → IfSome found (λ part. YieldsBox bits t a c (bounds_of part))
  some_on bounds_of a b c first None h = tt
  some_on bounds_of a b c first (Some part) h = yields_on a b c first (bounds_of part) h

  -- a walk at its start has passed nothing
  pub passes_none : (a : TreeWalk V) → Passes bits t a a (λ q. false)
  passes_none a = record { box = refl; skip = refl; later = λ q l. l; passed = λ q i l gone out. absurd (false_true (sym gone ∙ l)) }

-- if nothing is found under a key, no coordinate of the box lies there
pub none_under : (bits : Bits) (box : Box) (k : Coord) (found : Option Coord) → is_some found ≡ false → IfNone found ((q : Coord) → IsTrue (is_inside box q) → key bits q ≡ k → ⊥)
    → (q : Coord) → IsTrue (is_inside box q) → key bits q ≡ k → ⊥
none_under bits box k None h none = none
none_under bits box k (Some n) h none = absurd (false_true (sym h))

-- fewer coordinates are left past a later start
pub start_nearer : {V : Type 0} (bits : Bits) (t : Layout V) (box : Box) (skip : Skip) (level : Level) (p n : Coord) → IsTrue (is_inside box p) → IsTrue (is_inside everywhere n)
    → IsStartAfter bits t box skip level p (Some n) → coordinates_past bits n < coordinates_past bits p
start_nearer bits t box skip level p n here there after = fewer_past bits p n there (after.past p here refl)

-- a fact that holds if nothing was found
pub if_none : {P : Type 0} {Q : Type 0} (found : Option P) → is_some found ≡ false → IfNone found Q → Q
if_none None h k = k
if_none (Some x) h k = absurd (false_true (sym h))
