-- States set by a rule, one part of a tree after another.
use Rattle.vdb_tree.proofs.Common.{◌≡◌, ◌≢◌, ◌⊎◌, inl, inr, ℕ, ◌+◌, ◌<◌, ◌≤◌, Bool, true, false, not, refl, sym, ap, subst, ◌∙◌, arith, IsTrue, List, beq, Option, Some, None, slice_index_or, if◌then◌else◌, block_number, entries, key, node_bits, offset, entry_number, coord_cmp, coord_eq, Bits, Coord, Level, Leaf, Lower, Upper, block_from_entry, entry_from_offset, offset_from_entry, entries_is, offset_below, IsFirstWithout, IsInactiveTile, entry_count, Entry, Child, Tile, Cell, Fills, KeepsHead, Turns, ruled, Layout, background_cell, cell_at, entry_over, field_of, lower_entry, root_at, root_entry, upper_entry, IsNextKey, IsPast, IsRefinedFor, SetsBlock, acts_at, made, state_of, IsAmong, SetsRoot, SetsWithin, StateRule, Unite, Subtract, Intersect}
use Rattle.vdb_tree.specs.internal.Ruled.{IsIdleTile, IsNextWithout, IsNextWithoutAt, IsSettled, made_tile}
use Rattle.vdb_tree.proofs.Descents.{root_by_block, tile_lower, tile_upper, upper_by_block}
use Rattle.vdb_tree.proofs.Equations.{same_field}
use Rattle.vdb_tree.proofs.KeysPast.{past_on}
use Rattle.vdb_tree.proofs.Levels.{coord_cases, same_tile, tile_no_child}
use Rattle.vdb_tree.proofs.Needed.{absent_entry, is_some_from, some_or_none}
use Rattle.vdb_tree.proofs.Passes.{entry_by_block, head_same, head_trans, root_entry_same, tile_gives}
use Rattle.vdb_tree.proofs.Splits.{root_turns}
use Rattle.vdb_tree.proofs.RootSweeps.{apart, equal_left, other_key, past_or_not, same_keys, that_key}

-- ---- states

-- a cell with another state
abbrev with_state : {V : Type 0} → Cell V → Bool → Cell V
with_state cell state = record { value = cell.value; on = state }

true_false : true ≡ false → ⊥
true_false e = cc

-- if a state is the one that the rule makes, it stays
made_stays : (rule : StateRule) (s t : Bool) → s ≡ made rule → state_of rule s t ≡ s
made_stays Unite true t e = refl
made_stays Unite false t e = absurd (true_false (sym e))
made_stays Subtract true t e = absurd (true_false e)
made_stays Subtract false t e = refl
made_stays Intersect true t e = absurd (true_false e)
made_stays Intersect false t e = refl

-- if the rule doesn't act, a state stays
idle_stays : (rule : StateRule) (s t : Bool) → t ≢ acts_at rule → state_of rule s t ≡ s
idle_stays Unite s true d = absurd (d refl)
idle_stays Unite true false d = refl
idle_stays Unite false false d = refl
idle_stays Subtract s true d = absurd (d refl)
idle_stays Subtract true false d = refl
idle_stays Subtract false false d = refl
idle_stays Intersect s false d = absurd (d refl)
idle_stays Intersect true true d = refl
idle_stays Intersect false true d = refl

-- if the rule acts, the state becomes the one that it makes
acted : (rule : StateRule) (s t : Bool) → t ≡ acts_at rule → state_of rule s t ≡ made rule
acted Unite true t e = refl
acted Unite false true e = refl
acted Unite false false e = absurd (true_false (sym e))
acted Subtract true true e = refl
acted Subtract true false e = absurd (true_false (sym e))
acted Subtract false t e = refl
acted Intersect true true e = absurd (true_false e)
acted Intersect true false e = refl
acted Intersect false t e = refl

unlike_states : (s t : Bool) → IsTrue (not (beq s t)) → s ≡ t → ⊥
unlike_states true true h e = absurd (true_false (sym h))
unlike_states true false h e = true_false e
unlike_states false true h e = true_false (sym e)
unlike_states false false h e = absurd (true_false (sym h))

-- a tile whose state isn't the one at which the rule acts is idle
pub idle_tile : {X : Type 0} (rule : StateRule) (entry : Entry X) (tile : Cell X) (state : Bool) → entry ≡ Tile tile → state ≡ acts_at rule → IsTrue (not (beq tile.on state)) → IsIdleTile rule entry
idle_tile rule entry tile state e acts other = (tile, e, λ k. unlike_states tile.on state other (k ∙ sym acts))

below_or : (a b : ℕ) → (a < b) ⊎ (b ≤ a)
below_or a b = grind arith

not_below : (a b : ℕ) → a < b → b ≤ a → ⊥
not_below a b h k = omega (arith, h, k)

least : (n : ℕ) → 0 ≤ n
least n = omega arith

-- the cells of the rule make its field
ruled_field : {V X : Type 0} (bits : Bits) (rule : StateRule) (u : Layout X) (old new : Layout V) → new.background ≡ old.background
    → ((q : Coord) → cell_at bits new q ≡ record { value = (cell_at bits old q).value; on = state_of rule (cell_at bits old q).on (cell_at bits u q).on }) → field_of bits new ≡ ruled rule (field_of bits old) (field_of bits u)
ruled_field bits Unite u old new b cells = same_field bits new old.background _ b (λ q inside. rw inside (cells q))
ruled_field bits Subtract u old new b cells = same_field bits new old.background _ b (λ q inside. rw inside (cells q))
ruled_field bits Intersect u old new b cells = same_field bits new old.background _ b (λ q inside. rw inside (cells q))

module _ {V X : Type 0} (bits : Bits) (rule : StateRule) (u : Layout X) where
  -- the cell of a settled coordinate is the cell that the rule makes
  stays : (t : Layout V) (q : Coord) → IsSettled bits rule u t q → cell_at bits t q ≡ record { value = (cell_at bits t q).value; on = state_of rule (cell_at bits t q).on (cell_at bits u q).on }
  stays t q s = ap (with_state (cell_at bits t q)) (sym s)

  -- ---- parts

  -- if every coordinate is settled, nothing is to be set
  pub sets_nothing : (In : Coord → Type 0) (t : Layout V) → ((q : Coord) → In q → IsSettled bits rule u t q) → SetsWithin bits rule u In t t
  sets_nothing In t settled = record {
    head = head_same t;
    here = λ q inside. stays t q (settled q inside);
    there = λ q out. refl;
    children = λ l q slot e. e;
    tiles = λ l q tile e. (tile, e, inl refl);
    keys = λ k e. e;
  }

  module _ (A B C : Coord → Type 0) (a : (q : Coord) → A q → C q) (b : (q : Coord) → B q → C q) (old mid new : Layout V)
      (split : (q : Coord) → C q → (A q × (B q → ⊥)) ⊎ ((B q × (A q → ⊥)) ⊎ ((A q → ⊥) × (B q → ⊥) × IsSettled bits rule u old q)))
      (first : SetsWithin bits rule u A old mid) (second : SetsWithin bits rule u B mid new) where
    joined_here : (q : Coord) → C q → cell_at bits new q ≡ record { value = (cell_at bits old q).value; on = state_of rule (cell_at bits old q).on (cell_at bits u q).on }
    joined_here q c = elim (split q c) [
      | inl h ↦ second.there q h.1 ∙ first.here q h.0
      | inr k ↦ elim k [
        | inl h ↦ let e = first.there q h.1 in let f = second.here q h.0 in rw e at f
        | inr h ↦ second.there q h.1 ∙ first.there q h.0 ∙ stays old q h.2
      ]
    ]

    joined_tiles : (l : Level) (q : Coord) (tile : Cell V) → entry_over bits l new q ≡ Tile tile → (was : Cell V) × (entry_over bits l old q ≡ Tile was) × ((tile ≡ was) ⊎ (tile.on ≡ made rule))
    joined_tiles l q tile e =
        let late = second.tiles l q tile e in
        let early = first.tiles l q late.0 late.1 in (
          early.0,
          early.1,
          elim late.2 [
            | inr m ↦ inr m
            | inl s ↦ elim early.2 [
              | inl r ↦ inl (s ∙ r)
              | inr m ↦ inr (ap (λ (c : Cell V). c.on) s ∙ m)
            ]
          ],
        )

    -- setting one part, and then another, sets both
    pub sets_join : SetsWithin bits rule u C old new
    sets_join = record {
      head = head_trans old mid new first.head second.head;
      here = joined_here;
      there = λ q out. second.there q (λ h. out (b q h)) ∙ first.there q (λ h. out (a q h));
      children = λ l q slot e. second.children l q slot (first.children l q slot e);
      tiles = joined_tiles;
      keys = λ k e. first.keys k (second.keys k e);
    }

  -- the tree stays refined after a part is set
  pub refined_after : (In : Coord → Type 0) (old new : Layout V) → SetsWithin bits rule u In old new → IsRefinedFor bits rule old u → IsRefinedFor bits rule new u
  refined_after In old new sets refined = record {
    tiles = λ l q tile slot e child.
        let was = sets.tiles l q tile e in
        elim was.2 [
          | inr m ↦ inl m
          | inl s ↦ elim (refined.tiles l q was.0 slot was.1 child) [
            | inl m ↦ inl (ap (λ (c : Cell V). c.on) s ∙ m)
            | inr idle ↦ inr idle
          ]
        ];
    entered = λ q none. refined.entered q (sets.keys (key bits q) none);
  }

  -- ---- blocks

  pub block_within : (level : Level) (old new : Layout V) (p : Coord) → SetsBlock bits rule u level old new p → SetsWithin bits rule u (λ q. block_number bits level q ≡ block_number bits level p) old new
  block_within level old new p sets = record { head = sets.head; here = sets.here; there = sets.there; children = sets.children; tiles = sets.tiles; keys = sets.keys }

  -- each state of the block stays
  settled_block : (level : Level) (t : Layout V) (p : Coord) → ((q : Coord) → block_number bits level q ≡ block_number bits level p → IsSettled bits rule u t q) → SetsBlock bits rule u level t t p
  settled_block level t p settled = record {
    head = head_same t;
    here = λ q same. stays t q (settled q same);
    there = λ q out. refl;
    children = λ l q slot e. e;
    tiles = λ l q tile e. (tile, e, inl refl);
    keys = λ k e. e;
  }

  -- the block of an idle tile of the other tree is settled
  pub idle_block : (level : Level) (t : Layout V) (p : Coord) (over : Entry X) → entry_over bits level u p ≡ over → IsIdleTile rule over → SetsBlock bits rule u level t t p
  idle_block level t p over e idle = settled_block level t p (λ q same.
      let cell = tile_gives bits level u q idle.0 (entry_by_block bits level u q p same ∙ e ∙ idle.1) in
      idle_stays rule (cell_at bits t q).on (cell_at bits u q).on (λ k. idle.2 (sym (ap (λ (c : Cell X). c.on) cell) ∙ k)))

  -- the other tree has a node, and this tree a refined tile: the block is settled
  pub refined_block : (level : Level) (t : Layout V) (p : Coord) (tile : Cell V) (slot : ℕ) → IsRefinedFor bits rule t u → entry_over bits level t p ≡ Tile tile → entry_over bits level u p ≡ Child slot → SetsBlock bits rule u level t t p
  refined_block level t p tile slot refined e child = settled_block level t p (λ q same.
      let here = entry_by_block bits level t q p same ∙ e in
      elim (refined.tiles level q tile slot here (entry_by_block bits level u q p same ∙ child)) [
        | inl m ↦ made_stays rule (cell_at bits t q).on (cell_at bits u q).on (ap (λ (c : Cell V). c.on) (tile_gives bits level t q tile here) ∙ m)
        | inr idle ↦ idle_stays rule (cell_at bits t q).on (cell_at bits u q).on idle
      ])

  -- both trees have a tile: the tile is replaced
  pub tile_block : (level : Level) (old new : Layout V) (p : Coord) (was : Cell V) (beside : Cell X) → entry_over bits level old p ≡ Tile was → entry_over bits level u p ≡ Tile beside → beside.on ≡ acts_at rule
      → KeepsHead old new → Turns (block_number bits level) p (cell_at bits old) (cell_at bits new) (made_tile rule was)
      → ((l : Level) (q : Coord) → (entry_over bits l new q ≡ entry_over bits l old q) ⊎ ((entry_over bits l old q ≡ Tile was) × (entry_over bits l new q ≡ Tile (made_tile rule was))))
      → ((k : Coord) → root_at new.root k ≡ None → root_at old.root k ≡ None) → SetsBlock bits rule u level old new p
  tile_block level old new p was beside e f acts head cells each keys = record {
    head = head;
    here = λ q same.
        let c = tile_gives bits level old q was (entry_by_block bits level old q p same ∙ e) in
        let d = tile_gives bits level u q beside (entry_by_block bits level u q p same ∙ f) in
        let s = acted rule was.on beside.on acts in
        rw (c, d, s) (cells.here q same);
    there = cells.there;
    children = λ l q slot h. elim (each l q) [
      | inl s ↦ s ∙ h
      | inr k ↦ absurd (tile_no_child was slot (sym k.0 ∙ h))
    ];
    tiles = λ l q tile h. elim (each l q) [
      | inl s ↦ (tile, sym s ∙ h, inl refl)
      | inr k ↦ (was, k.0, inr (ap (λ (c : Cell V). c.on) (same_tile tile (made_tile rule was) (sym h ∙ k.1))))
    ];
    keys = keys;
  }

  -- the changed entries if a tile of an upper node is replaced
  lower_turned : (old new : Layout V) (p : Coord) (was cell : Cell V) → upper_entry bits old p ≡ Tile was → KeepsHead old new → new.root ≡ old.root
      → Turns (block_number bits Lower) p (upper_entry bits old) (upper_entry bits new) (Tile cell) → Turns (block_number bits Lower) p (lower_entry bits old) (lower_entry bits new) (Tile cell)
      → (l : Level) (q : Coord) → (entry_over bits l new q ≡ entry_over bits l old q) ⊎ ((entry_over bits l old q ≡ Tile was) × (entry_over bits l new q ≡ Tile cell))
  lower_turned old new p was cell e head root uppers lowers Upper q = inl (root_entry_same bits old new head root q)
  lower_turned old new p was cell e head root uppers lowers Lower q = elim (coord_cases (block_number bits Lower q) (block_number bits Lower p)) [
    | inl same ↦ inr (upper_by_block bits old q p same ∙ e, uppers.here q same)
    | inr other ↦ inl (uppers.there q other)
  ]
  lower_turned old new p was cell e head root uppers lowers Leaf q = elim (coord_cases (block_number bits Lower q) (block_number bits Lower p)) [
    | inl same ↦ inr (tile_lower bits old was q (upper_by_block bits old q p same ∙ e), lowers.here q same)
    | inr other ↦ inl (lowers.there q other)
  ]

  pub lower_tile_block : (old new : Layout V) (p : Coord) (was : Cell V) (beside : Cell X) (cell : Cell V) → cell ≡ made_tile rule was → upper_entry bits old p ≡ Tile was → upper_entry bits u p ≡ Tile beside
      → beside.on ≡ acts_at rule → Fills bits Lower old new p cell → new.root ≡ old.root
      → Turns (block_number bits Lower) p (upper_entry bits old) (upper_entry bits new) (Tile cell) → Turns (block_number bits Lower) p (lower_entry bits old) (lower_entry bits new) (Tile cell)
      → SetsBlock bits rule u Lower old new p
  lower_tile_block old new p was beside cell is e f acts fills root uppers lowers =
      tile_block Lower old new p was beside e f acts fills.head (subst (λ (c : Cell V). Turns (block_number bits Lower) p (cell_at bits old) (cell_at bits new) c) is fills.cells)
      (subst (λ (c : Cell V). (l : Level) (q : Coord) → (entry_over bits l new q ≡ entry_over bits l old q) ⊎ ((entry_over bits l old q ≡ Tile was) × (entry_over bits l new q ≡ Tile c))) is
      (lower_turned old new p was cell e fills.head root uppers lowers))
      (λ k none. sym (ap (λ (r : List (Coord × Entry V)). root_at r k) root) ∙ none)

  -- the changed entries if a tile of the table is replaced
  upper_turned : (old new : Layout V) (p : Coord) (was cell : Cell V) → root_entry bits old p ≡ Tile was → Turns (block_number bits Upper) p (root_entry bits old) (root_entry bits new) (Tile cell)
      → Turns (block_number bits Upper) p (upper_entry bits old) (upper_entry bits new) (Tile cell) → Turns (block_number bits Upper) p (lower_entry bits old) (lower_entry bits new) (Tile cell)
      → (l : Level) (q : Coord) → (entry_over bits l new q ≡ entry_over bits l old q) ⊎ ((entry_over bits l old q ≡ Tile was) × (entry_over bits l new q ≡ Tile cell))
  upper_turned old new p was cell e roots uppers lowers Upper q = elim (coord_cases (key bits q) (key bits p)) [
    | inl same ↦ inr (root_by_block bits old q p same ∙ e, roots.here q same)
    | inr other ↦ inl (roots.there q other)
  ]
  upper_turned old new p was cell e roots uppers lowers Lower q = elim (coord_cases (key bits q) (key bits p)) [
    | inl same ↦ inr (tile_upper bits old was q (root_by_block bits old q p same ∙ e), uppers.here q same)
    | inr other ↦ inl (uppers.there q other)
  ]
  upper_turned old new p was cell e roots uppers lowers Leaf q = elim (coord_cases (key bits q) (key bits p)) [
    | inl same ↦ inr (tile_lower bits old was q (tile_upper bits old was q (root_by_block bits old q p same ∙ e)), lowers.here q same)
    | inr other ↦ inl (lowers.there q other)
  ]

  pub upper_tile_block : (old new : Layout V) (p : Coord) (was : Cell V) (beside : Cell X) (cell : Cell V) → cell ≡ made_tile rule was → root_entry bits old p ≡ Tile was → root_entry bits u p ≡ Tile beside
      → beside.on ≡ acts_at rule → Fills bits Upper old new p cell → ((k : Coord) → root_at new.root k ≡ (if coord_eq (key bits p) k then Some (Tile cell) else root_at old.root k))
      → Turns (block_number bits Upper) p (upper_entry bits old) (upper_entry bits new) (Tile cell) → Turns (block_number bits Upper) p (lower_entry bits old) (lower_entry bits new) (Tile cell)
      → SetsBlock bits rule u Upper old new p
  upper_tile_block old new p was beside cell is e f acts fills table uppers lowers =
      tile_block Upper old new p was beside e f acts fills.head (subst (λ (c : Cell V). Turns (block_number bits Upper) p (cell_at bits old) (cell_at bits new) c) is fills.cells)
      (subst (λ (c : Cell V). (l : Level) (q : Coord) → (entry_over bits l new q ≡ entry_over bits l old q) ⊎ ((entry_over bits l old q ≡ Tile was) × (entry_over bits l new q ≡ Tile c))) is
      (upper_turned old new p was cell e (root_turns bits old new p (Tile cell) fills.head.background table) uppers lowers))
      (λ k none. elim (coord_cases k (key bits p)) [
        | inl same ↦ absurd (some_none (Tile cell) (sym (that_key old.root new.root (key bits p) (Some (Tile cell)) table) ∙ ap (root_at new.root) (sym same) ∙ none))
        | inr other ↦ sym (other_key old.root new.root (key bits p) k (Some (Tile cell)) table other) ∙ none
      ])
    where
      some_none : (x : Entry V) → ◌≡◌ {A = Option (Entry V)} (Some x) None → ⊥
      some_none x e = cc

  -- ---- the entries of a node

  module _ (level : Level) (p : Coord) where
    -- before the first entry nothing is set
    pub sets_none : (t : Layout V) → SetsWithin bits rule u (IsAmong bits level p 0 0) t t
    sets_none t = sets_nothing (IsAmong bits level p 0 0) t (λ q h. absurd (not_below (offset bits level q) 0 h.before (least (offset bits level q))))

    -- the entries before an offset are set, and then those from it on
    pub sets_on : (old mid new : Layout V) (from to : ℕ) → from ≤ to → SetsWithin bits rule u (IsAmong bits level p 0 from) old mid → SetsWithin bits rule u (IsAmong bits level p from to) mid new
        → SetsWithin bits rule u (IsAmong bits level p 0 to) old new
    sets_on old mid new from to le = sets_join (IsAmong bits level p 0 from) (IsAmong bits level p from to) (IsAmong bits level p 0 to)
        (λ q h. record { block = h.block; from_on = h.from_on; before = below (offset bits level q) h.before })
        (λ q h. record { block = h.block; from_on = least (offset bits level q); before = h.before }) old mid new
        (λ q h. elim (below_or (offset bits level q) from) [
          | inl k ↦ inl (record { block = h.block; from_on = h.from_on; before = k }, λ x. not_below (offset bits level q) from k x.from_on)
          | inr k ↦ inr (inl (record { block = h.block; from_on = k; before = h.before }, λ x. not_below (offset bits level q) from x.before k))
        ])
      where
        below : (n : ℕ) → n < from → n < to
        below n k = omega (arith, k, le)

    -- the last entries are set
    pub sets_last : (old mid new : Layout V) (from : ℕ) → from ≤ entries bits level → SetsWithin bits rule u (IsAmong bits level p 0 from) old mid → SetsWithin bits rule u (IsAmong bits level p from (entries bits level)) mid new
        → SetsBlock bits rule u level old new p
    sets_last old mid new from le early late =
        let all = sets_on old mid new from (entries bits level) le early late in
        record {
          head = all.head;
          here = λ q same. all.here q (record { block = same; from_on = least (offset bits level q); before = offset_below bits level q });
          there = λ q other. all.there q (λ h. other h.block);
          children = all.children;
          tiles = all.tiles;
          keys = all.keys;
        }

    -- the first entry that the rule may change is set
    pub sets_entry : (inner : Level) (old new : Layout V) (from index : ℕ) (c : Coord) → block_number bits level c ≡ block_number bits level p → offset bits level c ≡ index
        → ((q : Coord) → block_number bits inner q ≡ block_number bits inner c → entry_number bits level q ≡ entry_number bits level c)
        → ((q : Coord) → entry_number bits level q ≡ entry_number bits level c → block_number bits inner q ≡ block_number bits inner c)
        → IsNextWithoutAt bits level p (IsSettled bits rule u old) from index → SetsBlock bits rule u inner old new c → SetsWithin bits rule u (IsAmong bits level p from (index + 1)) old new
    sets_entry inner old new from index c at offset_at up down next sets =
        sets_join (IsAmong bits level p from index) (λ q. block_number bits inner q ≡ block_number bits inner c) (IsAmong bits level p from (index + 1))
        (λ q h. record { block = h.block; from_on = h.from_on; before = more (offset bits level q) h.before })
        (λ q same. let e = offset_from_entry bits level q c (up q same) ∙ offset_at in
        record { block = block_from_entry bits level q c (up q same) ∙ at; from_on = from_here (offset bits level q) e; before = to_here (offset bits level q) e })
        old old new
        (λ q h. elim (below_or (offset bits level q) index) [
          | inl k ↦ inl (record { block = h.block; from_on = h.from_on; before = k }, λ same. unlike (offset bits level q) (offset_from_entry bits level q c (up q same) ∙ offset_at) k)
          | inr k ↦ inr (inl (
            down q (entry_from_offset bits level q c (h.block ∙ sym at) (exactly (offset bits level q) h.before k ∙ sym offset_at)),
            λ x. not_below (offset bits level q) index x.before k,
          ))
        ])
        (sets_nothing (IsAmong bits level p from index) old next.before) (block_within inner old new c sets)
      where
        more : (n : ℕ) → n < index → n < index + 1
        more n k = omega (arith, k)

        from_here : (n : ℕ) → n ≡ index → from ≤ n
        from_here n e = let k = next.from_on in omega (arith, e, k)

        to_here : (n : ℕ) → n ≡ index → n < index + 1
        to_here n e = omega (arith, e)

        unlike : (n : ℕ) → n ≡ index → n < index → ⊥
        unlike n e k = omega (arith, e, k)

        exactly : (n : ℕ) → n < index + 1 → index ≤ n → n ≡ index
        exactly n a b = omega (arith, a, b)

  -- ---- the upper extents

  -- each upper extent up to this key has the states of the rule, and the table past the key stays
  pub record SetsTo (old new : Layout V) (passed : Option Coord) : Type 0 where
    pub sets : SetsWithin bits rule u (λ q. IsPast passed (key bits q) → ⊥) old new
    pub refined : IsRefinedFor bits rule new u
    pub ahead : (k : Coord) → IsPast passed k → root_at new.root k ≡ root_at old.root k

  pub roots_none : (t : Layout V) → IsRefinedFor bits rule t u → SetsTo t t None
  roots_none t refined = record { sets = sets_nothing (λ q. IsPast None (key bits q) → ⊥) t (λ q h. absurd (h tt)); refined = refined; ahead = λ k h. refl }

  -- an upper extent without an entry stays
  absent_settled : (t : Layout V) → IsRefinedFor bits rule t u → (q : Coord) → root_at t.root (key bits q) ≡ None → IsSettled bits rule u t q
  absent_settled t refined q none =
      elim (refined.entered q none) [
        | inl m ↦ made_stays rule (cell_at bits t q).on (cell_at bits u q).on (ap (λ (c : Cell V). c.on) (tile_gives bits Upper t q (background_cell t) (absent_entry bits t q none)) ∙ sym m)
        | inr idle ↦ idle_stays rule (cell_at bits t q).on (cell_at bits u q).on idle
      ]

  -- the next key of the table is the one that it had at first
  pub next_at_first : (old mid : Layout V) (passed : Option Coord) (k : Coord) → SetsTo old mid passed → IsNextKey mid.root passed (Some k) → IsNextKey old.root passed (Some k)
  next_at_first old mid passed k so_far next =
      (rw (← so_far.ahead k next.1) next.0, next.1, λ j past some. next.2 j past (rw (so_far.ahead j past) some))

  pub roots_next : (old mid new : Layout V) (passed : Option Coord) (k : Coord) → IsRefinedFor bits rule old u → SetsTo old mid passed → IsNextKey mid.root passed (Some k) → SetsRoot bits rule u mid new k → SetsTo old new (Some k)
  roots_next old mid new passed k refined so_far next turn = record {
    sets = sets_join (λ q. IsPast passed (key bits q) → ⊥) (λ q. key bits q ≡ k) (λ q. IsPast (Some k) (key bits q) → ⊥)
        (λ q before later. before (past_on passed k (key bits q) next.1 later))
        (λ q e later. apart k (key bits q) later e)
        old mid new
        (λ q not_past. elim (coord_cases (key bits q) k) [
          | inl e ↦ inr (inl (e, λ before. before (subst (λ (j : Coord). IsPast passed j) (sym e) next.1)))
          | inr d ↦ elim (past_or_not passed (key bits q)) [
            | inr before ↦ inl (before, d)
            | inl past ↦ elim (some_or_none (root_at mid.root (key bits q))) [
              | inl x ↦ absurd (d (sym (same_keys k (key bits q) (equal_left (coord_cmp k (key bits q)) (next.2 (key bits q) past (is_some_from _ x.0 x.1)) not_past))))
              | inr none ↦ inr (inr (λ before. before past, d, absent_settled old refined q (sym (so_far.ahead (key bits q) past) ∙ none)))
            ]
          ]
        ])
        so_far.sets turn.sets;
    refined = refined_after (λ q. key bits q ≡ k) mid new turn.sets so_far.refined;
    ahead = λ j later. turn.table j (apart k j later) ∙ so_far.ahead j (past_on passed k j next.1 later);
  }

  -- if no key is left, all states are those of the rule
  roots_all : (old new : Layout V) (passed : Option Coord) → IsRefinedFor bits rule old u → SetsTo old new passed → IsNextKey new.root passed None
      → (q : Coord) → cell_at bits new q ≡ record { value = (cell_at bits old q).value; on = state_of rule (cell_at bits old q).on (cell_at bits u q).on }
  roots_all old new passed refined so_far none q = elim (past_or_not passed (key bits q)) [
    | inr before ↦ so_far.sets.here q before
    | inl past ↦ so_far.sets.there q (λ before. before past) ∙ stays old q (absent_settled old refined q (sym (so_far.ahead (key bits q) past) ∙ none (key bits q) past))
  ]

  pub roots_end : (old new : Layout V) (passed : Option Coord) → IsRefinedFor bits rule old u → SetsTo old new passed → IsNextKey new.root passed None → field_of bits new ≡ ruled rule (field_of bits old) (field_of bits u)
  roots_end old new passed refined so_far none = ruled_field bits rule u old new so_far.sets.head.background (roots_all old new passed refined so_far none)

-- ---- the next entry that may change

module _ {V : Type 0} (bits : Bits) (level : Level) (p : Coord) (t : Layout V) (entry : Coord → Entry V) (tiled : (c : Cell V) (q : Coord) → entry q ≡ Tile c → cell_at bits t q ≡ c) (node : List (Entry V)) (x : Cell V)
    (by : (q : Coord) → block_number bits level q ≡ block_number bits level p → entry q ≡ slice_index_or node (offset bits level q) (Tile x)) where
  inactive_at : (q : Coord) → block_number bits level q ≡ block_number bits level p → IsInactiveTile node (offset bits level q) → (cell_at bits t q).on ≡ false
  inactive_at q b h = ap (λ (c : Cell V). c.on) (tiled (record { value = h.0; on = false }) q (by q b ∙ h.1 (Tile x)))

  -- what the node's masks say about its entries
  pub next_active : (from : ℕ) (o : Option ℕ) → IsFirstWithout (IsInactiveTile node) (entry_count (node_bits bits level)) from o → IsNextWithout bits level p (λ q. (cell_at bits t q).on ≡ false) from o
  next_active from (Some index) next = record {
    within = rw (entries_is bits level) next.within;
    from_on = next.from_on;
    before = λ q h. inactive_at q h.block (next.before (offset bits level q) h.from_on h.before);
  }
  next_active from None none = λ q h. inactive_at q h.block (none (offset bits level q) h.from_on (rw (← entries_is bits level) h.before))
