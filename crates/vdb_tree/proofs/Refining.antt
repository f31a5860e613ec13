-- Nodes made where another tree has nodes: one after another, in a node and in the root table.
use Rattle.vdb_tree.proofs.Common.{◌≡◌, ◌⊎◌, inl, inr, ℕ, ◌+◌, ◌-◌, ◌<◌, ◌≤◌, false, refl, sym, ap, subst, ◌∙◌, arith, IsTrue, Option, IfSome, Some, None, IsSome, block_number, entries, key, offset, entry_number, coord_cmp, Bits, Coord, Level, Leaf, Lower, Upper, corner_of_entry, entry_from_offset, offset_below, Child, Tile, Cell, AddsNodes, IsChildless, IsNextCornerAt, IsRefinedFor, made, Layout, background_cell, entry_over, lower_entry, root_at, root_entry, upper_entry, MakesOnly, is_child, IsNextKey, IsPast, StateRule, Unite, Subtract, Intersect}
use Rattle.vdb_tree.specs.internal.Children.{IsNextCorner}
use Rattle.vdb_tree.specs.internal.Pairing.{IsIdleAt}
use Rattle.vdb_tree.specs.internal.Refining.{IsRefinable, IsRefinedAt, IsRefinedTo, MakesNode, Refines}
use Rattle.vdb_tree.proofs.Blocks.{never}
use Rattle.vdb_tree.proofs.Descents.{root_by_block, tile_lower, tile_upper, upper_by_block}
use Rattle.vdb_tree.proofs.Levels.{coord_cases, same_tile, some_held, tile_no_child, tile_or_child}
use Rattle.vdb_tree.proofs.MadeNodes.{level_cases, makes_none, makes_twice}
use Rattle.vdb_tree.proofs.Needed.{absent_entry, is_child_from, is_some_from, some_or_none}
use Rattle.vdb_tree.proofs.Passes.{corner_block, entry_by_block}
use Rattle.vdb_tree.proofs.Splits.{adds_itself, adds_twice, keeps_itself, keeps_twice}
use Rattle.vdb_tree.proofs.RootSweeps.{equal_left, past_or_not, same_keys}

no_offset : (j : ℕ) → j < 0 → ⊥
no_offset j h = omega (arith, h)

below_or : (a b : ℕ) → (a < b) ⊎ (b ≤ a)
below_or a b = grind arith

that_offset : (n index : ℕ) → n < index + 1 → index ≤ n → n ≡ index
that_offset n index a b = omega (arith, a, b)

-- past an index of a node, fewer entries are left
pub nearer : (from i n : ℕ) → from ≤ i → i < n → n - (i + 1) < n - from
nearer from i n h k = omega (arith, h, k)

-- only one rule makes a state active
rule_cases : (r : StateRule) → (r ≡ Unite) ⊎ (made r ≡ false)
rule_cases Unite = inl refl
rule_cases Subtract = inr refl
rule_cases Intersect = inr refl

-- a node of this tree that holds a coordinate of the other tree's node holds each of that node's corners
module _ {V X : Type 0} (bits : Bits) (t : Layout V) (u : Layout X) (p : Coord) (slot from : ℕ) where
  pub upper_at_corner : (o : Option (ℕ × Coord)) → root_entry bits t p ≡ Child slot → IsNextCorner bits Upper (upper_entry bits u) p from o → IfSome o (λ next. root_entry bits t next.1 ≡ Child slot)
  upper_at_corner (Some next) e h = root_by_block bits t next.1 p (corner_block bits Upper Lower p (upper_entry bits u) from next.0 next.1 h) ∙ e
  upper_at_corner None e h = tt

  pub lower_at_corner : (o : Option (ℕ × Coord)) → upper_entry bits t p ≡ Child slot → IsNextCorner bits Lower (lower_entry bits u) p from o → IfSome o (λ next. upper_entry bits t next.1 ≡ Child slot)
  lower_at_corner (Some next) e h = upper_by_block bits t next.1 p (corner_block bits Lower Leaf p (lower_entry bits u) from next.0 next.1 h) ∙ e
  lower_at_corner None e h = tt

module _ {V X : Type 0} (bits : Bits) (rule : StateRule) (u : Layout X) where
  -- ---- which nodes are made

  pub refines_itself : (t : Layout V) → Refines bits rule u t t
  refines_itself t = record { keeps = keeps_itself bits t; adds = adds_itself bits t; made = makes_none bits (IsRefinable bits rule u) t t (λ q level. refl) }

  pub refines_twice : (old mid new : Layout V) → Refines bits rule u old mid → Refines bits rule u mid new → Refines bits rule u old new
  refines_twice old mid new a b = record {
    keeps = keeps_twice bits old mid new a.keeps b.keeps;
    adds = adds_twice bits old mid new a.adds b.adds;
    made = makes_twice bits (IsRefinable bits rule u) old mid new a.keeps a.made b.made;
  }

  -- one node made where the other tree has one
  pub refines_node : (level : Level) (old new : Layout V) (p : Coord) (slot : ℕ) → MakesNode bits rule level old new p → entry_over bits level u p ≡ Child slot → Refines bits rule u old new
  refines_node level old new p slot makes over = record { keeps = makes.keeps; adds = makes.adds; made = only }
    where
      tile_isnt : (l : Level) (q : Coord) (tile : Cell V) → entry_over bits l new q ≡ Tile tile → IsTrue (is_child (entry_over bits l new q)) → IsRefinable bits rule u l q tile
      tile_isnt l q tile at child = absurd (never (ap is_child at) child)

      here : (q : Coord) (tile : Cell V) → entry_over bits level old q ≡ Tile tile → IsTrue (is_child (entry_over bits level new q)) → IsRefinable bits rule u level q tile
      here q tile at child = elim (coord_cases (block_number bits level q) (block_number bits level p)) [
        | inr d ↦ tile_isnt level q tile (makes.but level q (inr d) ∙ at) child
        | inl e ↦ (
          makes.from tile (entry_by_block bits level old p q (sym e) ∙ at) (subst (λ x. IsTrue (is_child x)) (entry_by_block bits level new q p e) child),
          is_child_from (entry_over bits level u q) slot (entry_by_block bits level u q p e ∙ over),
        )
      ]

      only : MakesOnly bits (IsRefinable bits rule u) old new
      only l q tile at child = elim (level_cases l level) [
        | inr d ↦ tile_isnt l q tile (makes.but l q (inl d) ∙ at) child
        | inl same ↦ subst (λ (m : Level). entry_over bits m old q ≡ Tile tile → IsTrue (is_child (entry_over bits m new q)) → IsRefinable bits rule u m q tile) (sym same) (here q tile) at child
      ]

  -- ---- nothing more to make

  -- below a tile of the other tree nothing is to be made
  pub refined_under : (level : Level) (t : Layout V) (q : Coord) (c : Cell X) → entry_over bits level u q ≡ Tile c → IsRefinedTo bits rule u level t q
  refined_under Leaf t q c e = λ tile slot _ f. absurd (tile_no_child {V = X} c slot (sym e ∙ f))
  refined_under Lower t q c e = (λ tile slot _ f. absurd (tile_no_child {V = X} c slot (sym (tile_lower bits u c q e) ∙ f)), λ tile slot _ f. absurd (tile_no_child {V = X} c slot (sym e ∙ f)))
  refined_under Upper t q c e =
      let l = tile_upper bits u c q e in (
        λ tile slot _ f. absurd (tile_no_child {V = X} c slot (sym (tile_lower bits u c q l) ∙ f)),
        λ tile slot _ f. absurd (tile_no_child {V = X} c slot (sym l ∙ f)),
        λ tile slot _ f. absurd (tile_no_child {V = X} c slot (sym e ∙ f)),
      )

  -- in a tile with the state that the rule makes, nothing is to be made
  tile_made : (level : Level) (t : Layout V) (q : Coord) (c : Cell V) → c.on ≡ made rule → entry_over bits level t q ≡ Tile c → IsRefinedAt bits rule u level t q
  tile_made level t q c on e tile slot f _ = ap (λ (d : Cell V). d.on) (same_tile tile c (sym f ∙ e)) ∙ on

  pub refined_made : (level : Level) (t : Layout V) (q : Coord) (c : Cell V) → c.on ≡ made rule → entry_over bits level t q ≡ Tile c → IsRefinedTo bits rule u level t q
  refined_made Leaf t q c on e = tile_made Leaf t q c on e
  refined_made Lower t q c on e = (tile_made Leaf t q c on (tile_lower bits t c q e), tile_made Lower t q c on e)
  refined_made Upper t q c on e =
      let l = tile_upper bits t c q e in
      (tile_made Leaf t q c on (tile_lower bits t c q l), tile_made Lower t q c on l, tile_made Upper t q c on e)

  -- over a node, nothing is to be made
  pub refined_child : (level : Level) (t : Layout V) (q : Coord) (slot : ℕ) → entry_over bits level t q ≡ Child slot → IsRefinedAt bits rule u level t q
  refined_child level t q slot e tile other f _ = absurd (tile_no_child {V = V} tile slot (sym f ∙ e))

  -- what is refined stays refined when nodes are added
  pub refined_stays : (level : Level) (t n : Layout V) (q : Coord) → AddsNodes bits t n → IsRefinedTo bits rule u level t q → IsRefinedTo bits rule u level n q
  refined_stays Leaf t n q adds h = λ tile slot e f. h tile slot (adds.tiles Leaf q tile e) f
  refined_stays Lower t n q adds h = (λ tile slot e f. h.0 tile slot (adds.tiles Leaf q tile e) f, λ tile slot e f. h.1 tile slot (adds.tiles Lower q tile e) f)
  refined_stays Upper t n q adds h =
      (λ tile slot e f. h.0 tile slot (adds.tiles Leaf q tile e) f, λ tile slot e f. h.1 tile slot (adds.tiles Lower q tile e) f, λ tile slot e f. h.2 tile slot (adds.tiles Upper q tile e) f)

  -- ---- a pass over the children of the other tree's node

  -- at entries before an offset of the level's node around p, nothing is left to make
  pub record RefinesTo (level inner : Level) (old new : Layout V) (p : Coord) (to : ℕ) : Type 0 where
    pub refines : Refines bits rule u old new
    pub done : (q : Coord) → block_number bits level q ≡ block_number bits level p → offset bits level q < to → IsRefinedTo bits rule u inner new q

  module _ (level inner : Level) (p : Coord) where
    pub to_none : (t : Layout V) → RefinesTo level inner t t p 0
    to_none t = record { refines = refines_itself t; done = λ q b less. absurd (no_offset (offset bits level q) less) }

    -- entries of the other tree that aren't children are passed over
    childless_refined : (t : Layout V) (from to : ℕ) → IsChildless bits level (entry_over bits inner u) p from to → (q : Coord) → block_number bits level q ≡ block_number bits level p → from ≤ offset bits level q → offset bits level q < to → IsRefinedTo bits rule u inner t q
    childless_refined t from to none q b more less = elim (tile_or_child (entry_over bits inner u q)) [
      | inl h ↦ refined_under inner t q h.0 h.1
      | inr h ↦ absurd (none q h.0 b more less h.1)
    ]

    pub to_next : (old mid new : Layout V) (from index : ℕ) (c : Coord) → RefinesTo level inner old mid p from → IsNextCornerAt bits level (entry_over bits inner u) p from index c → Refines bits rule u mid new
        → ((q : Coord) → entry_number bits level q ≡ entry_number bits level c → IsRefinedTo bits rule u inner new q) → RefinesTo level inner old new p (index + 1)
    to_next old mid new from index c so_far next refines here = record {
      refines = refines_twice old mid new so_far.refines refines;
      done = λ q b less.
          elim (below_or (offset bits level q) from) [
            | inl k ↦ refined_stays inner mid new q refines.adds (so_far.done q b k)
            | inr more ↦ elim (below_or (offset bits level q) index) [
              | inl k ↦ childless_refined new from index next.before q b more k
              | inr k ↦ here q (entry_from_offset bits level q c (b ∙ sym at.0) (that_offset (offset bits level q) index less k ∙ sym at.1))
            ]
          ];
    }
      where
        at : (block_number bits level c ≡ block_number bits level p) × (offset bits level c ≡ index)
        at = let k = corner_of_entry bits level p index next.within in rw next.at k

    pub to_end : (old mid : Layout V) (from : ℕ) → RefinesTo level inner old mid p from → IsChildless bits level (entry_over bits inner u) p from (entries bits level)
        → (q : Coord) → block_number bits level q ≡ block_number bits level p → IsRefinedTo bits rule u inner mid q
    to_end old mid from so_far none q b = elim (below_or (offset bits level q) from) [
      | inl k ↦ so_far.done q b k
      | inr more ↦ childless_refined mid from (entries bits level) none q b more (offset_below bits level q)
    ]

  -- ---- a pass over the keys of the other tree

  -- in the upper extents up to this key that had an entry, nothing is left to make
  pub record RefinesRoots (old new : Layout V) (passed : Option Coord) : Type 0 where
    pub refines : Refines bits rule u old new
    pub done : (q : Coord) → (IsPast passed (key bits q) → ⊥) → IsSome (root_at old.root (key bits q)) → IsRefinedTo bits rule u Upper new q

  pub roots_none : (t : Layout V) → RefinesRoots t t None
  roots_none t = record { refines = refines_itself t; done = λ q not_past. absurd (not_past tt) }

  -- an upper extent without an entry in the other tree is refined
  absent_refined : (t : Layout V) (q : Coord) → root_at u.root (key bits q) ≡ None → IsRefinedTo bits rule u Upper t q
  absent_refined t q none = refined_under Upper t q (background_cell u) (absent_entry bits u q none)

  pub roots_next : (old mid new : Layout V) (passed : Option Coord) (k : Coord) → RefinesRoots old mid passed → IsNextKey u.root passed (Some k) → Refines bits rule u mid new
      → (IsSome (root_at mid.root k) → (q : Coord) → key bits q ≡ k → IsRefinedTo bits rule u Upper new q) → RefinesRoots old new (Some k)
  roots_next old mid new passed k so_far next refines here = record {
    refines = refines_twice old mid new so_far.refines refines;
    done = λ q not_past held.
        elim (coord_cases (key bits q) k) [
          | inl e ↦ here (so_far.refines.adds.keys k (subst (λ (j : Coord). IsSome (root_at old.root j)) e held)) q e
          | inr d ↦ elim (past_or_not passed (key bits q)) [
            | inr before ↦ refined_stays Upper mid new q refines.adds (so_far.done q before held)
            | inl past ↦ elim (some_or_none (root_at u.root (key bits q))) [
              | inl x ↦ absurd (d (sym (same_keys k (key bits q) (equal_left (coord_cmp k (key bits q)) (next.2 (key bits q) past (is_some_from _ x.0 x.1)) not_past))))
              | inr none ↦ absent_refined new q none
            ]
          ]
        ];
  }

  pub roots_end : (old new : Layout V) (passed : Option Coord) → RefinesRoots old new passed → IsNextKey u.root passed None → (q : Coord) → IsSome (root_at old.root (key bits q)) → IsRefinedTo bits rule u Upper new q
  roots_end old new passed so_far next q held = elim (past_or_not passed (key bits q)) [
    | inr before ↦ so_far.done q before held
    | inl past ↦ absent_refined new q (next (key bits q) past)
  ]

  -- ---- when the states can be set

  at_level : (level : Level) (t : Layout V) (q : Coord) → IsRefinedTo bits rule u Upper t q → IsRefinedAt bits rule u level t q
  at_level Upper t q h = h.2
  at_level Lower t q h = h.1
  at_level Leaf t q h = h.0

  absent_tile : (level : Level) (t : Layout V) (q : Coord) → root_at t.root (key bits q) ≡ None → entry_over bits level t q ≡ Tile (background_cell t)
  absent_tile Upper t q none = absent_entry bits t q none
  absent_tile Lower t q none = tile_upper bits t (background_cell t) q (absent_entry bits t q none)
  absent_tile Leaf t q none = tile_lower bits t (background_cell t) q (tile_upper bits t (background_cell t) q (absent_entry bits t q none))

  module _ (old new : Layout V) (entered : rule ≡ Unite → (q : Coord) → root_at old.root (key bits q) ≡ None → IsIdleAt bits rule old u q) (adds : AddsNodes bits old new)
      (refined : (q : Coord) → IsSome (root_at old.root (key bits q)) → IsRefinedTo bits rule u Upper new q) where
    without : (q : Coord) → root_at old.root (key bits q) ≡ None → (made rule ≡ false) ⊎ IsIdleAt bits rule new u q
    without q none = elim (rule_cases rule) [ inl e ↦ inr (entered e q none) | inr e ↦ inl e ]

    no_entry : (q : Coord) → root_at new.root (key bits q) ≡ None → root_at old.root (key bits q) ≡ None
    no_entry q none = elim (some_or_none (root_at old.root (key bits q))) [
      | inl x ↦ absurd (some_held (root_at new.root (key bits q)) (adds.keys (key bits q) (is_some_from _ x.0 x.1)) none)
      | inr e ↦ e
    ]

    each : (level : Level) (q : Coord) (tile : Cell V) (slot : ℕ) → entry_over bits level new q ≡ Tile tile → entry_over bits level u q ≡ Child slot → (tile.on ≡ made rule) ⊎ IsIdleAt bits rule new u q
    each level q tile slot e f = elim (some_or_none (root_at old.root (key bits q))) [
      | inl x ↦ inl (at_level level new q (refined q (is_some_from _ x.0 x.1)) tile slot e f)
      | inr none ↦ elim (without q none) [
        | inr idle ↦ inr idle
        | inl off ↦
            let same = same_tile tile (background_cell old) (sym (adds.tiles level q tile e) ∙ absent_tile level old q none) in
            inl (ap (λ (c : Cell V). c.on) same ∙ sym off)
      ]
    ]

    pub refined_from : IsRefinedFor bits rule new u
    refined_from = record { tiles = each; entered = λ q none. without q (no_entry q none) }
