-- What a pass over the children of a node has done.
use Rattle.vdb_tree.proofs.Common.{◌≡◌, ◌≢◌, ◌⊎◌, inl, inr, ℕ, ◌+◌, ◌<◌, ◌≤◌, refl, sym, ap, ◌∙◌, arith, ◌↔◌, IfSome, Option, Some, None, block_number, entries, offset, entry_number, Bits, Coord, Level, Leaf, Lower, Upper, block_from_entry, corner_of_entry, entry_from_offset, offset_from_entry, Entry, Child, Tile, Cell, Fills, IsConstantBlock, IsNonConstantBlock, IsNeeded, IsNeededTo, Keeps, KeepsHead, KeepsUppers, PassesTo, SameDescent, IsChildless, IsNextCornerAt, IsTiled, Layout, cell_at, entry_over, lower_entry, root_entry, upper_entry}
use Rattle.vdb_tree.specs.Changes.{AreNeeded}
use Rattle.vdb_tree.proofs.Descents.{lower_by_block, root_by_block, tile_cell, tile_lower, tile_upper, upper_by_block}
use Rattle.vdb_tree.proofs.Levels.{coord_cases, tile_no_child, tile_or_child}

never : (j : ℕ) → j < 0 → ⊥
never j h = omega (arith, h)

below_or : (a b : ℕ) → (a < b) ⊎ (b ≤ a)
below_or a b = grind arith

module _ {V : Type 0} where
  pub head_same : (t : Layout V) → KeepsHead t t
  head_same t = record { background = refl; limit = refl }

  pub head_trans : (old mid new : Layout V) → KeepsHead old mid → KeepsHead mid new → KeepsHead old new
  head_trans old mid new a b = record { background = b.background ∙ a.background; limit = b.limit ∙ a.limit }

  pub uppers_same : (t : Layout V) → KeepsUppers t t
  uppers_same t = record { head = head_same t; root = refl; uppers = refl }

  pub uppers_trans : (old mid new : Layout V) → KeepsUppers old mid → KeepsUppers mid new → KeepsUppers old new
  uppers_trans old mid new a b = record { head = head_trans old mid new a.head b.head; root = b.root ∙ a.root; uppers = b.uppers ∙ a.uppers }

module _ {V : Type 0} (bits : Bits) where
  pub keeps_same : (t : Layout V) → Keeps bits t t
  keeps_same t = record { head = head_same t; cells = λ q. refl }

  pub keeps_trans : (old mid new : Layout V) → Keeps bits old mid → Keeps bits mid new → Keeps bits old new
  keeps_trans old mid new a b = record { head = head_trans old mid new a.head b.head; cells = λ q. b.cells q ∙ a.cells q }

  -- filling a block with the cell that it has all over keeps every cell
  pub fills_keeps : (level : Level) (old new : Layout V) (p : Coord) (c : Cell V) → Fills bits level old new p c → IsConstantBlock bits level old p c → Keeps bits old new
  fills_keeps level old new p c fills const = record {
    head = fills.head;
    cells = λ q.
        elim (coord_cases (block_number bits level q) (block_number bits level p)) [
          | inl b ↦ fills.cells.here q b ∙ sym (const q b)
          | inr d ↦ fills.cells.there q d
        ];
  }

  -- if the table stays, its entries stay; if the upper nodes stay, too, so do their entries
  pub root_entry_same : (old new : Layout V) → KeepsHead old new → new.root ≡ old.root → (q : Coord) → root_entry bits new q ≡ root_entry bits old q
  root_entry_same old new head root q = rw (head.background, root) refl

  pub upper_entry_same : (old new : Layout V) → KeepsUppers old new → (q : Coord) → upper_entry bits new q ≡ upper_entry bits old q
  upper_entry_same old new k q = rw (k.head.background, k.root, k.uppers) refl

  pub descent_trans : (old mid new : Layout V) (q : Coord) → SameDescent bits old mid q → SameDescent bits mid new q → SameDescent bits old new q
  descent_trans old mid new q a b level = b level ∙ a level

  pub descent_by : (old new : Layout V) (q : Coord) → root_entry bits new q ≡ root_entry bits old q → upper_entry bits new q ≡ upper_entry bits old q → lower_entry bits new q ≡ lower_entry bits old q → SameDescent bits old new q
  descent_by old new q root upper lower Upper = root
  descent_by old new q root upper lower Lower = upper
  descent_by old new q root upper lower Leaf = lower

  pub leaf_descent : (old new : Layout V) → KeepsUppers old new → (q : Coord) → lower_entry bits new q ≡ lower_entry bits old q → SameDescent bits old new q
  leaf_descent old new k q lower = descent_by old new q (root_entry_same old new k.head k.root q) (upper_entry_same old new k q) lower

  -- ---- needed nodes

  -- a block under a tile has no unneeded node of that level
  pub tile_needed : (level : Level) (t : Layout V) (q : Coord) (c : Cell V) → entry_over bits level t q ≡ Tile c → IsNeeded bits level t q
  tile_needed level t q c e slot f = absurd (tile_no_child {V = V} c slot (sym e ∙ f))

  pub needed_moved : (level : Level) (old new : Layout V) (q : Coord) → Keeps bits old new → SameDescent bits old new q → IsNeeded bits level old q → IsNeeded bits level new q
  needed_moved level old new q keeps same needed slot e cell const = needed slot (sym (same level) ∙ e) cell (λ x k. sym (keeps.cells x) ∙ const x k)

  pub needed_to_moved : (level : Level) (old new : Layout V) (q : Coord) → Keeps bits old new → SameDescent bits old new q → IsNeededTo bits level old q → IsNeededTo bits level new q
  needed_to_moved Leaf old new q keeps same h = needed_moved Leaf old new q keeps same h
  needed_to_moved Lower old new q keeps same h = (needed_moved Leaf old new q keeps same h.0, needed_moved Lower old new q keeps same h.1)
  needed_to_moved Upper old new q keeps same h =
      (needed_moved Leaf old new q keeps same h.0, needed_moved Lower old new q keeps same h.1, needed_moved Upper old new q keeps same h.2)

  -- blocks below a tile have no unneeded nodes
  pub below_tile_needed : (level : Level) (t : Layout V) (q : Coord) (c : Cell V) → entry_over bits level t q ≡ Tile c → IsNeededTo bits level t q
  below_tile_needed Leaf t q c e = tile_needed Leaf t q c e
  below_tile_needed Lower t q c e = (tile_needed Leaf t q c (tile_lower bits t c q e), tile_needed Lower t q c e)
  below_tile_needed Upper t q c e =
      let u = tile_upper bits t c q e in
      (tile_needed Leaf t q c (tile_lower bits t c q u), tile_needed Lower t q c u, tile_needed Upper t q c e)

  pub entry_by_block : (level : Level) (t : Layout V) (q r : Coord) → block_number bits level q ≡ block_number bits level r → entry_over bits level t q ≡ entry_over bits level t r
  entry_by_block Leaf t = lower_by_block bits t
  entry_by_block Lower t = upper_by_block bits t
  entry_by_block Upper t = root_by_block bits t

  pub block_of_tile_needed : (level : Level) (t : Layout V) (p : Coord) (c : Cell V) → entry_over bits level t p ≡ Tile c → AreNeeded bits level t p
  block_of_tile_needed level t p c e q b = below_tile_needed level t q c (entry_by_block level t q p b ∙ e)

  -- a block that isn't constant needs its node
  pub non_constant_needed : (level : Level) (t : Layout V) (p : Coord) → IsNonConstantBlock bits level t p → (q : Coord) → block_number bits level q ≡ block_number bits level p → IsNeeded bits level t q
  non_constant_needed level t p non_constant q b slot e cell const = non_constant cell (λ x k. const x (k ∙ sym b))

  pub none_non_constant : (level : Level) (t : Layout V) (p : Coord) (o : Option (Cell V)) → o ≡ None → ((c : Cell V) → IsConstantBlock bits level t p c → o ≡ Some c) → IsNonConstantBlock bits level t p
  none_non_constant level t p o none some c const = none_some c (sym none ∙ some c const)
    where
      none_some : (x : Cell V) → ◌≡◌ {A = Option (Cell V)} None (Some x) → ⊥
      none_some x e = cc

  -- ---- tiles and cells

  -- each coordinate in a tile has the tile's cell
  pub tile_gives : (level : Level) (t : Layout V) (q : Coord) (c : Cell V) → entry_over bits level t q ≡ Tile c → cell_at bits t q ≡ c
  tile_gives Leaf t q c e = tile_cell bits t c q e
  tile_gives Lower t q c e = tile_cell bits t c q (tile_lower bits t c q e)
  tile_gives Upper t q c e = tile_cell bits t c q (tile_lower bits t c q (tile_upper bits t c q e))

  pub tiles_constant : (inner outer : Level) (t : Layout V) (p : Coord) (c : Cell V) → IsTiled bits outer (entry_over bits inner t) p c → IsConstantBlock bits outer t p c
  tiles_constant inner outer t p c tiled q b = tile_gives inner t q c (tiled q b)

  pub tiles_childless : (outer : Level) (entry : Coord → Entry V) (p : Coord) (c : Cell V) → IsTiled bits outer entry p c → (q : Coord) (slot : ℕ) → block_number bits outer q ≡ block_number bits outer p → entry q ≡ Child slot → ⊥
  tiles_childless outer entry p c tiled q slot b e = tile_no_child {V = V} c slot (sym (tiled q b) ∙ e)

  pub childless_if : (outer : Level) (entry : Coord → Entry V) (p : Coord) (o : Option (Cell V)) → ((c : Cell V) → (o ≡ Some c) ↔ IsTiled bits outer entry p c)
      → IfSome o (λ _. (q : Coord) (slot : ℕ) → block_number bits outer q ≡ block_number bits outer p → entry q ≡ Child slot → ⊥)
  childless_if outer entry p (Some c) iff = tiles_childless outer entry p c ((iff c).0 refl)
  childless_if outer entry p None iff = tt

  -- if each node of the inner level is needed, a constant block of the outer level has only tiles
  pub tiles_of_constant : (inner outer : Level) (t : Layout V) (p : Coord) (c : Cell V)
      → ((q r : Coord) → block_number bits inner q ≡ block_number bits inner r → block_number bits outer q ≡ block_number bits outer r)
      → ((q : Coord) → block_number bits outer q ≡ block_number bits outer p → IsNeeded bits inner t q) → IsConstantBlock bits outer t p c → IsTiled bits outer (entry_over bits inner t) p c
  tiles_of_constant inner outer t p c up needed const q b =
      elim (tile_or_child (entry_over bits inner t q)) [
        | inl h ↦ h.1 ∙ ap Tile (sym (tile_gives inner t q h.0 h.1) ∙ const q b)
        | inr h ↦ absurd (needed q b h.0 h.1 c (λ r k. const r (up r q k ∙ b)))
      ]

  -- ---- the pass

  module _ (level inner : Level) (p : Coord) where
    tiles_needed : (t : Layout V) (from to : ℕ) → IsChildless bits level (entry_over bits inner t) p from to → (q : Coord) → block_number bits level q ≡ block_number bits level p → from ≤ offset bits level q → offset bits level q < to → IsNeededTo bits inner t q
    tiles_needed t from to none q b more less =
        elim (tile_or_child (entry_over bits inner t q)) [
          | inl h ↦ below_tile_needed inner t q h.0 h.1
          | inr h ↦ absurd (none q h.0 b more less h.1)
        ]

    pub passes_join : (old mid new : Layout V) (from i j : ℕ) → from ≤ i → PassesTo bits level inner old mid p from i → PassesTo bits level inner mid new p i j → PassesTo bits level inner old new p from j
    passes_join old mid new from i j le first then = record {
      keeps = keeps_trans old mid new first.keeps then.keeps;
      others = λ q d. descent_trans old mid new q (first.others q d) (then.others q d);
      before = λ q b less. descent_trans old mid new q (first.before q b less) (then.before q b (omega (arith, less, le)));
      done = λ q b more less.
          elim (below_or (offset bits level q) i) [
            | inl k ↦ needed_to_moved inner mid new q then.keeps (then.before q b k) (first.done q b more k)
            | inr k ↦ then.done q b k less
          ];
    }

    -- before the first child, a pass has done nothing
    pub passes_none : (t : Layout V) → PassesTo bits level inner t t p 0 0
    passes_none t = record {
      keeps = keeps_same t;
      others = λ q d over. refl;
      before = λ q b less over. refl;
      done = λ q b more less. absurd (never (offset bits level q) less);
    }

    -- if the remaining entries aren't children, the pass is complete
    pub passes_end : (t : Layout V) (from : ℕ) → IsChildless bits level (entry_over bits inner t) p from (entries bits level) → PassesTo bits level inner t t p from (entries bits level)
    passes_end t from none = record {
      keeps = keeps_same t;
      others = λ q d over. refl;
      before = λ q b less over. refl;
      done = λ q b more less. tiles_needed t from (entries bits level) none q b more less;
    }

    -- the corner of a child is in the node
    pub corner_block : (entry : Coord → Entry V) (from index : ℕ) (c : Coord) → IsNextCornerAt bits level entry p from index c → block_number bits level c ≡ block_number bits level p
    corner_block entry from index c next = let k = corner_of_entry bits level p index next.within in rw next.at k.0

    pub at_corner : (entry : Coord → Entry V) (from index : ℕ) (c d : Coord) → IsNextCornerAt bits level entry p from index c → d ≡ c → IsNextCornerAt bits level entry p from index d
    at_corner entry from index c d next e = record { within = next.within; from_on = next.from_on; at = e ∙ next.at; child = (next.child.0, ap entry e ∙ next.child.1); before = next.before }

    -- a pass goes on by one child
    pub passes_step : (old new : Layout V) (from index : ℕ) (c : Coord) → IsNextCornerAt bits level (entry_over bits inner old) p from index c → Keeps bits old new
        → ((q : Coord) → entry_number bits level q ≢ entry_number bits level c → SameDescent bits old new q)
        → ((q : Coord) → entry_number bits level q ≡ entry_number bits level c → IsNeededTo bits inner new q) → PassesTo bits level inner old new p from (index + 1)
    passes_step old new from index c next keeps stays here = record {
      keeps = keeps;
      others = λ q d. stays q (λ e. d (block_from_entry bits level q c e ∙ at.0));
      before = λ q b less. stays q (λ e. unlike (offset bits level q) (offset_from_entry bits level q c e ∙ at.1) (omega (arith, less, next.from_on)));
      done = λ q b more less.
          elim (below_or (offset bits level q) index) [
            | inl k ↦ needed_to_moved inner old new q keeps (stays q (λ e. unlike (offset bits level q) (offset_from_entry bits level q c e ∙ at.1) k)) (tiles_needed old from index next.before q b more k)
            | inr k ↦ here q (entry_from_offset bits level q c (b ∙ sym at.0) (same (offset bits level q) less k ∙ sym at.1))
          ];
    }
      where
        at : (block_number bits level c ≡ block_number bits level p) × (offset bits level c ≡ index)
        at = let k = corner_of_entry bits level p index next.within in rw next.at k

        unlike : (n : ℕ) → n ≡ index → n < index → ⊥
        unlike n e k = omega (arith, e, k)

        same : (n : ℕ) → n < index + 1 → index ≤ n → n ≡ index
        same n a b = omega (arith, a, b)
