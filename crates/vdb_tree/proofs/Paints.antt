-- What is painted of a box, block by block.
use Rattle.vdb_tree.proofs.Common.{◌≡◌, ◌≢◌, ◌⊎◌, inl, inr, ℕ, true, refl, sym, ap, ◌∙◌, IsTrue, Some, None, block_number, Box, is_box, is_inside, IsBlockBefore, IsNextBlock, Bits, Coord, Level, Leaf, Lower, Upper, min_inside, none_before, Child, Tile, Cell, Fills, SameDescent, Layout, cell_at, entry_over, ArePainted, AreSplit, IsPainted, KeepsOutside, IsCovered}
use Rattle.vdb_tree.specs.SplitBox.{IsTiledTo}
use Rattle.vdb_tree.proofs.Covered.{covered_by_block, covered_inside, leaf_covered, lower_covered}
use Rattle.vdb_tree.proofs.Descents.{tile_lower, tile_upper}
use Rattle.vdb_tree.proofs.Levels.{coord_cases, tile_no_child}
use Rattle.vdb_tree.proofs.Passes.{descent_trans, entry_by_block, head_same, head_trans, tile_gives}

module _ {V : Type 0} (bits : Bits) (box : Box) where
  -- ---- what lies outside the painted block

  pub outside_itself : (level : Level) (t : Layout V) (n : Coord) → KeepsOutside bits box level t t n
  outside_itself level t n = record { head = head_same t; cells = λ q out. refl; entries = λ q out over. refl }

  pub outside_twice : (level : Level) (old mid new : Layout V) (n : Coord) → KeepsOutside bits box level old mid n → KeepsOutside bits box level mid new n → KeepsOutside bits box level old new n
  outside_twice level old mid new n a b = record {
    head = head_trans old mid new a.head b.head;
    cells = λ q out. b.cells q out ∙ a.cells q out;
    entries = λ q out. descent_trans bits old mid new q (a.entries q out) (b.entries q out);
  }

  -- a change that keeps what is outside the box's part of an inner block keeps what is outside its part of the outer one
  pub outside_wider : (outer inner : Level) (old new : Layout V) (n m : Coord) → ((q : Coord) → block_number bits inner q ≡ m → block_number bits outer q ≡ n)
      → KeepsOutside bits box inner old new m → KeepsOutside bits box outer old new n
  outside_wider outer inner old new n m up keeps = record {
    head = keeps.head;
    cells = λ q out. keeps.cells q (λ inside same. out inside (up q same));
    entries = λ q out. keeps.entries q (λ inside same. out inside (up q same));
  }

  -- a covered block filled with a cell changes nothing outside
  pub filled_outside : (level : Level) (old new : Layout V) (p : Coord) (cell : Cell V) → IsCovered bits box level p → Fills bits level old new p cell
      → ((q : Coord) → block_number bits level q ≢ block_number bits level p → SameDescent bits old new q) → KeepsOutside bits box level old new (block_number bits level p)
  filled_outside level old new p cell covered fills others = record {
    head = fills.head;
    cells = λ q out. fills.cells.there q (λ same. out (covered_inside bits box level p q covered same) same);
    entries = λ q out. others q (λ same. out (covered_inside bits box level p q covered same) same);
  }

  module _ (cell : Cell V) where
    -- ---- what is painted

    -- a tile of the cell is painted
    pub tile_painted : (level : Level) (t : Layout V) (q : Coord) → entry_over bits level t q ≡ Tile cell → IsPainted bits box cell level t q
    tile_painted Leaf t q e = (tile_gives bits Leaf t q cell e, λ _. e)
    tile_painted Lower t q e = (tile_gives bits Lower t q cell e, (λ _. tile_lower bits t cell q e, λ _. e))
    tile_painted Upper t q e =
        let u = tile_upper bits t cell q e in
        (tile_gives bits Upper t q cell e, (λ _. tile_lower bits t cell q u, λ _. u, λ _. e))

    pub tiles_painted : (level : Level) (t : Layout V) (p : Coord) → entry_over bits level t p ≡ Tile cell → ArePainted bits box cell level level t (block_number bits level p)
    tiles_painted level t p e q inside same = tile_painted level t q (entry_by_block bits level t q p same ∙ e)

    -- a tile that the box doesn't cover has the cell
    pub uncovered_tile : (level : Level) (t : Layout V) (p : Coord) (tile : Cell V) → AreSplit bits box cell t → IsTrue (is_inside box p) → (IsCovered bits box level p → ⊥)
        → entry_over bits level t p ≡ Tile tile → entry_over bits level t p ≡ Tile cell
    uncovered_tile level t p tile edges inside not e = elim (edges level p inside tile e) [
      | inl covered ↦ absurd (not covered)
      | inr same ↦ e ∙ ap Tile same
    ]

    tiles_moved : (level : Level) (old new : Layout V) (q : Coord) → SameDescent bits old new q → IsTiledTo bits box cell level old q → IsTiledTo bits box cell level new q
    tiles_moved Leaf old new q same h = λ c. same Leaf ∙ h c
    tiles_moved Lower old new q same h = (λ c. same Leaf ∙ h.0 c, λ c. same Lower ∙ h.1 c)
    tiles_moved Upper old new q same h = (λ c. same Leaf ∙ h.0 c, λ c. same Lower ∙ h.1 c, λ c. same Upper ∙ h.2 c)

    pub painted_moved : (level : Level) (old new : Layout V) (q : Coord) → cell_at bits new q ≡ cell_at bits old q → SameDescent bits old new q → IsPainted bits box cell level old q → IsPainted bits box cell level new q
    painted_moved level old new q at same h = (at ∙ h.0, tiles_moved level old new q same h.1)

    -- if the box doesn't cover the block, the block need not be a tile
    pub uncovered_lower : (t : Layout V) (p : Coord) → (IsCovered bits box Lower p → ⊥) → ArePainted bits box cell Lower Leaf t (block_number bits Lower p) → ArePainted bits box cell Lower Lower t (block_number bits Lower p)
    uncovered_lower t p not painted q inside same = let h = painted q inside same in (h.0, (h.1, λ c. absurd (not (covered_by_block bits box Lower q p (sym same) c))))

    pub uncovered_upper : (t : Layout V) (p : Coord) → (IsCovered bits box Upper p → ⊥) → ArePainted bits box cell Upper Lower t (block_number bits Upper p) → ArePainted bits box cell Upper Upper t (block_number bits Upper p)
    uncovered_upper t p not painted q inside same = let h = painted q inside same in (h.0, (h.1.0, h.1.1, λ c. absurd (not (covered_by_block bits box Upper q p (sym same) c))))

    -- if the box covers the block, the block has no children
    pub lower_childless : (t : Layout V) (p : Coord) → IsCovered bits box Lower p → ArePainted bits box cell Lower Leaf t (block_number bits Lower p)
        → (q : Coord) (slot : ℕ) → block_number bits Lower q ≡ block_number bits Lower p → entry_over bits Leaf t q ≡ Child slot → ⊥
    lower_childless t p covered painted q slot same e =
        let h = painted q (covered_inside bits box Lower p q covered same) same in
        tile_no_child cell slot (sym (h.1 (leaf_covered bits box q (covered_by_block bits box Lower p q same covered))) ∙ e)

    pub upper_childless : (t : Layout V) (p : Coord) → IsCovered bits box Upper p → ArePainted bits box cell Upper Lower t (block_number bits Upper p)
        → (q : Coord) (slot : ℕ) → block_number bits Upper q ≡ block_number bits Upper p → entry_over bits Lower t q ≡ Child slot → ⊥
    upper_childless t p covered painted q slot same e =
        let h = painted q (covered_inside bits box Upper p q covered same) same in
        tile_no_child cell slot (sym (h.1.1 (lower_covered bits box q (covered_by_block bits box Upper p q same covered))) ∙ e)

    -- the tree stays split for the box while parts of it are painted
    pub split_after : (outer inner : Level) (old new : Layout V) (n : Coord) → KeepsOutside bits box outer old new n → ArePainted bits box cell outer inner new n → AreSplit bits box cell old → AreSplit bits box cell new
    split_after outer inner old new n keeps painted edges level q inside tile e = elim (coord_cases (block_number bits outer q) n) [
      | inl same ↦ inr (sym (tile_gives bits level new q tile e) ∙ (painted q inside same).0)
      | inr other ↦ edges level q inside tile (sym (keeps.entries q (λ _ same. other same) level) ∙ e)
    ]

    -- ---- a walk over the inner blocks of the outer one that meet the box

    pub record PaintsTo (outer inner : Level) (part : Box) (old new : Layout V) (n p : Coord) : Type 0 where
      pub outside : KeepsOutside bits box outer old new n
      pub edges : AreSplit bits box cell new
      pub inside : IsTrue (is_inside part p)
      pub done : (q : Coord) → IsTrue (is_inside part q) → IsBlockBefore bits inner q p → IsPainted bits box cell inner new q

    module _ (outer inner : Level) (part : Box) (n : Coord) (up : (q r : Coord) → block_number bits inner q ≡ block_number bits inner r → block_number bits outer q ≡ block_number bits outer r)
        (within : (q : Coord) → IsTrue (is_inside part q) → IsTrue (is_inside box q) × (block_number bits outer q ≡ n))
        (all : (q : Coord) → IsTrue (is_inside box q) → block_number bits outer q ≡ n → IsTrue (is_inside part q)) where
      pub paint_none : (t : Layout V) → AreSplit bits box cell t → is_box part ≡ true → PaintsTo outer inner part t t n part.min
      paint_none t edges is = record {
        outside = outside_itself outer t n;
        edges = edges;
        inside = min_inside part is;
        done = λ q inside before. absurd (none_before bits inner part q inside before);
      }

      module _ (old t new : Layout V) (p : Coord) (so_far : PaintsTo outer inner part old t n p) (keeps : KeepsOutside bits box inner t new (block_number bits inner p))
          (painted : ArePainted bits box cell inner inner new (block_number bits inner p)) where
        up_to : (q : Coord) → IsTrue (is_inside part q) → IsBlockBefore bits inner q p ⊎ (block_number bits inner q ≡ block_number bits inner p) → IsPainted bits box cell inner new q
        up_to q inside h = elim (coord_cases (block_number bits inner q) (block_number bits inner p)) [
          | inl same ↦ painted q (within q inside).0 same
          | inr other ↦ elim h [
            | inl before ↦ painted_moved inner t new q (keeps.cells q (λ _ same. other same)) (keeps.entries q (λ _ same. other same)) (so_far.done q inside before)
            | inr same ↦ absurd (other same)
          ]
        ]

        pub paint_outside : KeepsOutside bits box outer old new n
        paint_outside = outside_twice outer old t new n so_far.outside (outside_wider outer inner t new n (block_number bits inner p) (λ q same. up q p same ∙ (within p so_far.inside).1) keeps)

        pub paint_next : (next : Coord) → IsNextBlock bits inner part p (Some next) → PaintsTo outer inner part old new n next
        paint_next next h = record {
          outside = paint_outside;
          edges = split_after inner inner t new (block_number bits inner p) keeps painted so_far.edges;
          inside = h.0;
          done = λ q inside before. up_to q inside (h.2 q inside before);
        }

        pub paint_all : IsNextBlock bits inner part p None → ArePainted bits box cell outer inner new n
        paint_all h q inside same = let at = all q inside same in up_to q at (h q at)
