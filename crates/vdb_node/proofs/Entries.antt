-- What an internal node shows of its masks and its rows.
use Rattle.vdb_node.proofs.Common.{◌≡◌, ◌≢◌, ◌<◌, ℕ, Bool, true, false, List, get_or, ap, sym, ◌∙◌, refl, inl, inr, arith, ◌↔◌, ◌||◌, Option, Some, None, cases_Bool, cases_lt, is_on, entry_of, listed, Child, Cell}
use Rattle.vdb_mask.specs.Mask.{IsFirstOn, IsNext}
use Rattle.vdb_node.specs.Entries.{HasChild, IsConstant, IsFirstWithout, IsInactiveTile, IsNextChild, IsTileOf, SetsEntry}
use Rattle.vdb_node.specs.declared.Entry.{Entry}
use Rattle.vdb_node.specs.declared.Entry.TheVariants.{Tile}
use Rattle.vdb_node.proofs.Listed.{get_or-listed, get_or-listed_past}

-- one entry changes
pub SetsEntry-listed : {A : Type 0} (old new : ℕ → A) (n i : ℕ) (x : A) → i < n → new i ≡ x → ((j : ℕ) → j ≢ i → new j ≡ old j)
    → SetsEntry (listed old n) (listed new n) i x
SetsEntry-listed old new n i x h here others =
    record {
      changed = λ d. get_or-listed new n i d h ∙ here;
      others = λ d j other.
          elim (cases_lt j n) [
            | inl below ↦ get_or-listed new n j d below ∙ others j other ∙ sym (get_or-listed old n j d below)
            | inr past ↦ get_or-listed_past new n j d past ∙ sym (get_or-listed_past old n j d past)
          ];
    }

-- no tile is a child
pub tile_child : {V : Type 0} (cell : Cell V) (slot : ℕ) → ◌≡◌ {A = Entry V} (Tile cell) (Child slot) → ⊥
tile_child cell slot e = cc

-- equal tiles are of one cell
pub tile_tile : {V : Type 0} (a b : Cell V) → ◌≡◌ {A = Entry V} (Tile a) (Tile b) → a ≡ b
tile_tile a b e = cc

-- cells of the same parts are equal
pub same_cell : {V : Type 0} (a b : Cell V) → a.value ≡ b.value → a.on ≡ b.on → a ≡ b
same_cell {V} a b value on =
    ap (λ (v : V). let c : Cell V = record { value = v; on = a.on } in c) value
    ∙ ap (λ (o : Bool). let c : Cell V = record { value = b.value; on = o } in c) on

-- if neither of two booleans is true, the first is not
or_false_l : (a b : Bool) → (a || b) ≡ false → a ≡ false
or_false_l true b e = e
or_false_l false b e = refl

-- if neither of two booleans is true, the second is not
pub or_false_r : (a b : Bool) → (a || b) ≡ false → b ≡ false
or_false_r true b e = absurd (cc)
or_false_r false b e = e

module _ {V : Type 0} (slot_of : V → ℕ → ℕ) (children states : List Bool) (value_at : ℕ → V) (numbers : List ℕ) where
  -- at an index that the child mask has on, the entry is the slot
  pub entry_of-child : (i : ℕ) → is_on children i ≡ true → entry_of slot_of children states value_at numbers i ≡ Child (slot_of (value_at i) (get_or numbers i 0))
  entry_of-child i on = rw on refl

  -- at an index that the child mask has off, the entry is the value with its state
  pub entry_of-tile : (i : ℕ) → is_on children i ≡ false → entry_of slot_of children states value_at numbers i ≡ Tile (record { value = value_at i; on = is_on states i })
  entry_of-tile i off = rw off refl

  -- a node with no child, one value and one state is constant
  pub IsConstant-node_of : (n : ℕ) (cell : Cell V) → ((i : ℕ) → i < n → is_on children i ≡ false) → ((i : ℕ) → i < n → value_at i ≡ cell.value)
      → ((i : ℕ) → i < n → is_on states i ≡ cell.on) → IsConstant (listed (entry_of slot_of children states value_at numbers) n) n (Tile cell)
  IsConstant-node_of n cell off values on d i h =
      get_or-listed (entry_of slot_of children states value_at numbers) n i d h ∙ entry_of-tile i (off i h) ∙ rw (values i h, on i h) refl

  -- each entry of a constant node is the tile
  constant_entry : (n : ℕ) (cell : Cell V) → IsConstant (listed (entry_of slot_of children states value_at numbers) n) n (Tile cell) → (i : ℕ) → i < n
      → entry_of slot_of children states value_at numbers i ≡ Tile cell
  constant_entry n cell constant i h = sym (get_or-listed (entry_of slot_of children states value_at numbers) n i (Tile cell) h) ∙ constant (Tile cell) i h

  -- a constant node has no child
  pub no_child : (n : ℕ) (cell : Cell V) → IsConstant (listed (entry_of slot_of children states value_at numbers) n) n (Tile cell) → (i : ℕ) → i < n → is_on children i ≡ false
  no_child n cell constant i h =
      elim (cases_Bool (is_on children i)) [
        | inl on ↦ absurd (tile_child cell _ (sym (constant_entry n cell constant i h) ∙ entry_of-child i on))
        | inr off ↦ off
      ]

  constant_cell : (n : ℕ) (cell : Cell V) → IsConstant (listed (entry_of slot_of children states value_at numbers) n) n (Tile cell) → (i : ℕ) → i < n
      → ◌≡◌ {A = Cell V} (record { value = value_at i; on = is_on states i }) cell
  constant_cell n cell constant i h =
      tile_tile _ cell (sym (entry_of-tile i (no_child n cell constant i h)) ∙ constant_entry n cell constant i h)

  -- a constant node has one value
  pub one_value : (n : ℕ) (cell : Cell V) → IsConstant (listed (entry_of slot_of children states value_at numbers) n) n (Tile cell) → (i : ℕ) → i < n → value_at i ≡ cell.value
  one_value n cell constant i h = ap (λ (c : Cell V). c.value) (constant_cell n cell constant i h)

  -- a constant node has one state
  pub one_state : (n : ℕ) (cell : Cell V) → IsConstant (listed (entry_of slot_of children states value_at numbers) n) n (Tile cell) → (i : ℕ) → i < n → is_on states i ≡ cell.on
  one_state n cell constant i h = ap (λ (c : Cell V). c.on) (constant_cell n cell constant i h)

  -- an index that the child mask has on has a child
  pub has_child : (n i : ℕ) → i < n → is_on children i ≡ true → HasChild (listed (entry_of slot_of children states value_at numbers) n) i
  has_child n i h on = (slot_of (value_at i) (get_or numbers i 0), λ d. get_or-listed (entry_of slot_of children states value_at numbers) n i d h ∙ entry_of-child i on)

  -- an index that the child mask has off has none
  pub has_no_child : (n i : ℕ) → i < n → is_on children i ≡ false → HasChild (listed (entry_of slot_of children states value_at numbers) n) i → ⊥
  has_no_child n i h off (slot, child) =
      tile_child _ slot
      (sym (get_or-listed (entry_of slot_of children states value_at numbers) n i (Child slot) h ∙ entry_of-tile i off) ∙ child (Child slot))

  -- the next index of the child mask is the next child
  pub IsNextChild-listed : (n from : ℕ) (result : Option ℕ) → IsNext true children n from result
      → IsNextChild (listed (entry_of slot_of children states value_at numbers) n) n from result
  IsNextChild-listed n from (Some index) next =
      record {
        within = next.within;
        from_on = next.from_on;
        here = has_child n index next.within next.here;
        before = λ i least less. has_no_child n i (omega (arith, less, next.within)) (next.before i least less);
      }
  IsNextChild-listed n from None next = λ i least below. has_no_child n i below (next i least below)

  has_child_no_tile : (n i : ℕ) → i < n → is_on children i ≡ true → (cell : Cell V) → IsTileOf cell (listed (entry_of slot_of children states value_at numbers) n) i → ⊥
  has_child_no_tile n i h on cell tile =
      tile_child cell _
      (sym (tile (Tile cell)) ∙ get_or-listed (entry_of slot_of children states value_at numbers) n i (Tile cell) h ∙ entry_of-child i on)

  tile_at : (n i : ℕ) → i < n → is_on children i ≡ false → (cell : Cell V) → IsTileOf cell (listed (entry_of slot_of children states value_at numbers) n) i
      → ◌≡◌ {A = Cell V} (record { value = value_at i; on = is_on states i }) cell
  tile_at n i h off cell tile =
      tile_tile _ cell
      (sym (entry_of-tile i off) ∙ sym (get_or-listed (entry_of slot_of children states value_at numbers) n i (Tile cell) h) ∙ tile (Tile cell))

  -- an index that is off in both masks has an inactive tile
  inactive_tile : (n i : ℕ) → i < n → (is_on children i || is_on states i) ≡ false → IsInactiveTile (listed (entry_of slot_of children states value_at numbers) n) i
  inactive_tile n i h off =
      let no_child : is_on children i ≡ false = or_false_l (is_on children i) (is_on states i) off in
      let no_state : is_on states i ≡ false = or_false_r (is_on children i) (is_on states i) off in (
        value_at i,
        λ d. get_or-listed (entry_of slot_of children states value_at numbers) n i d h ∙ entry_of-tile i no_child ∙ rw no_state refl,
      )

  -- an index that is on in one of the two masks has no inactive tile
  no_inactive_tile : (n i : ℕ) → i < n → (is_on children i || is_on states i) ≡ true → IsInactiveTile (listed (entry_of slot_of children states value_at numbers) n) i → ⊥
  no_inactive_tile n i h on (value, tile) =
      elim (cases_Bool (is_on children i)) [
        | inl child ↦ has_child_no_tile n i h child (record { value = value; on = false }) tile
        | inr none ↦
            let state : is_on states i ≡ false = ap (λ (c : Cell V). c.on) (tile_at n i h none (record { value = value; on = false }) tile) in
            absurd (let both : (is_on children i || is_on states i) ≡ false = rw (none, state) refl in cc)
      ]

  -- the next index that is on in one of the masks has the next entry that is no inactive tile
  pub IsFirstWithout-inactive : (n from : ℕ) (result : Option ℕ) → IsFirstOn (λ i. is_on children i || is_on states i) n from result
      → IsFirstWithout (IsInactiveTile (listed (entry_of slot_of children states value_at numbers) n)) n from result
  IsFirstWithout-inactive n from (Some index) first =
      record {
        within = first.within;
        from_on = first.from_on;
        here = no_inactive_tile n index first.within first.here;
        before = λ i least less. inactive_tile n i (omega (arith, less, first.within)) (first.before i least less);
      }
  IsFirstWithout-inactive n from None first = λ i least below. inactive_tile n i below (first i least below)

  -- an index has a tile of a cell if it has no child, and the value and the state are the cell's
  pub tile_of : (n i : ℕ) (cell : Cell V) → i < n → is_on children i ≡ false → value_at i ≡ cell.value → is_on states i ≡ cell.on
      → IsTileOf cell (listed (entry_of slot_of children states value_at numbers) n) i
  tile_of n i cell h off value on d =
      get_or-listed (entry_of slot_of children states value_at numbers) n i d h ∙ entry_of-tile i off ∙ rw (value, on) refl

  -- an index has no tile of a cell if it has a child, or the value or the state isn't the cell's
  pub no_tile_of : (n i : ℕ) (cell : Cell V) → i < n → (is_on children i ≡ false → value_at i ≡ cell.value → is_on states i ≡ cell.on → ⊥)
      → IsTileOf cell (listed (entry_of slot_of children states value_at numbers) n) i → ⊥
  no_tile_of n i cell h differ tile =
      elim (cases_Bool (is_on children i)) [
        | inl child ↦ has_child_no_tile n i h child cell tile
        | inr none ↦
            let same = tile_at n i h none cell tile in
            differ none (ap (λ (c : Cell V). c.value) same) (ap (λ (c : Cell V). c.on) same)
      ]

  module _ (n : ℕ) (some : 0 < n) where
    -- if there is no child, the values are all equal and the states are, the first tile is the one of all
    pub constant_alike : (first : Cell V) → ((i : ℕ) → is_on children i ≡ false) → ((i : ℕ) → i < n → is_on states i ≡ is_on states 0)
        → ((i : ℕ) → i < n → value_at i ≡ value_at 0) → value_at 0 ≡ first.value → is_on states 0 ≡ first.on
        → (cell : Cell V) → (Some first ≡ Some cell) ↔ IsConstant (listed (entry_of slot_of children states value_at numbers) n) n (Tile cell)
    constant_alike first off on values value state cell = (
      λ e.
          let same : first ≡ cell = cc in
          rw (← same)
          (IsConstant-node_of n first (λ i _. off i) (λ i h. values i h ∙ value) (λ i h. on i h ∙ state)),
      λ constant.
          let here : value_at 0 ≡ cell.value = one_value n cell constant 0 some in
          let here' : is_on states 0 ≡ cell.on = one_state n cell constant 0 some in
          ap Some (same_cell first cell (sym value ∙ here) (sym state ∙ here')),
    )

    -- if there is a child, or two values or two states differ, the node has no one tile
    pub constant_mixed : (((i : ℕ) → i < n → is_on children i ≡ false) → ((i : ℕ) → i < n → is_on states i ≡ is_on states 0)
        → ((i : ℕ) → i < n → value_at i ≡ value_at 0) → ⊥)
        → (cell : Cell V) → (None ≡ Some cell) ↔ IsConstant (listed (entry_of slot_of children states value_at numbers) n) n (Tile cell)
    constant_mixed differ cell = (
      λ e. absurd (cc),
      λ constant.
          absurd
          (differ (no_child n cell constant) (λ i h. one_state n cell constant i h ∙ sym (one_state n cell constant 0 some))
          (λ i h. one_value n cell constant i h ∙ sym (one_value n cell constant 0 some))),
    )
