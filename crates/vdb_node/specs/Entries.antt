-- What a contract sees of an internal node: a list of entries.
use Rattle.std.specs.Prelude.{◌≡◌, ◌≢◌, ◌*◌, ◌<◌, ◌≤◌, if◌then◌else◌, ℕ, Bool, false, List, Option, Some, None, slice_index_or}
use Rattle.vdb_mask.specs.Mask.{is_on}
use Rattle.vdb_node.specs.Nodes.{entry_count, IsOffFrom}
use Rattle.vdb_node.specs.declared.Entry.{Entry}
use Rattle.vdb_node.specs.declared.Entry.TheVariants.{Child, Tile}
use Rattle.vdb_value.specs.declared.Cell.{Cell}
use Rattle.vdb_value.specs.declared.Kind.{Kind}
use Rattle.vdb_value.specs.declared.Kind.TheVariants.{Bool as truths}

-- the child or the tile at an index of the masks and the rows, by the slot of a child from what the rows have there
abbrev pub entry_of : {V : Type 0} → (V → ℕ → ℕ) → List Bool → List Bool → (ℕ → V) → List ℕ → ℕ → Entry V
entry_of slot_of children states value_at numbers i =
    if is_on children i then Child (slot_of (value_at i) (slice_index_or numbers i 0)) else Tile (record { value = value_at i; on = is_on states i })

-- the new list has this at the index, and at every other what the old one has
pub record SetsEntry {A : Type 0} (old new : List A) (i : ℕ) (x : A) : Type 0 where
  pub changed : (d : A) → slice_index_or new i d ≡ x
  pub others : (d : A) (j : ℕ) → j ≢ i → slice_index_or new j d ≡ slice_index_or old j d

-- each of the first n is this
abbrev pub IsConstant : {A : Type 0} → List A → ℕ → A → Type 0
IsConstant {A} xs n x = (d : A) (i : ℕ) → i < n → slice_index_or xs i d ≡ x

-- the entry at an index is a child
abbrev pub HasChild : {V : Type 0} → List (Entry V) → ℕ → Type 0
HasChild {V} node i = (slot : ℕ) × ((d : Entry V) → slice_index_or node i d ≡ Child slot)

-- the first of the indices from `from` on and below n whose entry is a child
pub record IsNextChildAt {V : Type 0} (node : List (Entry V)) (n from index : ℕ) : Type 0 where
  pub within : index < n
  pub from_on : from ≤ index
  pub here : HasChild node index
  pub before : (i : ℕ) → from ≤ i → i < index → HasChild node i → ⊥

-- the first index from `from` on and below n whose entry is a child, and nothing if none is
abbrev pub IsNextChild : {V : Type 0} → List (Entry V) → ℕ → ℕ → Option ℕ → Type 0
IsNextChild node n from (Some index) = IsNextChildAt node n from index
IsNextChild node n from None = (i : ℕ) → from ≤ i → i < n → HasChild node i → ⊥

-- the entry at an index is a tile of this cell
abbrev pub IsTileOf : {V : Type 0} → Cell V → List (Entry V) → ℕ → Type 0
IsTileOf {V} cell node i = (d : Entry V) → slice_index_or node i d ≡ Tile cell

-- the entry at an index is a tile of an inactive cell
abbrev pub IsInactiveTile : {V : Type 0} → List (Entry V) → ℕ → Type 0
IsInactiveTile {V} node i = (value : V) × IsTileOf (record { value = value; on = false }) node i

-- the first of the indices from `from` on and below n without what each before it has
pub record IsFirstWithoutAt (Has : ℕ → Type 0) (n from index : ℕ) : Type 0 where
  pub within : index < n
  pub from_on : from ≤ index
  pub here : Has index → ⊥
  pub before : (i : ℕ) → from ≤ i → i < index → Has i

-- the first index from `from` on and below n without this, and nothing if each has it
abbrev pub IsFirstWithout : (ℕ → Type 0) → ℕ → ℕ → Option ℕ → Type 0
IsFirstWithout Has n from (Some index) = IsFirstWithoutAt Has n from index
IsFirstWithout Has n from None = (i : ℕ) → from ≤ i → i < n → Has i

-- an internal node with this many bits and words has capacity for its entries, and no bit past them; only booleans need the row of numbers
pub record IsSoundInternal (kind : Kind) (bits words row_len numbers_len : ℕ) (children states : List Bool) : Type 0 where
  pub few_bits : bits ≤ 5
  pub few_words : words ≤ 512
  pub mask_capacity : entry_count bits ≤ 64 * words
  pub row_capacity : entry_count bits ≤ row_len
  pub numbers_capacity : kind ≡ truths → entry_count bits ≤ numbers_len
  pub no_child_past : IsOffFrom children (entry_count bits)
  pub no_state_past : IsOffFrom states (entry_count bits)
