-- What a contract sees of a leaf.
use Rattle.std.specs.Prelude.{◌≡◌, ◌≢◌, ◌*◌, ◌<◌, ◌≤◌, ℕ, Bool, List, slice_index_or, refl}
use Rattle.std.specs.Coded.{Coded, code_by, coded_bool, coded_list, coded×}
use Rattle.vdb_mask.specs.Mask.{is_on}
use Rattle.vdb_node.specs.Nodes.{entry_count, IsOffFrom}
use Rattle.vdb_value.specs.declared.Cell.{Cell}

-- the values and the states of the entries, by index
pub record Leaf (V : Type 0) : Type 0 where
  pub values : List V
  pub states : List Bool

-- how the logic stores a leaf, from how it stores its values
abbrev pub leaf_code : {V : Type 0} → Coded V → Coded (Leaf V)
leaf_code {V} code =
    code_by
    (List V × List Bool)
    (coded× (coded_list code) (coded_list coded_bool))
    (λ l. (l.values, l.states))
    (λ p. record { values = p.0; states = p.1 })
    (λ _. refl)

-- the cell at an index, with the value of `d` past the last entry
abbrev pub cell_in : {V : Type 0} → Cell V → Leaf V → ℕ → Cell V
cell_in d leaf i = record { value = slice_index_or leaf.values i d.value; on = is_on leaf.states i }

-- the new leaf has this cell at the index, and at every other what the old one has
pub record SetsVoxel {V : Type 0} (old new : Leaf V) (i : ℕ) (cell : Cell V) : Type 0 where
  pub changed : (d : Cell V) → cell_in d new i ≡ cell
  pub others : (d : Cell V) (j : ℕ) → j ≢ i → cell_in d new j ≡ cell_in d old j

-- the new leaf has this cell from one index on and below another, and elsewhere what the old one has
pub record FillsRun {V : Type 0} (old new : Leaf V) (from to : ℕ) (cell : Cell V) : Type 0 where
  pub changed : (d : Cell V) (i : ℕ) → from ≤ i → i < to → cell_in d new i ≡ cell
  pub before : (d : Cell V) (i : ℕ) → i < from → cell_in d new i ≡ cell_in d old i
  pub after : (d : Cell V) (i : ℕ) → to ≤ i → cell_in d new i ≡ cell_in d old i

-- each of the first n cells is this
abbrev pub IsConstantLeaf : {V : Type 0} → Leaf V → ℕ → Cell V → Type 0
IsConstantLeaf {V} leaf n cell = (d : Cell V) (i : ℕ) → i < n → cell_in d leaf i ≡ cell

-- a leaf with this many bits and words has capacity for its entries, and no state past them
pub record IsSoundLeaf (bits words row_len : ℕ) (states : List Bool) : Type 0 where
  pub few_bits : bits ≤ 5
  pub few_words : words ≤ 512
  pub mask_capacity : entry_count bits ≤ 64 * words
  pub row_capacity : entry_count bits ≤ row_len
  pub past_end : IsOffFrom states (entry_count bits)
