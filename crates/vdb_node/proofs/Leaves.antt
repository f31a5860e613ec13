-- What a leaf shows of its row and its mask.
use Rattle.vdb_node.proofs.Common.{◌≡◌, ◌≢◌, ◌<◌, ◌≤◌, ℕ, Bool, true, List, ap, sym, ◌∙◌, refl, inl, inr, arith, ◌↔◌, ◌||◌, if◌then◌else◌, Option, Some, None, or-false, cases_Bool, cases_lt, is_on, cell_in, listed, Cell}
use Rattle.std.proofs.Math.Bool.{or-true}
use Rattle.vdb_node.specs.Blends.{AreBlended, LacksBlend}
use Rattle.vdb_node.specs.Leaf.{Leaf, FillsRun, IsConstantLeaf, SetsVoxel}
use Rattle.vdb_node.proofs.Listed.{get_or-listed, get_or-listed_past, listed_same}

-- a cell of these two parts
abbrev pub cell_of : {V : Type 0} → V → Bool → Cell V
cell_of value on = record { value = value; on = on }

-- the leaf of a row's first n values and a mask
abbrev pub leaf_of : {V : Type 0} → (ℕ → V) → ℕ → List Bool → Leaf V
leaf_of value_at n states = record { values = listed value_at n; states = states }

module _ {V : Type 0} (value_at : ℕ → V) (n : ℕ) (states : List Bool) where
  -- below the entry count the leaf has the row's value with the mask's state
  pub cell_in-leaf_of : (d : Cell V) (i : ℕ) → i < n → cell_in d (leaf_of value_at n states) i ≡ cell_of (value_at i) (is_on states i)
  cell_in-leaf_of d i h = ap (λ (v : V). cell_of v (is_on states i)) (get_or-listed value_at n i d.value h)

  -- a leaf of one value and one state is constant
  pub IsConstantLeaf-leaf_of : (cell : Cell V) → ((i : ℕ) → i < n → value_at i ≡ cell.value) → ((i : ℕ) → i < n → is_on states i ≡ cell.on)
      → IsConstantLeaf (leaf_of value_at n states) n cell
  IsConstantLeaf-leaf_of cell values on d i h = cell_in-leaf_of d i h ∙ rw (values i h, on i h) refl

  -- a constant leaf has one value
  pub same_values : (cell : Cell V) → 0 < n → IsConstantLeaf (leaf_of value_at n states) n cell → (i : ℕ) → i < n → value_at i ≡ cell.value
  same_values cell some constant i h = ap (λ (c : Cell V). c.value) (sym (cell_in-leaf_of cell i h) ∙ constant cell i h)

  -- a constant leaf has one state
  pub same_states : (cell : Cell V) → 0 < n → IsConstantLeaf (leaf_of value_at n states) n cell → (i : ℕ) → i < n → is_on states i ≡ cell.on
  same_states cell some constant i h = ap (λ (c : Cell V). c.on) (sym (cell_in-leaf_of cell i h) ∙ constant cell i h)

-- rows with the same first values give, with one mask, the same leaf
pub same_leaf : {V : Type 0} (f g : ℕ → V) (n : ℕ) (states states' : List Bool) → ((i : ℕ) → i < n → f i ≡ g i) → states ≡ states' → leaf_of f n states ≡ leaf_of g n states'
same_leaf f g n states states' values on = rw (listed_same f g n values, on) refl

-- one entry of the row and of the mask changes
pub SetsVoxel-leaf_of : {V : Type 0} (old new : ℕ → V) (n : ℕ) (states states' : List Bool) (i : ℕ) (cell : Cell V) → i < n
    → new i ≡ cell.value → ((j : ℕ) → j ≢ i → new j ≡ old j)
    → is_on states' i ≡ cell.on → ((j : ℕ) → j ≢ i → is_on states' j ≡ is_on states j)
    → SetsVoxel (leaf_of old n states) (leaf_of new n states') i cell
SetsVoxel-leaf_of {V} old new n states states' i cell h here others here' others' =
    record {
      changed = λ d. cell_in-leaf_of new n states' d i h ∙ rw (here, here') refl;
      others = λ d j other.
          elim (cases_lt j n) [
            | inl below ↦
                cell_in-leaf_of new n states' d j below ∙ (rw (others j other, others' j other) refl) ∙ sym (cell_in-leaf_of old n states d j below)
            | inr past ↦
                rw (get_or-listed_past new n j d.value past, get_or-listed_past old n j d.value past, others' j other) refl
          ];
    }

-- if the value and the state stay, the cell does
pub cell_kept : {V : Type 0} (old new : ℕ → V) (n : ℕ) (states states' : List Bool) (d : Cell V) (i : ℕ) → new i ≡ old i → is_on states' i ≡ is_on states i
    → cell_in d (leaf_of new n states') i ≡ cell_in d (leaf_of old n states) i
cell_kept old new n states states' d i value state =
    elim (cases_lt i n) [
      | inl below ↦ cell_in-leaf_of new n states' d i below ∙ (rw (value, state) refl) ∙ sym (cell_in-leaf_of old n states d i below)
      | inr past ↦ rw (get_or-listed_past new n i d.value past, get_or-listed_past old n i d.value past, state) refl
    ]

-- a run of the row and of the mask changes
pub FillsRun-leaf_of : {V : Type 0} (old new : ℕ → V) (n : ℕ) (states states' : List Bool) (from to : ℕ) (cell : Cell V) → to ≤ n
    → ((i : ℕ) → from ≤ i → i < to → new i ≡ cell.value) → ((i : ℕ) → i < from → new i ≡ old i) → ((i : ℕ) → to ≤ i → new i ≡ old i)
    → ((i : ℕ) → from ≤ i → i < to → is_on states' i ≡ cell.on) → ((i : ℕ) → i < from → is_on states' i ≡ is_on states i)
    → ((i : ℕ) → to ≤ i → is_on states' i ≡ is_on states i) → FillsRun (leaf_of old n states) (leaf_of new n states') from to cell
FillsRun-leaf_of old new n states states' from to cell h run before after run' before' after' =
    record {
      changed = λ d i least less. cell_in-leaf_of new n states' d i (omega (arith, h, less)) ∙ rw (run i least less, run' i least less) refl;
      before = λ d i less. cell_kept old new n states states' d i (before i less) (before' i less);
      after = λ d i past. cell_kept old new n states states' d i (after i past) (after' i past);
    }

module _ {V : Type 0} (value_at : ℕ → V) (n : ℕ) (states : List Bool) (some : 0 < n) where
  -- if the values are all equal and the states are, the first cell is the one of all
  pub constant_alike : (first : Cell V) → ((i : ℕ) → i < n → is_on states i ≡ is_on states 0) → ((i : ℕ) → i < n → value_at i ≡ value_at 0)
      → cell_in first (leaf_of value_at n states) 0 ≡ first
      → (cell : Cell V) → (Some first ≡ Some cell) ↔ IsConstantLeaf (leaf_of value_at n states) n cell
  constant_alike first on values here cell =
      let at_first : cell_of (value_at 0) (is_on states 0) ≡ first = sym (cell_in-leaf_of value_at n states first 0 some) ∙ here in
      let value : value_at 0 ≡ first.value = ap (λ (c : Cell V). c.value) at_first in
      let state : is_on states 0 ≡ first.on = ap (λ (c : Cell V). c.on) at_first in (
        λ e.
            let same : first ≡ cell = cc in
            rw (← same)
            (IsConstantLeaf-leaf_of value_at n states first (λ i h. values i h ∙ value) (λ i h. on i h ∙ state)),
        λ constant. ap Some (sym here ∙ constant first 0 some),
      )

  -- if the values or the states are not all equal, the leaf has no one cell
  pub constant_mixed : (((i : ℕ) → i < n → is_on states i ≡ is_on states 0) → ((i : ℕ) → i < n → value_at i ≡ value_at 0) → ⊥)
      → (cell : Cell V) → (None ≡ Some cell) ↔ IsConstantLeaf (leaf_of value_at n states) n cell
  constant_mixed differ cell = (
    λ e. absurd (cc),
    λ constant.
        absurd
        (differ
        (λ i h. same_states value_at n states cell some constant i h ∙ sym (same_states value_at n states cell some constant 0 some))
        (λ i h. same_values value_at n states cell some constant i h ∙ sym (same_values value_at n states cell some constant 0 some))),
  )

module _ {V : Type 0} (blend : V → V → Option V) (old : ℕ → V) (n : ℕ) (states : List Bool) (other : Cell V → ℕ → Cell V) (others : ℕ → V) (on : ℕ → Bool)
    (given : (d : Cell V) (i : ℕ) → i < n → other d i ≡ cell_of (others i) (on i)) where
  -- each value combines two, and so does each state
  pub AreBlended-leaf_of : (new : ℕ → V) (states' : List Bool) → ((i : ℕ) → i < n → blend (old i) (others i) ≡ Some (new i))
      → ((i : ℕ) → i < n → is_on states' i ≡ (is_on states i || on i))
      → AreBlended blend n (leaf_of old n states) other (leaf_of new n states')
  AreBlended-leaf_of new states' values joined = λ d i h. (
    rw (get_or-listed old n i d.value h, get_or-listed new n i d.value h, given d i h) (values i h),
    rw (given d i h) (joined i h),
  )

  -- some two values do not combine
  pub LacksBlend-leaf_of : ((i : ℕ) × (i < n) × (blend (old i) (others i) ≡ None)) → LacksBlend blend n (leaf_of old n states) other
  LacksBlend-leaf_of (i, h, none) = (i, h, λ d. rw (get_or-listed old n i d.value h, given d i h) none)

-- the cells of another leaf are copied if they are on
pub takes_active-leaf_of : {V : Type 0} (old other new : ℕ → V) (n : ℕ) (states others states' : List Bool)
    → ((i : ℕ) → i < n → new i ≡ (if is_on others i then other i else old i))
    → ((i : ℕ) → is_on states' i ≡ (is_on states i || is_on others i))
    → (d : Cell V) (i : ℕ) → i < n
    → cell_in d (leaf_of new n states') i ≡ (if is_on others i then cell_in d (leaf_of other n others) i else cell_in d (leaf_of old n states) i)
takes_active-leaf_of old other new n states others states' taken joined d i h =
    elim (cases_Bool (is_on others i)) [
      | inl on ↦
          let value : new i ≡ other i = taken i h ∙ rw on refl in
          let state : is_on states' i ≡ true = joined i ∙ rw on (or-true (is_on states i)) in
          cell_in-leaf_of new n states' d i h ∙ rw (value, state, on) (rw (get_or-listed other n i d.value h) refl)
      | inr off ↦
          let value : new i ≡ old i = taken i h ∙ rw off refl in
          let state : is_on states' i ≡ is_on states i = joined i ∙ rw off (or-false (is_on states i)) in
          cell_in-leaf_of new n states' d i h ∙ rw (value, state, off) (rw (get_or-listed old n i d.value h) refl)
    ]
