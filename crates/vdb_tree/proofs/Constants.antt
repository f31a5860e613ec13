-- What the one tile or cell of a node says about its block.
use Rattle.vdb_tree.proofs.Common.{◌≡◌, inl, inr, ℕ, ◌+◌, ◌-◌, ◌*◌, ◌^◌, ◌<◌, ◌≤◌, List, length, refl, sym, ap, ◌∙◌, arith, ◌↔◌, Option, Some, slice_index_or, get_or_default, get_or_past, block_number, entries, node_bits, offset, AreBits, Bits, Coord, Level, corner, corner_of_entry, entries_is, offset_below, Leaf, HasChild, IsConstant, IsNextChildAt, cell_in, IsConstantLeaf, entry_count, Entry, Child, Tile, node_at, Cell, IsConstantBlock, IsChildless, IsNextCornerAt, IsTiled, Layout, cell_at, lower_entry, background_cell}
use Rattle.std.proofs.Common.{get_or}
use Rattle.std.proofs.Math.Pow.{pow_mono}
use Rattle.vdb_coord.proofs.Positions.{node_bits_fit}
use Rattle.vdb_node.specs.Leaf.{Leaf as LeafOf}
use Rattle.vdb_tree.proofs.Descents.{leaf_cell}
use Rattle.vdb_tree.proofs.Levels.{tile_no_child}
use Rattle.vdb_tree.proofs.Pools.{below_or}

-- a node has at least one entry, and not too many
pub entries_some : (bits : Bits) (level : Level) (p : Coord) → 1 ≤ entries bits level
entries_some bits level p = let k = offset_below bits level p in omega (arith, k)

pub entries_few : (bits : Bits) (level : Level) → AreBits bits → entries bits level ≤ 32768
entries_few bits level h =
    let b = node_bits_fit bits level h in
    let few : 3 * node_bits bits level ≤ 15 = omega (arith, b) in
    let small : 2 ^ (3 * node_bits bits level) ≤ 2 ^ 15 = pow_mono few in
    rw (entries_is bits level) small

pub last_within : (bits : Bits) (level : Level) (p : Coord) (n : ℕ) → n ≡ entries bits level → n - 1 < entry_count (node_bits bits level)
last_within bits level p n e = let k = entries_some bits level p in let f = entries_is bits level in omega (arith, k, e, f)

pub last_ends : (bits : Bits) (level : Level) (p : Coord) (n : ℕ) → n ≡ entries bits level → (n - 1) + 1 ≡ entries bits level
last_ends bits level p n e = let k = entries_some bits level p in omega (arith, k, e)

-- a list whose read at the last index doesn't depend on the default reads each earlier index independently of it
pub one_read : {A : Type 0} (xs : List A) (last : ℕ) (e : A) → ((d : A) → slice_index_or xs last d ≡ e) → (i : ℕ) → i < last + 1 → (d f : A) → slice_index_or xs i d ≡ slice_index_or xs i f
one_read xs last e h i k d f =
    elim (below_or last (length xs)) [
      | inl less ↦ get_or_default xs i d f (omega (arith, k, less))
      | inr more ↦ ap (get_or xs i) (sym (get_or_past xs last d more) ∙ h d ∙ sym (h f) ∙ get_or_past xs last f more)
    ]

-- a leaf whose read at the last index doesn't depend on the default reads each earlier index independently of it
pub one_cell : {V : Type 0} (leaf : LeafOf V) (last : ℕ) (e : Cell V) → ((d : Cell V) → cell_in d leaf last ≡ e) → (i : ℕ) → i < last + 1 → (d f : Cell V) → cell_in d leaf i ≡ cell_in f leaf i
one_cell leaf last e h i k d f =
    let same = one_read leaf.values last e.value (λ v. ap (λ (c : Cell _). c.value) (h (record { value = v; on = d.on }))) i k d.value f.value in
    rw same refl

-- what a node reads at its indexes is what its block has
module _ {D E : Type 0} (bits : Bits) (level : Level) (p : Coord) (g : Coord → E) (read : D → ℕ → E) (e : D) (x : E)
    (by : (q : Coord) → block_number bits level q ≡ block_number bits level p → g q ≡ read e (offset bits level q)) where
  pub block_from_node : ((d : D) (i : ℕ) → i < entry_count (node_bits bits level) → read d i ≡ x) → (q : Coord) → block_number bits level q ≡ block_number bits level p → g q ≡ x
  block_from_node h q b = by q b ∙ h e (offset bits level q) (rw (← entries_is bits level) (offset_below bits level q))

  pub node_from_block : (last : ℕ) → last + 1 ≡ entries bits level → ((i : ℕ) → i < last + 1 → (d f : D) → read d i ≡ read f i)
      → ((q : Coord) → block_number bits level q ≡ block_number bits level p → g q ≡ x) → (d : D) (i : ℕ) → i < entry_count (node_bits bits level) → read d i ≡ x
  node_from_block last end one h d i k =
      let small : i < entries bits level = rw (entries_is bits level) k in
      let at = corner_of_entry bits level p i small in
      one i (omega (arith, end, small)) d e ∙ ap (read e) (sym at.1) ∙ sym (by (corner bits level p i) at.0) ∙ h (corner bits level p i) at.0

-- a node is constant if and only if its block is
pub leaf_iff : {V : Type 0} (bits : Bits) (t : Layout V) (p : Coord) (s : ℕ) (leaf : LeafOf V) → lower_entry bits t p ≡ Child s → node_at t.leaves s ≡ Some leaf
    → (last : ℕ) → last + 1 ≡ entries bits Leaf → (e : Cell V) → ((d : Cell V) → cell_in d leaf last ≡ e) → (c : Cell V) (o : Option (Cell V))
    → ((o ≡ Some c) ↔ IsConstantLeaf leaf (entry_count (node_bits bits Leaf)) c) → (o ≡ Some c) ↔ IsConstantBlock bits Leaf t p c
leaf_iff bits t p s leaf child was last end e reads c o given =
    let by = leaf_cell bits t p s leaf child was in (
      (λ h. block_from_node bits Leaf p (cell_at bits t) (λ d i. cell_in d leaf i) (background_cell t) c by (given.0 h)),
      (λ h. given.1 (node_from_block bits Leaf p (cell_at bits t) (λ d i. cell_in d leaf i) (background_cell t) c by last end (one_cell leaf last e reads) h)),
    )

module _ {V : Type 0} (bits : Bits) (level : Level) (p : Coord) (entry : Coord → Entry V) (node : List (Entry V)) (x : Cell V)
    (by : (q : Coord) → block_number bits level q ≡ block_number bits level p → entry q ≡ slice_index_or node (offset bits level q) (Tile x)) where
  pub node_iff : (last : ℕ) → last + 1 ≡ entries bits level → (e : Entry V) → ((d : Entry V) → slice_index_or node last d ≡ e) → (c : Cell V) (o : Option (Cell V))
      → ((o ≡ Some c) ↔ IsConstant node (entry_count (node_bits bits level)) (Tile c)) → (o ≡ Some c) ↔ IsTiled bits level entry p c
  node_iff last end e reads c o given = (
    (λ h. block_from_node bits level p entry (λ d i. slice_index_or node i d) (Tile x) (Tile c) by (given.0 h)),
    (λ h. given.1 (node_from_block bits level p entry (λ d i. slice_index_or node i d) (Tile x) (Tile c) by last end (one_read node last e reads) h)),
  )

  -- a child isn't the default
  has_child : (i slot : ℕ) → slice_index_or node i (Tile x) ≡ Child slot → HasChild node i
  has_child i slot e = (
    slot,
    λ d.
        elim (below_or i (length node)) [
          | inl less ↦ get_or_default node i d (Tile x) less ∙ e
          | inr more ↦ absurd (tile_no_child x slot (sym (get_or_past node i (Tile x) more) ∙ e))
        ],
  )

  -- a node's next child is the next child of its block
  pub next_corner : (from index : ℕ) → IsNextChildAt node (entry_count (node_bits bits level)) from index → (q : Coord) → q ≡ corner bits level p index → IsNextCornerAt bits level entry p from index q
  next_corner from index next q is =
      let small : index < entries bits level = rw (entries_is bits level) next.within in
      let at = corner_of_entry bits level p index small in
      record {
        within = small;
        from_on = next.from_on;
        at = is;
        child = (next.here.0, ap entry is ∙ by (corner bits level p index) at.0 ∙ ap (λ i. slice_index_or node i (Tile x)) at.1 ∙ next.here.1 (Tile x));
        before = λ r slot b more less e. next.before (offset bits level r) more less (has_child (offset bits level r) slot (sym (by r b) ∙ e));
      }

  pub no_corner : (from : ℕ) → ((i : ℕ) → from ≤ i → i < entry_count (node_bits bits level) → HasChild node i → ⊥) → IsChildless bits level entry p from (entries bits level)
  no_corner from none r slot b more less e = none (offset bits level r) more (rw (← entries_is bits level) less) (has_child (offset bits level r) slot (sym (by r b) ∙ e))
