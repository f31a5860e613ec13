-- A leaf extent with the cells of another field, and its states in a mask.
use Rattle.vdb_morph.proofs.Common.{◌≡◌, refl, sym, ap, subst, ◌∙◌, ℕ, ◌*◌, ◌<◌, ◌≤◌, arith, Bool, true, false, cond, List, inl, inr, IsTrue, slice_index_or, block_number, offset, everywhere, is_inside, Bits, Coord, Leaf, coord_exact, entries_is, offset_below, is_on, IsConstantLeaf, entry_count, Cell, Field, field, off, IsLeafAround, with_leaf, cell_inside, same_cells, bool_cases, coord_cases, like_coords, unlike_coords, HasStates, is_around, taken, topology}
use Rattle.std.proofs.Math.Bool.{beq}
use Rattle.std.specs.Cmp.{bool_eq_equiv, booleans_Decides}
use Rattle.vdb_node.specs.Leaf.{cell_in, Leaf as LeafOf}
use Rattle.vdb_tree.specs.ConstantBlocks.{cell_eq}
use Rattle.vdb_tree.proofs.Uniform.{cell_exact}
use Rattle.vdb_morph.specs.internal.BlockStates.{of_mask}

-- a coordinate in p's leaf extent has p's block number
pub around_number : (bits : Bits) (p q : Coord) → IsTrue (is_around bits p q) → block_number bits Leaf q ≡ block_number bits Leaf p
around_number bits p q h = coord_exact (block_number bits Leaf q) (block_number bits Leaf p) h

pub number_around : (bits : Bits) (p q : Coord) → block_number bits Leaf q ≡ block_number bits Leaf p → IsTrue (is_around bits p q)
number_around bits p q e = like_coords (block_number bits Leaf q) (block_number bits Leaf p) e

-- an offset lies within a leaf
pub offset_within : (bits : Bits) (q : Coord) → offset bits Leaf q < entry_count bits.leaf
offset_within bits q = subst (λ k. offset bits Leaf q < k) (entries_is bits Leaf) (offset_below bits Leaf q)

-- and within the words of its mask
pub within_words : (bits : Bits) (q : Coord) (words : ℕ) → entry_count bits.leaf ≤ 64 * words → offset bits Leaf q < 64 * words
within_words bits q words capacity = let small = offset_within bits q in omega (arith, small, capacity)

under : {A : Type 0} (b : Bool) (x y z : A) → (IsTrue b → x ≡ y) → cond b x z ≡ cond b y z
under true x y z h = h refl
under false x y z h = refl

module _ {V : Type 0} where
  -- fields that agree if the test passes give the same result
  pub same_taken : (test : Coord → Bool) (f g h : Field V) → ((q : Coord) → IsTrue (is_inside everywhere q) → IsTrue (test q) → g.cell q ≡ h.cell q) → taken test g f ≡ taken test h f
  same_taken test f g h same = same_cells f.background _ _ (λ q inside. under (test q) (g.cell q) (h.cell q) (f.cell q) (same q inside))

  -- cells that the field already has may be copied into it
  pub stands_taken : (background : V) (cells : Coord → Cell V) (test : Coord → Bool) (g : Field V)
      → ((q : Coord) → IsTrue (is_inside everywhere q) → IsTrue (test q) → (field background cells).cell q ≡ g.cell q) → field background cells ≡ taken test g (field background cells)
  stands_taken background cells test g same = same_cells background cells _ (λ q inside.
      let at = cell_inside background cells q inside in
      elim (bool_cases (test q)) [
        | inl e ↦ rw e (sym at ∙ same q inside e)
        | inr e ↦ rw e (sym at)
      ])

-- boolean cells that compare equal are equal
pub same_truths : (c d : Cell Bool) (r : Bool) → r ≡ cell_eq beq c d → IsTrue r → c ≡ d
same_truths c d r is holds = cell_exact beq (λ x y. (booleans_Decides x y).0) bool_eq_equiv.refl c d (sym is ∙ holds)

-- ---- a boolean leaf whose values are false

-- with the values of a constant leaf
pub false_values : (n : ℕ) (constant leaf : LeafOf Bool) → IsConstantLeaf constant n (off false) → leaf.values ≡ constant.values → (d : Cell Bool) (i : ℕ) → i < n → (cell_in d leaf i).value ≡ false
false_values n constant leaf same values d i small = ap (λ (vs : List Bool). slice_index_or vs i d.value) values ∙ ap (λ (c : Cell Bool). c.value) (same d i small)

module _ (bits : Bits) (p : Coord) (leaf : LeafOf Bool) (mask : List Bool)
    (values : (d : Cell Bool) (i : ℕ) → i < entry_count bits.leaf → (cell_in d leaf i).value ≡ false)
    (states : (i : ℕ) → i < entry_count bits.leaf → is_on leaf.states i ≡ is_on mask i) where
  -- it has the cells that the mask encodes
  masked_cell : (d : Cell Bool) (q : Coord) → IsTrue (is_inside everywhere q) → cell_in d leaf (offset bits Leaf q) ≡ (of_mask bits mask).cell q
  masked_cell d q inside =
      let small = offset_within bits q in
      let value = values d (offset bits Leaf q) small in
      let on = states (offset bits Leaf q) small in
      rw inside (λ i. record { value = value i; on = on i })

  -- written as a whole
  pub leaf_taken : (f : Field Bool) → with_leaf bits p leaf f ≡ taken (is_around bits p) (of_mask bits mask) f
  leaf_taken f = same_cells f.background _ _ (λ q inside. elim (coord_cases (block_number bits Leaf q) (block_number bits Leaf p)) [
    | inl e ↦
        let there = like_coords (block_number bits Leaf p) (block_number bits Leaf q) (sym e) in
        let here = like_coords (block_number bits Leaf q) (block_number bits Leaf p) e in
        rw (there, here) (masked_cell (off f.background) q inside)
    | inr d ↦
        let there = unlike_coords (block_number bits Leaf p) (block_number bits Leaf q) (λ e. d (sym e)) in
        let here = unlike_coords (block_number bits Leaf q) (block_number bits Leaf p) d in
        rw (there, here) refl
  ])

  -- also if all its cells equal that of the tile
  pub tile_taken : (background : Bool) (cells : Coord → Cell Bool) (cell : Cell Bool) → IsConstantLeaf leaf (entry_count bits.leaf) cell
      → ((q : Coord) → IsTrue (is_inside everywhere q) → IsTrue (is_around bits p q) → (field background cells).cell q ≡ cell)
      → field background cells ≡ taken (is_around bits p) (of_mask bits mask) (field background cells)
  tile_taken background cells cell constant tile = stands_taken background cells (is_around bits p) (of_mask bits mask)
      (λ q inside around. tile q inside around ∙ sym (constant cell (offset bits Leaf q) (offset_within bits q)) ∙ masked_cell cell q inside)

-- the states of a block equal those of a field
pub states_taken : {V : Type 0} (bits : Bits) (p : Coord) (mask : List Bool) (f : Field Bool) (g : Field V) → HasStates bits g p mask
    → taken (is_around bits p) (of_mask bits mask) f ≡ taken (is_around bits p) (topology g) f
states_taken bits p mask f g has = same_taken (is_around bits p) f (of_mask bits mask) (topology g)
    (λ q inside around. let on = has q inside around in rw inside (λ i. record { value = false; on = on i }))

-- the states of p's block in its leaf, or in its tile
pub leaf_states : {V : Type 0} (bits : Bits) (p : Coord) (mask : List Bool) (f : Field V) (leaf : LeafOf V) → IsLeafAround bits f p leaf → mask ≡ leaf.states → HasStates bits f p mask
leaf_states bits p mask f leaf around same q inside here =
    ap (λ (m : List Bool). is_on m (offset bits Leaf q)) same ∙ sym (ap (λ (c : Cell _). c.on) (around q inside (around_number bits p q here)))

pub tile_states : {V : Type 0} (bits : Bits) (p : Coord) (mask : List Bool) (words : ℕ) (f : Field V) (tile : Cell V) → entry_count bits.leaf ≤ 64 * words
    → ((i : ℕ) → i < 64 * words → is_on mask i ≡ tile.on) → tile ≡ f.cell p
    → ((q : Coord) → IsTrue (is_inside everywhere q) → block_number bits Leaf q ≡ block_number bits Leaf p → f.cell q ≡ f.cell p) → HasStates bits f p mask
tile_states bits p mask words f tile capacity on is all q inside here =
    on (offset bits Leaf q) (within_words bits q words capacity) ∙ ap (λ (c : Cell _). c.on) (is ∙ sym (all q inside (around_number bits p q here)))
