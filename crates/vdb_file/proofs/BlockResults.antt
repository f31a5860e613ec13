-- The result of a block that was read, by the answer of its reader's last call.
use Rattle.vdb_file.proofs.Common.{◌≡◌, ℕ, ◌≤◌, Bool, true, false, List, ◌||◌, length, refl, sym, ap, subst, ◌∙◌, Result, Ok, Err, IfErr, Contains, block_around, entries, entry_numbers, sub_block, AreBits, Box, everywhere, is_inside, Bits, Coord, Level, Leaf, Cell, is_constant, Field, field, fill, with_leaf, block_bytes, leaf_body, listed, voxel_body, LoadFault, Memory, Node, HasValues, IsMixed, leaf_field, voxel_count, voxels_bytes, IsSpelled, ShowsIn, ShowsInEach, Fails, Position, Reads, Took, numbered}
use Rattle.std.specs.Prelude.{OnOk}
use Rattle.vdb_node.specs.Leaf.{Leaf as LeafOf}
use Rattle.vdb_file.specs.declared.loading.block_head.Head.TheVariants.{One}
use Rattle.vdb_file.specs.internal.Loading.{head_bytes}
use Rattle.vdb_file.proofs.Agreement.{Agree, AreValues}
use Rattle.vdb_file.proofs.BlockReads.{no_block_list, node_read, node_shows, one_read}
use Rattle.vdb_file.proofs.Fronts.{fails_silent, fails_turn}
use Rattle.vdb_file.proofs.LoadedBlocks.{fill_constant, fill_corner, fill_shows, fill_values, leaf_agrees, leaf_values}
use Rattle.vdb_file.proofs.RowFrames.{agree_in_entry, constant_same, corner_in_block, listed_same, member_below}
use Rattle.vdb_file.proofs.RowInstances.{is_leaf_row}
use Rattle.vdb_file.proofs.Rows.{texts_same}

-- ---- allocation failures

-- an allocation failure claims nothing about the bytes
memory_silent : {A : Type 0} (P : A → Type 0) (code : A → List ℕ) (fault : LoadFault) (old : Position) → fault ≡ Memory → Fails P code fault old
memory_silent P code fault old e = rw e (fails_silent P code Memory old (λ claims. claims))

module _ {V : Type 0} {eq : V → V → Bool} {value_bytes : V → List ℕ} {P : V → Type 0} (values : AreValues eq value_bytes P) (bits : Bits) (few : AreBits bits) (level : Level) (p : Coord) (entry : Field V → Box → List ℕ) (background : V) where
  abbrev b : Box
  b = block_around bits level p

  abbrev body : Field V → List ℕ
  body f = block_bytes eq value_bytes bits f (entry f) level b

  abbrev list : Field V → List ℕ
  list f = numbered (λ i. entry f (sub_block bits level b i)) (listed eq value_bytes bits f level b)

  abbrev Mixed : ℕ → Field V → Type 0
  Mixed n f = ShowsInEach eq P background (sub_block bits level b) (entry_numbers bits level) n f × (is_constant eq f b ≡ false)

  -- a block of one cell
  pub one_result : is_inside everywhere p ≡ true → (cells : Coord → Cell V) → HasValues P background (field background cells) → (cell : Cell V) → IsSpelled eq P background cell → (old mid : Position) → Took old mid (head_bytes eq value_bytes (One cell))
      → (new : Field V) (result : Result (Unit {0}) LoadFault) → IfErr result (λ fault. fault ≡ Memory) → OnOk result (new ≡ fill b cell (field background cells)) → Reads (λ _. new) (ShowsIn eq P background b) body result old mid
  one_result inside cells has cell spelled old mid took new (Ok x) memory is =
      let filled : Field V = fill b cell (field background cells) in
      let at : filled.cell b.min ≡ cell = fill_corner values bits few level p inside background cells cell has in
      subst (λ (f : Field V). ShowsIn eq P background b f × Took old mid (body f)) (sym is) (
        record { values = fill_values values bits few level p inside background cells cell has spelled.value; shown = fill_shows values bits few level p inside background cells cell has spelled.other },
        one_read values bits few level p entry background cell filled old mid (fill_constant values bits few level p inside background cells cell has) at took,
      )
  one_result inside cells has cell spelled old mid took new (Err fault) memory is = memory_silent (ShowsIn eq P background b) body fault old memory

  -- a block whose cells differ
  pub node_result : (n : ℕ) → (1 ≤ n) × (n ≤ entries bits level) → (old mid end : Position) → Took old mid (head_bytes eq value_bytes (Node n)) → (new : Field V) (result : Result (Unit {0}) LoadFault) → Reads (λ _. new) (Mixed n) list result mid end
      → Reads (λ _. new) (ShowsIn eq P background b) body result old end
  node_result n fits old mid end took new (Ok x) h = (node_shows values bits few level p entry background n new h.0, node_read values bits few level p entry background n new old mid end h.0 took h.1)
  node_result n fits old mid end took new (Err fault) h = no_block_list values bits few level p entry background n fits fault old mid took h

module _ {V : Type 0} {eq : V → V → Bool} {value_bytes : V → List ℕ} {P : V → Type 0} (values : AreValues eq value_bytes P) (bits : Bits) (few : AreBits bits) (p : Coord) (inside : is_inside everywhere p ≡ true) (background : V) (cells : Coord → Cell V) (has : HasValues P background (field background cells)) where
  -- this many voxels of a leaf block whose cells differ
  abbrev Voxels : ℕ → Field V → Type 0
  Voxels n f = IsMixed eq P background bits p f × (voxel_count eq value_bytes bits p f ≡ n)

  -- the leaf's cells are those of the tree
  pub leaf_result : (n : ℕ) (leaf : LeafOf V) → Voxels n (leaf_field bits p background leaf) → (old mid : Position) → Took old mid (voxels_bytes eq value_bytes bits p (leaf_field bits p background leaf))
      → (new : Field V) (result : Result (Unit {0}) LoadFault) → IfErr result (λ fault. fault ≡ Memory) → OnOk result (new ≡ with_leaf bits p leaf (field background cells)) → Reads (λ _. new) (Voxels n) (voxels_bytes eq value_bytes bits p) result old mid
  leaf_result n leaf of_leaf old mid took new (Ok x) memory is =
      let alone : Field V = leaf_field bits p background leaf in
      let after : Field V = with_leaf bits p leaf (field background cells) in
      let agree : Agree alone after (block_around bits Leaf p) = leaf_agrees P bits few p inside background cells leaf in
      let each : (i : ℕ) → Contains (entry_numbers bits Leaf) i → Agree alone after (sub_block bits Leaf (block_around bits Leaf p) i) = λ i m. agree_in_entry alone after bits Leaf p i (member_below bits Leaf i m) agree in
      let texts = texts_same values (is_leaf_row values bits few p) alone after refl each in
      subst (λ (f : Field V). Voxels n f × Took old mid (voxels_bytes eq value_bytes bits p f)) (sym is) (
        (
          record {
            values = leaf_values P bits few p inside background cells leaf has of_leaf.0.values;
            differs = sym (constant_same values alone after (block_around bits Leaf p) (corner_in_block bits Leaf p) agree) ∙ of_leaf.0.differs;
          },
          sym (ap length (listed_same values alone after refl bits Leaf p agree)) ∙ of_leaf.1,
        ),
        subst (Took old mid) texts took,
      )
  leaf_result n leaf of_leaf old mid took new (Err fault) memory is = memory_silent (Voxels n) (voxels_bytes eq value_bytes bits p) fault old memory

module _ {V : Type 0} {eq : V → V → Bool} {value_bytes : V → List ℕ} {P : V → Type 0} (values : AreValues eq value_bytes P) (bits : Bits) (few : AreBits bits) (p : Coord) (background : V) where
  abbrev Those : ℕ → Field V → Type 0
  Those n f = IsMixed eq P background bits p f × (voxel_count eq value_bytes bits p f ≡ n)

  abbrev AnyOf : ℕ → Field V → Type 0
  AnyOf n f = ShowsInEach eq P background (sub_block bits Leaf (block_around bits Leaf p)) (entry_numbers bits Leaf) n f × (is_constant eq f (block_around bits Leaf p) ≡ false)

  -- a leaf block of such voxels
  pub voxels_result : (n : ℕ) → (1 ≤ n) × (n ≤ entries bits Leaf) → (old mid end : Position) → Took old mid (head_bytes eq value_bytes (Node n)) → (new : Field V) (result : Result (Unit {0}) LoadFault) → Reads (λ _. new) (Those n) (voxels_bytes eq value_bytes bits p) result mid end
      → Reads (λ _. new) (ShowsIn eq P background (block_around bits Leaf p)) (λ f. leaf_body eq value_bytes bits f (block_around bits Leaf p)) result old end
  voxels_result n fits old mid end took new (Ok x) h =
      node_result values bits few Leaf p (voxel_body eq value_bytes bits) background n fits old mid end took new (Ok x) ((record { values = h.0.0.values; counted = h.0.1 }, h.0.0.differs), h.1)
  voxels_result n fits old mid end took new (Err fault) h =
      node_result values bits few Leaf p (voxel_body eq value_bytes bits) background n fits old mid end took new (Err fault)
      (fails_turn (AnyOf n) (voxels_bytes eq value_bytes bits p) (Those n) (voxels_bytes eq value_bytes bits p) (λ f. f) fault mid (λ f q. (record { values = q.0.values; differs = q.1 }, q.0.counted)) (λ f q. refl) h)
