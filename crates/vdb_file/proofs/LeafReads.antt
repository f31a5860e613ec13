-- The voxels of a leaf block, read one after another into a leaf.
use Rattle.vdb_file.proofs.Common.{◌≡◌, ℕ, zero, suc, ◌+◌, ◌*◌, ◌<◌, ◌≤◌, ◌^◌, Bool, true, false, not, List, [], ◌∷◌, ◌++◌, length, length-append, append-nil, refl, sym, ap, subst, ◌∙◌, ◌⊎◌, inl, inr, arith, ◌↔◌, Option, Some, None, Result, Ok, Err, IfErr, IsTrue, if◌then◌else◌, w16, to_be_bytes, flat_map, nat_cmp, cases_Bool, block_around, block_number, entries, offset, sub_block, AreBits, Box, coord_eq, is_inside, Bits, Coord, Leaf, not_true, coord_equiv, coord_exact, corner_inside, corner_of_entry, entry_holds, in_entry, inside_numbered, number_in_block, voxel_from_leaf, offset_below, IsConstantLeaf, SetsVoxel, cell_in, entry_count, are_bytes_of, byte_count, Cell, Kind, cell_eq, is_background, is_constant, Field, off, cell_exact, cell_same, uniform_cells, uniform_from, cell_bytes, listed, voxel_body, LoadFault, Follows, HasValues, IsMixed, voxel_count, voxels_bytes, IsIndex, IsSpelled, Fails, Position, Reads, Took}
use Rattle.std.specs.Prelude.{IfOk, ◌-◌}
use Rattle.std.specs.Cmp.{nat_cmp_is}
use Rattle.std.proofs.Math.Dec.{ltb}
use Rattle.std.proofs.lemmas.Bool.{le-ltb, lt-ltb, ltb-false, ltb-true}
use Rattle.std.specs.declared.cmp.Ordering.TheVariants.{Less}
use Rattle.std.proofs.lemmas.List.{get_or_default}
use Rattle.vdb_coord.proofs.Positions.{entries_is}
use Rattle.vdb_node.specs.Leaf.{Leaf as LeafOf}
use Rattle.vdb_file.specs.internal.LeafVoxels.{IsFilled, IsVoxel, cells_field, voxel_bytes}
use Rattle.vdb_file.proofs.Unambiguous.{IsCode, says_fixed}
use Rattle.vdb_file.proofs.Numbers.{says_u16}
use Rattle.vdb_file.proofs.ValueCodes.{bytes_count}
use Rattle.vdb_file.proofs.Agreement.{Agree, AreValues, is_held}
use Rattle.vdb_file.proofs.Ordered.{by_member, last_more, last_of, none_kept}
use Rattle.vdb_file.proofs.Fronts.{fails_after, fails_first, fails_none, fails_turn}
use Rattle.vdb_file.proofs.RowFrames.{below_member, corner_in_block, member_below}
use Rattle.vdb_file.proofs.Rows.{Adds, Row, adds_outside, held, held_more, texts_more}
use Rattle.vdb_file.proofs.RowReads.{IsNextOf, entry_bytes, entry_read, no_row, within}
use Rattle.vdb_file.proofs.RowInstances.{agree_from_entries, is_leaf_row, leaf_row}

-- ---- tests and numbers

-- a test has one answer
clash : (b : Bool) → b ≡ true → b ≡ false → ⊥
clash true p q = cc
clash false p q = cc

-- a number past another one, and not equal to it
further : (a b : ℕ) → b ≤ a → (a ≡ b → ⊥) → b + 1 ≤ a
further a b past differ = elim (cases_Bool (ltb b a)) [
  | inl l ↦ let less = ltb-true b a l in omega (arith, less)
  | inr g ↦ absurd (differ (let h = ltb-false b a g in omega (arith, h, past)))
]

-- two numbers are equal or not
same_or_other : (i j : ℕ) → (i ≡ j) ⊎ ((i ≡ j) → ⊥)
same_or_other zero zero = inl refl
same_or_other zero (suc j) = inr (λ e. absurd (omega (arith, e)))
same_or_other (suc i) zero = inr (λ e. absurd (omega (arith, e)))
same_or_other (suc i) (suc j) = elim (same_or_other i j) [
  | inl e ↦ inl (ap suc e)
  | inr differ ↦ inr (λ e. differ (omega (arith, e)))
]

-- a leaf has as many entries as its block
pub entries_are : (bits : Bits) (leaf_bits : ℕ) → bits.leaf ≡ leaf_bits → entries bits Leaf ≡ entry_count leaf_bits
entries_are bits leaf_bits e = entries_is bits Leaf ∙ ap (λ (n : ℕ). 2 ^ (3 * n)) e

-- ---- one voxel

module _ {V : Type 0} (eq : V → V → Bool) (value_bytes : V → List ℕ) (P : V → Type 0) (background : V) (most : ℕ) (before : Option ℕ) (fault : LoadFault) (old : Position) where
  -- no number is ahead
  pub no_index : Fails (IsIndex most before) (to_be_bytes w16) fault old → Fails (IsVoxel eq P background most before) (voxel_bytes eq value_bytes) fault old
  no_index h =
      fails_first (IsVoxel eq P background most before) (voxel_bytes eq value_bytes) (IsIndex most before) (to_be_bytes w16) (λ e. e.0) (λ e. cell_bytes eq value_bytes e.1) fault old (λ e is. is.index) (λ e is. refl) h

  -- a number was read, and no cell is ahead
  pub no_cell : most < 2 ^ 16 → (mid : Position) (i : ℕ) → IsIndex most before i → Took old mid (to_be_bytes w16 i) → Fails (IsSpelled eq P background) (cell_bytes eq value_bytes) fault mid → Fails (IsVoxel eq P background most before) (voxel_bytes eq value_bytes) fault old
  no_cell small mid i index took h =
      fails_after (IsVoxel eq P background most before) (voxel_bytes eq value_bytes) (to_be_bytes w16 i) (λ e. i ≡ e.0) (λ e. to_be_bytes w16 e.0) (λ e. cell_bytes eq value_bytes e.1) fault old mid took
      (λ e is. let within = index.within in let other = is.index.within in says_u16 i e.0 (omega (arith, within, small)) (omega (arith, other, small))) (λ e is. refl)
      (fails_turn (λ e. IsVoxel eq P background most before e × (i ≡ e.0)) (λ e. cell_bytes eq value_bytes e.1) (IsSpelled eq P background) (cell_bytes eq value_bytes) (λ e. e.1) fault mid (λ e is. is.0.cell) (λ e is. refl) h)

module _ {V : Type 0} (eq : V → V → Bool) (value_bytes : V → List ℕ) where
  -- as many bytes as a voxel has were read: they are a voxel's, or no voxel is ahead
  pub voxel_answer : (P : V → Type 0) (kind : Kind) → ((x : V) → P x → IsTrue (are_bytes_of kind (value_bytes x))) → (background : V) (most : ℕ) (before : Option ℕ) (old mid : Position) (bytes : List ℕ) → length bytes ≡ 3 + byte_count kind → Took old mid bytes
      → (result : Result (ℕ × Cell V) LoadFault) → IfOk result (IsVoxel eq P background most before) → IfOk result (λ e. voxel_bytes eq value_bytes e ≡ bytes)
      → IfErr result (λ fault. (e : ℕ × Cell V) → IsVoxel eq P background most before e → voxel_bytes eq value_bytes e ≡ bytes → ⊥) → Reads (λ e. e) (IsVoxel eq P background most before) (voxel_bytes eq value_bytes) result old mid
  voxel_answer P kind known background most before old mid bytes long took (Ok e) is same none = (is, subst (Took old mid) (sym same) took)
  voxel_answer P kind known background most before old mid bytes long took (Err fault) is same none =
      fails_after (IsVoxel eq P background most before) (voxel_bytes eq value_bytes) bytes (λ e. bytes ≡ voxel_bytes eq value_bytes e) (voxel_bytes eq value_bytes) (λ e. []) fault old mid took
      (λ e v. says_fixed bytes (voxel_bytes eq value_bytes e) (let count = bytes_count kind (value_bytes e.1.value) (known e.1.value v.cell.value) in omega (arith, long, count)))
      (λ e v. sym (append-nil (voxel_bytes eq value_bytes e)))
      (fails_none (λ e. IsVoxel eq P background most before e × (bytes ≡ voxel_bytes eq value_bytes e)) (λ e. []) fault mid (λ e v. none e v.0 (sym v.1)))

-- ---- a leaf as a field

module _ {V : Type 0} (bits : Bits) (p : Coord) (background : V) (cells : ℕ → Cell V) where
  -- within the block the field has the leaf's cells
  leaf_cell : (q : Coord) → block_number bits Leaf q ≡ block_number bits Leaf p → (cells_field bits p background cells).cell q ≡ cells (offset bits Leaf q)
  leaf_cell q e =
      let here : coord_eq (block_number bits Leaf p) (block_number bits Leaf q) ≡ true = ap (coord_eq (block_number bits Leaf p)) e ∙ coord_equiv.refl (block_number bits Leaf p) in
      ap (λ (b : Bool). if b then cells (offset bits Leaf q) else off background) here

  -- elsewhere it has the background
  other_cell : (q : Coord) → coord_eq (block_number bits Leaf p) (block_number bits Leaf q) ≡ false → (cells_field bits p background cells).cell q ≡ off background
  other_cell q e = ap (λ (b : Bool). if b then cells (offset bits Leaf q) else off background) e

-- each cell of the leaf has a value with P
abbrev pub AreCells : {V : Type 0} → (V → Type 0) → Bits → (ℕ → Cell V) → Type 0
AreCells P bits cells = (i : ℕ) → i < entries bits Leaf → P (cells i).value

-- the new cells have this one at a number, and are the old ones at all others
pub record HasPut {V : Type 0} (old new : ℕ → Cell V) (i : ℕ) (cell : Cell V) : Type 0 where
  pub here : new i ≡ cell
  pub others : (j : ℕ) → (j ≡ i → ⊥) → new j ≡ old j

-- the voxels read so far: this many, the last of them with this number
pub record HasRead {V : Type 0} (eq : V → V → Bool) (value_bytes : V → List ℕ) (bits : Bits) (background : V) (p : Coord) (cells : ℕ → Cell V) (old now : Position) (n : ℕ) (before : Option ℕ) : Type 0 where
  pub took : Took old now (voxels_bytes eq value_bytes bits p (cells_field bits p background cells))
  pub count : voxel_count eq value_bytes bits p (cells_field bits p background cells) ≡ n
  pub last : before ≡ last_of None (listed eq value_bytes bits (cells_field bits p background cells) Leaf (block_around bits Leaf p))

module _ {V : Type 0} {eq : V → V → Bool} {value_bytes : V → List ℕ} {P : V → Type 0} (values : AreValues eq value_bytes P) (bits : Bits) (few : AreBits bits) (background : V) where
  -- at first no voxel is read
  pub first_cells : (leaf : LeafOf V) → P background → (n : ℕ) → entries bits Leaf ≡ n → IsConstantLeaf leaf n (off background) → AreCells P bits (cell_in (off background) leaf)
  first_cells leaf fits n e constant i less = subst (λ (c : Cell V). P c.value) (sym (constant (off background) i (omega (arith, less, e)))) fits

  -- after one more cell
  pub more_cells : (old new : ℕ → Cell V) (i : ℕ) (cell : Cell V) → HasPut old new i cell → P cell.value → AreCells P bits old → AreCells P bits new
  more_cells old new i cell put fits cells j less = elim (same_or_other j i) [
    | inl e ↦ subst (λ (c : Cell V). P c.value) (sym (ap new e ∙ put.here)) fits
    | inr differ ↦ subst (λ (c : Cell V). P c.value) (sym (put.others j differ)) (cells j less)
  ]

  -- after a row of cells
  pub row_cells : (old new : ℕ → Cell V) (from size : ℕ) → ((j : ℕ) → j < from → new j ≡ old j) → ((j : ℕ) → from + size ≤ j → new j ≡ old j) → ((k : ℕ) → k < size → P (new (from + k)).value) → AreCells P bits old → AreCells P bits new
  row_cells old new from size row_before row_after fits cells j less = elim (cases_Bool (ltb j from)) [
    | inl h ↦ subst (λ (c : Cell V). P c.value) (sym (row_before j (ltb-true j from h))) (cells j less)
    | inr h ↦
        elim (cases_Bool (ltb j (from + size))) [
          | inl l ↦
              let start = ltb-false j from h in
              let end = ltb-true j (from + size) l in
              let e : from + (j - from) ≡ j = omega (arith, start) in
              subst (λ (i : ℕ). P (new i).value) e (fits (j - from) (omega (arith, start, end)))
          | inr g ↦ subst (λ (c : Cell V). P c.value) (sym (row_after j (ltb-false j (from + size) g))) (cells j less)
        ]
  ]

  -- one cell of a leaf was set
  pub one_put : {old new : LeafOf V} {i : ℕ} {cell : Cell V} → SetsVoxel old new i cell → HasPut (cell_in (off background) old) (cell_in (off background) new) i cell
  one_put sets = record { here = sets.changed (off background); others = sets.others (off background) }

  module _ (p : Coord) where
    abbrev box : Box
    box = block_around bits Leaf p

    abbrev at : ℕ → Box
    at i = sub_block bits Leaf box i

    abbrev row : Row V ℕ
    row = leaf_row values bits few p

    abbrev shown : (ℕ → Cell V) → Field V
    shown cells = cells_field bits p background cells

    abbrev cells_of : LeafOf V → ℕ → Cell V
    cells_of leaf = cell_in (off background) leaf

    -- the field's values have P too
    shown_values : (held_cells : ℕ → Cell V) → P background → AreCells P bits held_cells → HasValues P background (shown held_cells)
    shown_values held_cells fits cells = record {
      same = refl;
      values = λ q. elim (cases_Bool (coord_eq (block_number bits Leaf p) (block_number bits Leaf q))) [
        | inl here ↦
            subst (λ (c : Cell V). P c.value) (sym (leaf_cell bits p background held_cells q (sym (coord_exact (block_number bits Leaf p) (block_number bits Leaf q) here)))) (cells (offset bits Leaf q) (offset_below bits Leaf q))
        | inr there ↦ subst (λ (c : Cell V). P c.value) (sym (other_cell bits p background held_cells q there)) fits
      ];
    }

    -- ---- the entries, which are single voxels

    -- an entry has the leaf's cell
    entry_cell : (cells : ℕ → Cell V) (i : ℕ) → i < entries bits Leaf → (shown cells).cell (at i).min ≡ cells i
    entry_cell cells i less = let c = corner_of_entry bits Leaf p i less in leaf_cell bits p background cells (at i).min c.0 ∙ ap cells c.1

    -- an entry is background if its cell is
    background_from : (f : Field V) (i : ℕ) → i < entries bits Leaf → f.cell (at i).min ≡ off f.background → is_background eq f (at i) ≡ true
    background_from f i less e =
        let c = corner_of_entry bits Leaf p i less in
        uniform_from eq values.exact values.itself f (at i) (off f.background)
        (λ q inside. let k = in_entry bits Leaf p q i less inside in ap f.cell (voxel_from_leaf bits q (at i).min (k.0 ∙ sym c.0) (k.1 ∙ sym c.1)) ∙ e)

    -- an entry is background only if its cell is
    background_gives : (f : Field V) (i : ℕ) → is_background eq f (at i) ≡ true → f.cell (at i).min ≡ off f.background
    background_gives f i h = uniform_cells eq values.exact values.itself f (at i) (off f.background) h (at i).min (corner_inside bits Leaf box i)

    -- an entry is listed if its cell isn't the background
    held_from : (f : Field V) (i : ℕ) (c : Cell V) → f.background ≡ background → f.cell (at i).min ≡ c → cell_eq eq c (off background) ≡ false → is_background eq f (at i) ≡ false
    held_from f i c e here other =
        not_true (is_background eq f (at i))
        (λ h. clash (cell_eq eq c (off background)) (cell_same eq values.exact values.itself c (off background) (sym here ∙ background_gives f i h ∙ ap off e)) other)

    -- an entry is listed only if its cell isn't the background
    held_gives : (f : Field V) (i : ℕ) → i < entries bits Leaf → f.background ≡ background → is_background eq f (at i) ≡ false → cell_eq eq (f.cell (at i).min) (off background) ≡ false
    held_gives f i less e h =
        not_true (cell_eq eq (f.cell (at i).min) (off background))
        (λ same. clash (is_background eq f (at i)) (background_from f i less (cell_exact eq values.exact values.itself (f.cell (at i).min) (off background) same ∙ ap off (sym e))) h)

    -- a block of one cell is constant
    constant_from : (f : Field V) (c : Cell V) → ((q : Coord) → is_inside box q ≡ true → f.cell q ≡ c) → is_constant eq f box ≡ true
    constant_from f c all = uniform_from eq values.exact values.itself f box (f.cell box.min) (λ q inside. all q inside ∙ sym (all box.min (corner_in_block bits Leaf p)))

    -- if a leaf has only one cell, the block of any field with its cells is constant
    constant_leaf : (f : Field V) (leaf : LeafOf V) (c : Cell V) → ((d : Cell V) (i : ℕ) → i < entries bits Leaf → cell_in d leaf i ≡ c) → Agree (shown (cells_of leaf)) f box → is_constant eq f box ≡ true
    constant_leaf f leaf c constant agree =
        constant_from f c (λ q inside.
        sym (agree.same q inside) ∙ leaf_cell bits p background (cells_of leaf) q (number_in_block bits Leaf (block_number bits Leaf p) q inside) ∙ constant (off background) (offset bits Leaf q) (offset_below bits Leaf q))

    -- ---- the voxels read so far

    -- at first no voxel is read
    pub none_read : (leaf : LeafOf V) (old now : Position) → Took old now [] → (n : ℕ) → entries bits Leaf ≡ n → IsConstantLeaf leaf n (off background) → HasRead eq value_bytes bits background p (cell_in (off background) leaf) old now 0 None
    none_read leaf old now nothing n e constant =
        let empty : held eq row (shown (cells_of leaf)) ≡ [] =
        none_kept (is_held eq row.box (shown (cells_of leaf))) row.keys
        (by_member (λ i. is_held eq row.box (shown (cells_of leaf)) i ≡ false) row.keys
        (λ i m. let less = member_below bits Leaf i m in
        ap not (background_from (shown (cells_of leaf)) i less (entry_cell (cells_of leaf) i less ∙ constant (off background) i (omega (arith, less, e)))))) in
        record {
          took = subst (λ (ks : List ℕ). Took old now (flat_map (λ i. to_be_bytes w16 i ++ voxel_body eq value_bytes bits (shown (cells_of leaf)) (at i)) ks)) (sym empty) nothing;
          count = ap length empty;
          last = sym (ap (last_of None) empty);
        }

    module _ (old new : ℕ → Cell V) (i : ℕ) (cell : Cell V) (sets : HasPut old new i cell) (less : i < entries bits Leaf) (other : cell_eq eq cell (off background) ≡ false) where
      -- the entry has the new cell
      new_cell : (shown new).cell (at i).min ≡ cell
      new_cell = entry_cell new i less ∙ sets.here

      -- all other entries keep their cells
      kept : (q : Coord) → is_inside (at i) q ≡ false → (shown old).cell q ≡ (shown new).cell q
      kept q outside = elim (cases_Bool (coord_eq (block_number bits Leaf p) (block_number bits Leaf q))) [
        | inl here ↦
            let e = sym (coord_exact (block_number bits Leaf p) (block_number bits Leaf q) here) in
            leaf_cell bits p background old q e
            ∙ sym (sets.others (offset bits Leaf q) (λ same. clash (is_inside (at i) q) (entry_holds bits Leaf p q i less e same) outside))
            ∙ sym (leaf_cell bits p background new q e)
        | inr there ↦ other_cell bits p background old q there ∙ sym (other_cell bits p background new q there)
      ]

      -- one more entry is listed
      adds : Adds eq row (shown old) (shown new) i
      adds = adds_outside (is_leaf_row values bits few p) (shown old) (shown new) i (below_member bits Leaf i less) refl kept (held_from (shown new) i cell refl new_cell other)

      -- one more voxel was read
      pub voxel_read : (a b c : Position) (n : ℕ) (before : Option ℕ) → HasRead eq value_bytes bits background p old a b n before → Follows nat_cmp before i → Took b c (voxel_bytes eq value_bytes (i, cell)) → HasRead eq value_bytes bits background p new a c (n + 1) (Some i)
      voxel_read a b c n before r follows took =
          let is = is_leaf_row values bits few p in
          let member = below_member bits Leaf i less in
          let next : Follows nat_cmp (last_of None (held eq row (shown old))) i = subst (λ (l : Option ℕ). Follows nat_cmp l i) r.last follows in
          let more = held_more values is (shown old) (shown new) i member next adds in
          let size : length (held eq row (shown old)) ≡ n = r.count in
          let grown : length (held eq row (shown new)) ≡ n + 1 = let e = ap length more in omega (arith, e, size, length-append (held eq row (shown old)) (i ∷ [])) in
          record {
            took = entry_read eq row (λ _. []) 0 (shown old) (shown new) i a b c (texts_more values is (shown old) (shown new) i member next adds) r.took
                (subst (λ (x : Cell V). Took b c (to_be_bytes w16 i ++ cell_bytes eq value_bytes x)) (sym new_cell) took);
            count = grown;
            last = sym (ap (last_of None) more ∙ last_more None (held eq row (shown old)) i);
          }

    -- a row of voxels: the cells from a number on are new, and all others are the old ones
    module _ (old new : ℕ → Cell V) (from : ℕ) (size : ℕ) (row_before : (j : ℕ) → j < from → new j ≡ old j) (row_after : (j : ℕ) → from + size ≤ j → new j ≡ old j) where
      -- the cells once those below a number are new
      abbrev mixed : ℕ → ℕ → Cell V
      mixed k j = if ltb j (from + k) then new j else old j

      mixed_in : (k j : ℕ) → j < from + k → mixed k j ≡ new j
      mixed_in k j less = ap (λ (b : Bool). if b then new j else old j) (lt-ltb j (from + k) less)

      mixed_out : (k j : ℕ) → from + k ≤ j → mixed k j ≡ old j
      mixed_out k j past = ap (λ (b : Bool). if b then new j else old j) (le-ltb j (from + k) past)

      first_at : (j : ℕ) → old j ≡ mixed 0 j
      first_at j = elim (cases_Bool (ltb j (from + 0))) [
        | inl h ↦ let less = ltb-true j (from + 0) h in sym (row_before j (omega (arith, less))) ∙ sym (mixed_in 0 j less)
        | inr h ↦ sym (mixed_out 0 j (ltb-false j (from + 0) h))
      ]

      first_mixed : old ≡ mixed 0
      first_mixed = λ i j. first_at j i

      all_at : (j : ℕ) → mixed size j ≡ new j
      all_at j = elim (cases_Bool (ltb j (from + size))) [
        | inl h ↦ mixed_in size j (ltb-true j (from + size) h)
        | inr h ↦ let past = ltb-false j (from + size) h in mixed_out size j past ∙ sym (row_after j past)
      ]

      all_mixed : mixed size ≡ new
      all_mixed = λ i j. all_at j i

      one_mixed : (k : ℕ) → HasPut (mixed k) (mixed (k + 1)) (from + k) (new (from + k))
      one_mixed k = record {
        here = mixed_in (k + 1) (from + k) (omega arith);
        others = λ j differ. elim (cases_Bool (ltb j (from + k))) [
          | inl h ↦ let less = ltb-true j (from + k) h in mixed_in (k + 1) j (omega (arith, less)) ∙ sym (mixed_in k j less)
          | inr h ↦ let past = ltb-false j (from + k) h in mixed_out (k + 1) j (let more = further j (from + k) past differ in omega (arith, more)) ∙ sym (mixed_out k j past)
        ];
      }

      module _ (n : ℕ) (before : Option ℕ) (a : Position) (at_voxel : ℕ → Position) (read : HasRead eq value_bytes bits background p old a (at_voxel 0) n before) (follows : Follows nat_cmp before from) (less : from + size ≤ entries bits Leaf)
          (other : (k : ℕ) → k < size → cell_eq eq (new (from + k)) (off background) ≡ false) (took : (k : ℕ) → k < size → Took (at_voxel k) (at_voxel (k + 1)) (voxel_bytes eq value_bytes (from + k, new (from + k)))) where
        -- the number of the voxel before one of the row
        abbrev number_before : ℕ → Option ℕ
        number_before zero = before
        number_before (suc k) = Some (from + k)

        next_follows : (k : ℕ) → Follows nat_cmp (number_before k) (from + k)
        next_follows zero = subst (λ (j : ℕ). Follows nat_cmp before j) (omega arith) follows
        next_follows (suc k) = sym (nat_cmp_is (from + k) (from + suc k) Less (omega arith))

        read_so_far : (k : ℕ) → k ≤ size → HasRead eq value_bytes bits background p (mixed k) a (at_voxel k) (n + k) (number_before k)
        read_so_far zero few = subst (λ (m : ℕ). HasRead eq value_bytes bits background p (mixed 0) a (at_voxel 0) m before) (omega arith) (subst (λ (cells : ℕ → Cell V). HasRead eq value_bytes bits background p cells a (at_voxel 0) n before) first_mixed read)
        read_so_far (suc k) few =
            let step : k + 1 ≡ suc k = omega arith in
            let more : (n + k) + 1 ≡ n + suc k = omega arith in
            let one = voxel_read (mixed k) (mixed (k + 1)) (from + k) (new (from + k)) (one_mixed k) (omega (arith, few, less)) (other k (omega (arith, few))) a (at_voxel k) (at_voxel (k + 1)) (n + k) (number_before k)
            (read_so_far k (omega (arith, few))) (next_follows k) (took k (omega (arith, few))) in
            subst (λ (m : ℕ). HasRead eq value_bytes bits background p (mixed (suc k)) a (at_voxel (suc k)) m (Some (from + k))) more (subst (λ (i : ℕ). HasRead eq value_bytes bits background p (mixed i) a (at_voxel i) ((n + k) + 1) (Some (from + k))) step one)

        -- the whole row was read
        pub row_read : (last : ℕ) → last + 1 ≡ size → HasRead eq value_bytes bits background p new a (at_voxel size) (n + size) (Some (from + last))
        row_read last e =
            let s : suc last ≡ size = omega (arith, e) in
            let few : suc last ≤ size = omega (arith, e) in
            subst (λ (cells : ℕ → Cell V). HasRead eq value_bytes bits background p cells a (at_voxel size) (n + size) (Some (from + last))) all_mixed
            (subst (λ (i : ℕ). HasRead eq value_bytes bits background p (mixed i) a (at_voxel i) (n + i) (Some (from + last))) s (read_so_far (suc last) few))

    -- ---- faults

    -- the fields with this many listed voxels, and those of them whose cells differ
    abbrev pub IsListed : ℕ → Field V → Type 0
    IsListed count f = IsFilled eq value_bytes P background bits p count f

    abbrev pub IsUnlike : ℕ → Field V → Type 0
    IsUnlike count f = IsMixed eq P background bits p f × (voxel_count eq value_bytes bits p f ≡ count)

    -- the empty text is a code for one number
    no_text : (count : ℕ) → IsCode (λ n. n ≡ count) (λ (n : ℕ). [])
    no_text count a b pa pb = record { same = λ x y e. (pa ∙ sym pb, e) }

    -- no voxel is ahead, so no entry is
    voxel_fails : (most : ℕ) → most ≡ entries bits Leaf → (before : Option ℕ) (fault : LoadFault) (mid : Position) → Fails (IsVoxel eq P background most before) (voxel_bytes eq value_bytes) fault mid
        → Fails (IsNextOf eq P row background before) (entry_bytes row) fault mid
    voxel_fails most all before fault mid h =
        fails_turn (IsNextOf eq P row background before) (entry_bytes row) (IsVoxel eq P background most before) (voxel_bytes eq value_bytes) (λ e. (e.0, e.1.cell (at e.0).min)) fault mid
        (λ e next. let less = member_below bits Leaf e.0 next.member in
        record {
          index = record { within = omega (arith, less, all); later = next.follows };
          cell = record { value = next.values.values (at e.0).min; other = held_gives e.1 e.0 less next.values.same next.held };
        })
        (λ e next. refl) h

    module _ (held_cells : ℕ → Cell V) (fits : P background) (cells : AreCells P bits held_cells) (old mid : Position) (n count : ℕ) (before : Option ℕ) (read : HasRead eq value_bytes bits background p held_cells old mid n before) where
      -- a voxel was due, and none is ahead
      pub voxels_fail : (fault : LoadFault) → n < count → (most : ℕ) → most ≡ entries bits Leaf → Fails (IsVoxel eq P background most before) (voxel_bytes eq value_bytes) fault mid → Fails (IsListed count) (voxels_bytes eq value_bytes bits p) fault old
      voxels_fail fault more most all h =
          let size : length (held eq row (shown held_cells)) ≡ n = read.count in
          within values (is_leaf_row values bits few p) background (λ _. []) (λ m. m ≡ count) (no_text count) (IsListed count) (λ f r. r.values) (λ f r. r.counted) fault old mid (shown held_cells) (shown_values held_cells fits cells) count refl
          (omega (arith, size, more)) read.took (subst (λ (b : Option ℕ). Fails (IsNextOf eq P row background b) (entry_bytes row) fault mid) read.last (voxel_fails most all before fault mid h))

      -- all voxels were read
      pub all_read : n ≡ count → IsListed count (shown held_cells) × Took old mid (voxels_bytes eq value_bytes bits p (shown held_cells))
      all_read done = (record { values = shown_values held_cells fits cells; counted = read.count ∙ done }, read.took)

    module _ (fault : LoadFault) (old : Position) (count : ℕ) where
      -- no field with so many voxels is ahead
      pub none_unlike : Fails (IsListed count) (voxels_bytes eq value_bytes bits p) fault old → Fails (IsUnlike count) (voxels_bytes eq value_bytes bits p) fault old
      none_unlike h =
          fails_turn (IsUnlike count) (voxels_bytes eq value_bytes bits p) (IsListed count) (voxels_bytes eq value_bytes bits p) (λ f. f) fault old (λ f r. record { values = r.0.values; counted = r.1 }) (λ f r. refl) h

      -- all voxels have one cell
      pub voxels_alike : (leaf : LeafOf V) (mid : Position) → IsListed count (shown (cells_of leaf)) → Took old mid (voxels_bytes eq value_bytes bits p (shown (cells_of leaf))) → (c : Cell V) (m : ℕ) → entries bits Leaf ≡ m → IsConstantLeaf leaf m c → Fails (IsUnlike count) (voxels_bytes eq value_bytes bits p) fault old
      voxels_alike leaf mid is took c m all constant =
          no_row values (is_leaf_row values bits few p) background (λ _. []) (λ k. k ≡ count) (no_text count) (IsUnlike count) (λ f r. r.0.values) (λ f r. r.1) fault old mid (shown (cells_of leaf)) is.values
          is.counted took
          (λ f r agree. clash (is_constant eq f box)
          (constant_leaf f leaf c (λ d i less. constant d i (omega (arith, less, all))) (agree_from_entries values bits few p Leaf (shown (cells_of leaf)) f agree)) r.0.differs)

    -- a leaf whose voxels differ
    pub voxels_differ : (leaf : LeafOf V) (m : ℕ) → entries bits Leaf ≡ m → length leaf.values ≡ m → ((c : Cell V) → (◌≡◌ {A = Option (Cell V)} None (Some c)) ↔ IsConstantLeaf leaf m c) → is_constant eq (shown (cells_of leaf)) box ≡ false
    voxels_differ leaf m all size given =
        not_true (is_constant eq (shown (cells_of leaf)) box)
        (λ h. let c = (shown (cells_of leaf)).cell box.min in
        let constant : IsConstantLeaf leaf m c = λ d i l.
        let less : i < entries bits Leaf = omega (arith, l, all) in
        let inside = inside_numbered bits Leaf (block_number bits Leaf p) (at i).min (corner_of_entry bits Leaf p i less).0 in
        let value = get_or_default leaf.values i d.value background (omega (arith, l, size)) in
        let any : cell_in d leaf i ≡ cell_in (off background) leaf i = λ j. record { value = value j; on = (cell_in d leaf i).on } in
        any ∙ sym (entry_cell (cells_of leaf) i less) ∙ uniform_cells eq values.exact values.itself (shown (cells_of leaf)) box c h (at i).min inside in
        let e = (given c).1 constant in absurd cc)
