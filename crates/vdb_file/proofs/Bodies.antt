-- The body of a block determines the cells of all its coordinates.
use Rattle.vdb_file.proofs.Common.{◌≡◌, ℕ, Bool, true, false, ◌<◌, ◌^◌, List, ◌∷◌, length, refl, sym, ap, subst, ◌∙◌, arith, if◌then◌else◌, AllByRecursion, Contains, w16, to_be_bytes, length-range_with_len, block, block_around, block_number, entries, offset, sub_block, AreBits, Box, Bits, Coord, Level, Leaf, Lower, Upper, corner_of_entry, entry_holds, in_entry, leaf_block_at_offset, lower_block_at_offset, number_in_block, voxel_from_leaf, offset_below, is_constant, Field, entries_few, block_bytes, cell_bytes, entries_bytes, leaf_body, listed, lower_body, root_body, voxel_body}
use Rattle.vdb_coord.specs.Blocks.{entry_numbers}
use Rattle.vdb_file.proofs.Unambiguous.{Says, says_after, says_cases, says_map, says_never}
use Rattle.vdb_file.proofs.Numbers.{says_u16}
use Rattle.vdb_file.proofs.Kept.{few_kept, range_below, range_has}
use Rattle.vdb_file.proofs.Agreement.{Agree, AreAlike, AreValues, both_uniform, is_held, says_cell, says_listed}

-- ---- entries and their numbers

module _ (bits : Bits) (level : Level) where
  -- a block has as many entry numbers as entries
  numbers_length : length (entry_numbers bits level) ≡ entries bits level
  unfolding entry_numbers
  numbers_length = length-range_with_len 0 (entries bits level)

  -- each entry number is below that count
  numbers_below : AllByRecursion (λ i. i < entries bits level) (entry_numbers bits level)
  unfolding entry_numbers
  numbers_below = range_below (entries bits level)

  -- each number below the count is an entry number
  numbers_have : (i : ℕ) → i < entries bits level → Contains (entry_numbers bits level) i
  unfolding entry_numbers
  numbers_have i h = range_has (entries bits level) i h

  -- an entry of a block is the entry around its own least corner
  own_corner : (c : Coord) (i : ℕ) → i < entries bits level → let q = (sub_block bits level (block_around bits level c) i).min in
      sub_block bits level (block_around bits level q) (offset bits level q) ≡ sub_block bits level (block_around bits level c) i
  own_corner c i h = let at = corner_of_entry bits level c i h in λ j. sub_block bits level (block bits level (at.0 j)) (at.1 j)

-- an entry of a lower block is a leaf block
pub entry_is_leaf : (bits : Bits) (c : Coord) (i : ℕ) → i < entries bits Lower → let b = sub_block bits Lower (block_around bits Lower c) i in block_around bits Leaf b.min ≡ b
entry_is_leaf bits c i h = sym (leaf_block_at_offset bits (sub_block bits Lower (block_around bits Lower c) i).min) ∙ own_corner bits Lower c i h

-- an entry of an upper block is a lower block
pub entry_is_lower : (bits : Bits) (c : Coord) (i : ℕ) → i < entries bits Upper → let b = sub_block bits Upper (block_around bits Upper c) i in block_around bits Lower b.min ≡ b
entry_is_lower bits c i h = sym (lower_block_at_offset bits (sub_block bits Upper (block_around bits Upper c) i).min) ∙ own_corner bits Upper c i h

-- ---- bodies

-- the tag of a cell isn't that of a node
no_tag : (on : Bool) → ◌≡◌ {A = ℕ} (if on then 2 else 1) 3 → ⊥
no_tag true e = cc
no_tag false e = cc

module _ {V : Type 0} {eq : V → V → Bool} {value_bytes : V → List ℕ} {P : V → Type 0} (values : AreValues eq value_bytes P) (bits : Bits) (few : AreBits bits) (f g : Field V) (alike : AreAlike P f g) where
  -- the bytes of a cell at one coordinate of both fields
  says_corner : (p : Coord) → Says (cell_bytes eq value_bytes (f.cell p)) (cell_bytes eq value_bytes (g.cell p)) (f.cell p ≡ g.cell p)
  says_corner p = says_cell values (f.cell p) (g.cell p) (alike.left p) (alike.right p)

  -- a block, if the text of each entry determines its cells
  module _ (left right : Box → List ℕ) (level : Level) (c : Coord)
      (each : (i : ℕ) → i < entries bits level → let b = sub_block bits level (block_around bits level c) i in Says (left b) (right b) (Agree f g b)) where
    -- each coordinate of the block lies in an entry
    agree_whole : ((i : ℕ) → Contains (entry_numbers bits level) i → Agree f g (sub_block bits level (block_around bits level c) i)) → Agree f g (block_around bits level c)
    agree_whole all = record {
      same = λ p inside.
          let i = offset bits level p in
          let small = offset_below bits level p in
          (all i (numbers_have bits level i small)).same p (entry_holds bits level c p i small (number_in_block bits level (block_number bits level c) p inside) refl);
    }

    -- the count of the listed entries has 16 bits
    few_listed : (field : Field V) → length (listed eq value_bytes bits field level (block_around bits level c)) < 2 ^ 16
    few_listed field =
        let kept = few_kept (is_held eq (sub_block bits level (block_around bits level c)) field) (entry_numbers bits level) in
        omega (arith, kept, numbers_length bits level, entries_few bits level few)

    -- the listed entries determine the cells of the block
    pub says_entries : let b = block_around bits level c in Says (entries_bytes eq value_bytes bits f left level b) (entries_bytes eq value_bytes bits g right level b) (Agree f g b)
    says_entries =
        let b = block_around bits level c in
        let most = entries_few bits level few in
        says_map agree_whole
        (says_listed values f g alike (sub_block bits level b) (λ i. i < entries bits level) (to_be_bytes w16) (λ i j hi hj. says_u16 i j (omega (arith, most)) (omega (arith, most))) left right each
        (entry_numbers bits level) (numbers_below bits level) (says_u16 (length (listed eq value_bytes bits f level b)) (length (listed eq value_bytes bits g level b)) (few_listed f) (few_listed g)))

    -- the block's own text determines its cells
    pub says_block : let b = block_around bits level c in Says (block_bytes eq value_bytes bits f left level b) (block_bytes eq value_bytes bits g right level b) (Agree f g b)
    says_block =
        let b = block_around bits level c in
        let cell : Field V → List ℕ = λ field. cell_bytes eq value_bytes (field.cell b.min) in
        let text : Field V → (Box → List ℕ) → List ℕ = λ field entry. entries_bytes eq value_bytes bits field entry level b in
        says_cases (is_constant eq f b) (is_constant eq g b) (cell f) (cell g) (3 ∷ text f left) (3 ∷ text g right)
        (λ one_f one_g. says_map (λ e. both_uniform values f g b (f.cell b.min) (g.cell b.min) e one_f one_g) (says_corner b.min))
        (λ one_f no_g. says_never _ 3 _ (text g right) (no_tag (f.cell b.min).on))
        (λ no_f one_g. says_never 3 _ (text f left) _ (λ e. no_tag (g.cell b.min).on (sym e)))
        (λ no_f no_g. says_after 3 says_entries)

  -- ---- the three levels

  -- a voxel is the one coordinate of its block
  pub says_voxel : (c : Coord) (i : ℕ) → i < entries bits Leaf → let b = sub_block bits Leaf (block_around bits Leaf c) i in Says (voxel_body eq value_bytes bits f b) (voxel_body eq value_bytes bits g b) (Agree f g b)
  says_voxel c i h =
      let b = sub_block bits Leaf (block_around bits Leaf c) i in
      let corner = corner_of_entry bits Leaf c i h in
      says_map (λ e. record {
        same = λ p inside.
            let at = in_entry bits Leaf c p i h inside in
            let only : p ≡ b.min = voxel_from_leaf bits p b.min (at.0 ∙ sym corner.0) (at.1 ∙ sym corner.1) in
            ap f.cell only ∙ e ∙ sym (ap g.cell only);
      }) (says_corner b.min)

  -- the body of a leaf block determines its cells
  pub says_leaf : (c : Coord) → let b = block_around bits Leaf c in Says (leaf_body eq value_bytes bits f b) (leaf_body eq value_bytes bits g b) (Agree f g b)
  says_leaf c = says_block (voxel_body eq value_bytes bits f) (voxel_body eq value_bytes bits g) Leaf c (says_voxel c)

  -- the body of a lower block determines its cells, by those of its leaf blocks
  pub says_lower : (c : Coord) → let b = block_around bits Lower c in Says (lower_body eq value_bytes bits f b) (lower_body eq value_bytes bits g b) (Agree f g b)
  says_lower c =
      let body : Field V → Box → List ℕ = leaf_body eq value_bytes bits in
      says_block (body f) (body g) Lower c
      (λ i h. subst (λ b. Says (body f b) (body g b) (Agree f g b)) (entry_is_leaf bits c i h) (says_leaf (sub_block bits Lower (block_around bits Lower c) i).min))

  -- the body of a root block determines its cells, by those of its lower blocks
  pub says_root : (c : Coord) → let b = block_around bits Upper c in Says (root_body eq value_bytes bits f b) (root_body eq value_bytes bits g b) (Agree f g b)
  says_root c =
      let body : Field V → Box → List ℕ = lower_body eq value_bytes bits in
      says_block (body f) (body g) Upper c
      (λ i h. subst (λ b. Says (body f b) (body g b) (Agree f g b)) (entry_is_lower bits c i h) (says_lower (sub_block bits Upper (block_around bits Upper c) i).min))
