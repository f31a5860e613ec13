-- The entries of a block and the root blocks of a field are rows.
use Rattle.vdb_file.proofs.Common.{◌≡◌, ℕ, zero, suc, ◌+◌, ◌<◌, ◌^◌, Bool, true, List, length, refl, sym, ap, subst, ◌∙◌, arith, AllByRecursion, Contains, range_with_len, Less, length-range_with_len, entry_holds, number_in_block, offset_below, w16, to_be_bytes, nat_cmp, block, block_around, block_number, block_numbers, entries, offset, sub_block, AreBits, Box, coord_cmp, coordinates, is_inside, Bits, Coord, Level, Leaf, Lower, Upper, number_of_corner, coord_total, corner_inside, in_entry, Field, entries_few, key_bytes, leaf_body, lower_body, root_body, voxel_body}
use Rattle.std.specs.Cmp.{nat_cmp_is}
use Rattle.vdb_file.proofs.RowFrames.{below_member, member_below}
use Rattle.std.specs.List.Sorted.{IsStrictlySortedBy}
use Rattle.std.proofs.lemmas.Cmp.{nat_cmp_total}
use Rattle.vdb_coord.specs.Blocks.{entry_numbers}
use Rattle.vdb_coord.proofs.Nesting.{same_block}
use Rattle.vdb_file.proofs.Unambiguous.{Says}
use Rattle.vdb_file.proofs.Numbers.{FitsKey, says_key, says_u16}
use Rattle.vdb_file.proofs.Agreement.{Agree, AreAlike, AreValues}
use Rattle.vdb_file.proofs.Bodies.{entry_is_leaf, entry_is_lower, says_leaf, says_lower, says_voxel}
use Rattle.vdb_file.proofs.Roots.{all_coordinates_have, coordinates_have, key_fits, says_root_block}
use Rattle.vdb_file.proofs.Sorted.{coordinates_sorted}
use Rattle.vdb_file.proofs.Ordered.{at_member}
use Rattle.vdb_file.proofs.RowFrames.{leaf_same, lower_same, root_same, voxel_same}
use Rattle.vdb_file.proofs.Rows.{IsRow, Row}

-- ---- the entries of a block

-- a block's row, with the text of an entry
abbrev pub node_row : {V : Type 0} → Bits → Level → Box → (Field V → Box → List ℕ) → Row V ℕ
node_row bits level b body = record { keys = entry_numbers bits level; cmp = nat_cmp; box = sub_block bits level b; code = to_be_bytes w16; body = body }

-- the numbers of the entries come in order
above : (b a n : ℕ) → b < a → AllByRecursion (λ j. nat_cmp b j ≡ Less) (range_with_len a n)
above b a zero h = tt
above b a (suc n) h = (sym (nat_cmp_is b a Less h), above b (a + 1) n (omega (arith, h)))

range_sorted : (a n : ℕ) → IsStrictlySortedBy nat_cmp (range_with_len a n)
unfolding IsStrictlySortedBy
range_sorted a zero = tt
range_sorted a (suc n) = (above a (a + 1) n (omega arith), range_sorted (a + 1) n)

numbers_sorted : (bits : Bits) (level : Level) → IsStrictlySortedBy nat_cmp (entry_numbers bits level)
unfolding entry_numbers
numbers_sorted bits level = range_sorted 0 (entries bits level)

pub numbers_count : (bits : Bits) (level : Level) → length (entry_numbers bits level) ≡ entries bits level
unfolding entry_numbers
numbers_count bits level = length-range_with_len 0 (entries bits level)

module _ {V : Type 0} {eq : V → V → Bool} {value_bytes : V → List ℕ} {P : V → Type 0} (values : AreValues eq value_bytes P) (bits : Bits) (few : AreBits bits) (c : Coord) where
  module _ (level : Level) (body : Field V → Box → List ℕ) where
    abbrev entry : ℕ → Box
    entry = sub_block bits level (block_around bits level c)

    is_node_row : ((f g : Field V) (i : ℕ) → i < entries bits level → f.background ≡ g.background → Agree f g (entry i) → body f (entry i) ≡ body g (entry i))
        → ((f g : Field V) → AreAlike P f g → (i : ℕ) → i < entries bits level → Says (body f (entry i)) (body g (entry i)) (Agree f g (entry i)))
        → IsRow P (λ i. i < 2 ^ 16) (node_row bits level (block_around bits level c) body)
    is_node_row same says = record {
      total = nat_cmp_total;
      sorted = numbers_sorted bits level;
      fits = λ i m. let h = member_below bits level i m in let most = entries_few bits level few in omega (arith, h, most);
      is_code = says_u16;
      apart = λ i j p mi mj hi hj. sym (in_entry bits level c p i (member_below bits level i mi) hi).1 ∙ (in_entry bits level c p j (member_below bits level j mj) hj).1;
      same = λ f g i m e a. same f g i (member_below bits level i m) e a;
      says = λ f g alike i m. says f g alike i (member_below bits level i m);
    }

  -- the rows of a leaf, of a lower and of an upper block
  abbrev pub leaf_row : Row V ℕ
  leaf_row = node_row bits Leaf (block_around bits Leaf c) (voxel_body eq value_bytes bits)

  abbrev pub lower_row : Row V ℕ
  lower_row = node_row bits Lower (block_around bits Lower c) (leaf_body eq value_bytes bits)

  abbrev pub upper_row : Row V ℕ
  upper_row = node_row bits Upper (block_around bits Upper c) (lower_body eq value_bytes bits)

  pub is_leaf_row : IsRow P (λ i. i < 2 ^ 16) leaf_row
  is_leaf_row =
      is_node_row Leaf (voxel_body eq value_bytes bits)
      (λ f g i h e a. voxel_same values f g e bits (sub_block bits Leaf (block_around bits Leaf c) i) (corner_inside bits Leaf (block_around bits Leaf c) i) a)
      (λ f g alike i h. says_voxel values bits few f g alike c i h)

  pub is_lower_row : IsRow P (λ i. i < 2 ^ 16) lower_row
  is_lower_row =
      let body : Field V → Box → List ℕ = leaf_body eq value_bytes bits in
      let corner : ℕ → Coord = λ i. (sub_block bits Lower (block_around bits Lower c) i).min in
      is_node_row Lower body
      (λ f g i h e a. let at = entry_is_leaf bits c i h in subst (λ b. body f b ≡ body g b) at (leaf_same values f g e bits (corner i) (subst (λ b. Agree f g b) (sym at) a)))
      (λ f g alike i h. subst (λ b. Says (body f b) (body g b) (Agree f g b)) (entry_is_leaf bits c i h) (says_leaf values bits few f g alike (corner i)))

  pub is_upper_row : IsRow P (λ i. i < 2 ^ 16) upper_row
  is_upper_row =
      let body : Field V → Box → List ℕ = lower_body eq value_bytes bits in
      let corner : ℕ → Coord = λ i. (sub_block bits Upper (block_around bits Upper c) i).min in
      is_node_row Upper body
      (λ f g i h e a. let at = entry_is_lower bits c i h in subst (λ b. body f b ≡ body g b) at (lower_same values f g e bits (corner i) (subst (λ b. Agree f g b) (sym at) a)))
      (λ f g alike i h. subst (λ b. Says (body f b) (body g b) (Agree f g b)) (entry_is_lower bits c i h) (says_lower values bits few f g alike (corner i)))

  -- fields that agree in all entries agree in the block
  pub agree_from_entries : (level : Level) (f g : Field V) → ((i : ℕ) → Contains (entry_numbers bits level) i → Agree f g (sub_block bits level (block_around bits level c) i)) → Agree f g (block_around bits level c)
  agree_from_entries level f g all = record {
    same = λ p inside.
        let i = offset bits level p in
        let small = offset_below bits level p in
        (all i (below_member bits level i small)).same p (entry_holds bits level c p i small (number_in_block bits level (block_number bits level c) p inside) refl);
  }

-- ---- the root blocks of a field

abbrev pub root_row : {V : Type 0} → (V → V → Bool) → (V → List ℕ) → Bits → Row V Coord
root_row eq value_bytes bits = record { keys = coordinates (block_numbers bits Upper); cmp = coord_cmp; box = block bits Upper; code = key_bytes; body = root_body eq value_bytes bits }

-- the keys in the row are those in range
pub member_inside : (bits : Bits) (k : Coord) → Contains (coordinates (block_numbers bits Upper)) k → is_inside (block_numbers bits Upper) k ≡ true
member_inside bits k member = let numbers = block_numbers bits Upper in at_member (λ k. is_inside numbers k ≡ true) (coordinates numbers) k (all_coordinates_have (λ k. is_inside numbers k ≡ true) numbers (λ k h. h)) member

pub inside_member : (bits : Bits) (k : Coord) → is_inside (block_numbers bits Upper) k ≡ true → Contains (coordinates (block_numbers bits Upper)) k
inside_member bits k inside = coordinates_have (block_numbers bits Upper) k inside

pub is_root_row : {V : Type 0} {eq : V → V → Bool} {value_bytes : V → List ℕ} {P : V → Type 0} (values : AreValues eq value_bytes P) (bits : Bits) (few : AreBits bits) → IsRow P FitsKey (root_row eq value_bytes bits)
is_root_row {V = V} {eq = eq} {value_bytes = value_bytes} values bits few = record {
  total = coord_total;
  sorted = coordinates_sorted (block_numbers bits Upper);
  fits = λ k m. key_fits bits few k (member_inside bits k m);
  is_code = says_key;
  apart = λ k l p mk ml hk hl. same_block bits Upper k l p hk hl;
  same = λ f g k m e a.
      let body : Field V → Box → List ℕ = root_body eq value_bytes bits in
      let at : block_around bits Upper (block bits Upper k).min ≡ block bits Upper k = ap (block bits Upper) (number_of_corner bits Upper k) in
      subst (λ b. body f b ≡ body g b) at (root_same values f g e bits (block bits Upper k).min (subst (λ b. Agree f g b) (sym at) a));
  says = λ f g alike k m. says_root_block values bits few f g alike k;
}
