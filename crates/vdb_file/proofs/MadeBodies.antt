-- A field with converted values has the same encoding if each value keeps its encoding.
use Rattle.vdb_file.proofs.Common.{◌≡◌, ℕ, Bool, not, if◌then◌else◌, List, ◌∷◌, ◌++◌, ap, ◌∙◌, length, flat_map, w16, w32, to_be_bytes, block, block_numbers, entry_numbers, sub_block, Box, coordinates, Bits, Coord, Level, Leaf, Lower, Upper, is_background, is_constant, root_keys, roots, Field, as_field_of, field, off, Cell, block_bytes, cell_bytes, key_bytes, listed, root_body}
use Rattle.std.proofs.Common.{filter}
use Rattle.std.proofs.Math.Path.{fun_ext}
use Rattle.vdb_tree.proofs.AsFieldOf.{as_field_of_cell, as_field_of_constant, as_field_of_uniform}
use Rattle.vdb_file.specs.Bodies.{roots_bytes}

module _ {V U : Type 0} (make : V → U) (background : V) (cells : Coord → Cell V) (eq : V → V → Bool) (made_eq : U → U → Bool) (same : (v w : V) → made_eq (make v) (make w) ≡ eq v w)
    (bytes : V → List ℕ) (made_bytes : U → List ℕ) (same_bytes : (v : V) → made_bytes (make v) ≡ bytes v) (bits : Bits) where
  abbrev f : Field V
  f = field background cells

  abbrev made : Field U
  made = as_field_of make f

  made_cell : (p : Coord) → cell_bytes made_eq made_bytes (made.cell p) ≡ cell_bytes eq bytes (f.cell p)
  made_cell p =
      ap (cell_bytes made_eq made_bytes) (as_field_of_cell make background cells p)
      ∙ ap (λ l. (if (f.cell p).on then 2 else 1) ∷ l) (same_bytes (f.cell p).value)

  made_background : (b : Box) → is_background made_eq made b ≡ is_background eq f b
  made_background b = as_field_of_uniform make background cells eq made_eq same b (off background)

  made_listed : (level : Level) (b : Box) → listed made_eq made_bytes bits made level b ≡ listed eq bytes bits f level b
  made_listed level b = ap (λ test. filter test (entry_numbers bits level)) (fun_ext (λ i. ap not (made_background (sub_block bits level b i))))

  -- blocks have the same encoding if their entries do
  made_block : (left right : Box → List ℕ) → left ≡ right → (level : Level) → block_bytes made_eq made_bytes bits made left level ≡ block_bytes eq bytes bits f right level
  made_block left right e level = fun_ext (λ b.
      ap (λ one. if one then cell_bytes made_eq made_bytes (made.cell b.min) else 3 ∷ (to_be_bytes w16 (length (listed made_eq made_bytes bits made level b)) ++ flat_map (λ i. to_be_bytes w16 i ++ left (sub_block bits level b i)) (listed made_eq made_bytes bits made level b)))
      (as_field_of_constant make background cells eq made_eq same b)
      ∙ ap (λ c. if is_constant eq f b then c else 3 ∷ (to_be_bytes w16 (length (listed made_eq made_bytes bits made level b)) ++ flat_map (λ i. to_be_bytes w16 i ++ left (sub_block bits level b i)) (listed made_eq made_bytes bits made level b)))
      (made_cell b.min)
      ∙ ap (λ is. if is_constant eq f b then cell_bytes eq bytes (f.cell b.min) else 3 ∷ (to_be_bytes w16 (length is) ++ flat_map (λ i. to_be_bytes w16 i ++ left (sub_block bits level b i)) is)) (made_listed level b)
      ∙ ap (λ (entry : Box → List ℕ). if is_constant eq f b then cell_bytes eq bytes (f.cell b.min) else 3 ∷ (to_be_bytes w16 (length (listed eq bytes bits f level b)) ++ flat_map (λ i. to_be_bytes w16 i ++ entry (sub_block bits level b i)) (listed eq bytes bits f level b))) e)

  made_root : root_body made_eq made_bytes bits made ≡ root_body eq bytes bits f
  made_root = made_block _ _ (made_block _ _ (made_block _ _ (fun_ext (λ b. made_cell b.min)) Leaf) Lower) Upper

  pub made_keys : root_keys made_eq bits made ≡ root_keys eq bits f
  made_keys = ap (λ test. filter test (coordinates (block_numbers bits Upper))) (fun_ext (λ k. ap not (made_background (block bits Upper k))))

  -- the root blocks have the same encoding
  pub made_roots : roots_bytes made_eq made_bytes bits made ≡ roots_bytes eq bytes bits f
  unfolding roots_bytes
  made_roots =
      ap (λ ks. to_be_bytes w32 (length ks) ++ flat_map (λ k. key_bytes k ++ root_body made_eq made_bytes bits made (block bits Upper k)) ks) made_keys
      ∙ ap (λ (body : Box → List ℕ). to_be_bytes w32 (roots eq bits f) ++ flat_map (λ k. key_bytes k ++ body (block bits Upper k)) (root_keys eq bits f)) made_root
