-- The cells of a block, and what the tests of the field say about it.
use Rattle.vdb_tree.proofs.Common.{◌≡◌, refl, sym, subst, ◌∙◌, Bool, true, false, IsTrue, ◌↔◌, block, block_around, block_number, AreBits, everywhere, is_inside, Bits, Coord, Level, not_true, block_in_range, number_of_corner, inside_numbered, number_in_block, Cell, IsConstantBlock, IsNonConstantBlock, Field, Layout, cell_at, field_of, background_cell, is_constant, is_background, is_uniform}
use Rattle.vdb_tree.proofs.Fields.{cell_inside}
use Rattle.vdb_tree.proofs.Uniform.{uniform_cells, uniform_from}

-- true isn't false
pub never : {b : Bool} → b ≡ false → b ≡ true → ⊥
never {b} h k = let e : false ≡ true = sym h ∙ k in cc

module _ {V : Type 0} (eq : V → V → Bool) (exact : (x y : V) → eq x y ≡ true → x ≡ y) (itself : (x : V) → eq x x ≡ true) where
  -- ---- any field

  -- each cell of a uniform block is its one cell
  pub uniform_block : (bits : Bits) (level : Level) (f : Field V) (n : Coord) (c : Cell V) → is_uniform eq f (block bits level n) c ≡ true → (q : Coord) → block_number bits level q ≡ n → f.cell q ≡ c
  uniform_block bits level f n c h q e = uniform_cells eq exact itself f (block bits level n) c h q (inside_numbered bits level n q e)

  -- a block whose cells are all the same is uniform
  pub uniform_block_from : (bits : Bits) (level : Level) (f : Field V) (n : Coord) (c : Cell V) → ((q : Coord) → block_number bits level q ≡ n → f.cell q ≡ c) → is_uniform eq f (block bits level n) c ≡ true
  uniform_block_from bits level f n c h = uniform_from eq exact itself f (block bits level n) c (λ q i. h q (number_in_block bits level n q i))

  -- ---- the field of a tree

  module _ (bits : Bits) (configured : AreBits bits) (level : Level) (t : Layout V) (p : Coord) (inside : IsTrue (is_inside everywhere p)) where
    -- in the block of a coordinate in range the field has the tree's cells
    pub block_cell : (q : Coord) → block_number bits level q ≡ block_number bits level p → (field_of bits t).cell q ≡ cell_at bits t q
    block_cell q e = cell_inside t.background (cell_at bits t) q (block_in_range bits level configured p q inside e)

    -- a uniform block, by the cells of the tree
    uniform_cell : (c : Cell V) → is_uniform eq (field_of bits t) (block_around bits level p) c ≡ true → IsConstantBlock bits level t p c
    uniform_cell c h q e = sym (block_cell q e) ∙ uniform_block bits level (field_of bits t) (block_number bits level p) c h q e

    uniform_cell_from : (c : Cell V) → IsConstantBlock bits level t p c → is_uniform eq (field_of bits t) (block_around bits level p) c ≡ true
    uniform_cell_from c h = uniform_block_from bits level (field_of bits t) (block_number bits level p) c (λ q e. block_cell q e ∙ h q e)

    -- the test for one cell
    pub uniform_test : (c : Cell V) (test : Bool) → IsTrue test ↔ IsConstantBlock bits level t p c → test ≡ is_uniform eq (field_of bits t) (block_around bits level p) c
    uniform_test c true h = sym (uniform_cell_from c (h.0 refl))
    uniform_test c false h = sym (not_true _ (λ k. never refl (h.1 (uniform_cell c k))))

    -- the cells of a constant block are one cell
    pub constant_block : is_constant eq (field_of bits t) (block_around bits level p) ≡ true → IsConstantBlock bits level t p (cell_at bits t p)
    constant_block h q e =
        let cell = uniform_cell ((field_of bits t).cell (block_around bits level p).min) h in
        cell q e ∙ sym (cell p refl)

    -- a block whose cells are one cell is constant
    pub constant_from : (c : Cell V) → IsConstantBlock bits level t p c → is_constant eq (field_of bits t) (block_around bits level p) ≡ true
    constant_from c h =
        let corner = (block_around bits level p).min in
        let first : (field_of bits t).cell corner ≡ c = let e = number_of_corner bits level (block_number bits level p) in block_cell corner e ∙ h corner e in
        subst (λ (d : Cell V). is_uniform eq (field_of bits t) (block_around bits level p) d ≡ true) (sym first) (uniform_cell_from c h)

    -- a block with different cells isn't constant
    pub non_constant_from : IsNonConstantBlock bits level t p → is_constant eq (field_of bits t) (block_around bits level p) ≡ false
    non_constant_from non_constant = not_true _ (λ h. non_constant (cell_at bits t p) (constant_block h))

    -- a block that isn't constant has different cells
    pub non_constant_block : is_constant eq (field_of bits t) (block_around bits level p) ≡ false → IsNonConstantBlock bits level t p
    non_constant_block h c k = never h (constant_from c k)

    -- the cells of a background block are the inactive background
    pub background_block : is_background eq (field_of bits t) (block_around bits level p) ≡ true → IsConstantBlock bits level t p (background_cell t)
    background_block h = uniform_cell (background_cell t) h

    -- a block whose cells are the inactive background is a background block
    pub background_from : IsConstantBlock bits level t p (background_cell t) → is_background eq (field_of bits t) (block_around bits level p) ≡ true
    background_from h = uniform_cell_from (background_cell t) h

    -- a block with another cell isn't all background
    pub non_background_from : (IsConstantBlock bits level t p (background_cell t) → ⊥) → is_background eq (field_of bits t) (block_around bits level p) ≡ false
    non_background_from other = not_true _ (λ h. other (background_block h))

    -- a block that isn't all background has another cell
    pub non_background_block : is_background eq (field_of bits t) (block_around bits level p) ≡ false → IsConstantBlock bits level t p (background_cell t) → ⊥
    non_background_block h k = never h (background_from k)
