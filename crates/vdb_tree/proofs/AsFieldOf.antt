-- Operations, blocks and outcomes before and after each value of a field is mapped.
use Rattle.vdb_tree.proofs.Common.{refl, ◌≡◌, ap, sym, subst, ◌∙◌, Bool, true, false, cond, not, ◌&&◌, ℕ, ◌<◌, ◌≤◌, Result, Ok, Err, length, beq, block, block_numbers, Box, coord_eq, coordinates, everywhere, is_inside, Bits, Coord, Upper, Cell, Write, On, Off, TreeRefusal, Memory, RootLimit, Field, clip, combine, field, fill, new, off, write, written, IsOutcome, cell_eq, is_constant, is_uniform, roots}
use Rattle.std.proofs.Common.{filter}
use Rattle.std.specs.List.{list_all}
use Rattle.std.proofs.Math.Path.{fun_ext}
use Rattle.vdb_tree.specs.declared.Write.TheVariants.{State, Value}
use Rattle.vdb_tree.specs.Field.{as_cell_of, as_field_of, as_write_of}
use Rattle.vdb_tree.proofs.Fields.{same_cells}

made_cond : {V U : Type 0} (make : V → U) (b : Bool) (x y : Cell V) → as_cell_of make (cond b x y) ≡ cond b (as_cell_of make x) (as_cell_of make y)
made_cond make true x y = refl
made_cond make false x y = refl

pub as_cell_of_written : {V U : Type 0} (make : V → U) (w : Write V) (c : Cell V) → as_cell_of make (written w c) ≡ written (as_write_of make w) (as_cell_of make c)
as_cell_of_written make (On v) c = refl
as_cell_of_written make (Off v) c = refl
as_cell_of_written make (State s) c = refl
as_cell_of_written make (Value v) c = refl

pub as_field_of_new : {V U : Type 0} (make : V → U) (background : V) → as_field_of make (new background) ≡ new (make background)
as_field_of_new make background = same_cells (make background) _ _ (λ p inside. rw inside refl)

pub as_field_of_write : {V U : Type 0} (make : V → U) (q : Coord) (w : Write V) (f : Field V)
    → as_field_of make (write q w f) ≡ write q (as_write_of make w) (as_field_of make f)
as_field_of_write make q w f = same_cells (make f.background) _ _ (λ p inside.
    rw inside (made_cond make (coord_eq q p) (written w (f.cell p)) (f.cell p) ∙ ap (λ c. cond (coord_eq q p) c (as_cell_of make (f.cell p))) (as_cell_of_written make w (f.cell p))))

pub as_field_of_fill : {V U : Type 0} (make : V → U) (box : Box) (c : Cell V) (f : Field V) → as_field_of make (fill box c f) ≡ fill box (as_cell_of make c) (as_field_of make f)
as_field_of_fill make box c f = same_cells _ _ _ (λ p h. rw h (made_cond make (is_inside box p) c (f.cell p)))

pub as_field_of_clip : {V U : Type 0} (make : V → U) (box : Box) (f : Field V) → as_field_of make (clip box f) ≡ clip box (as_field_of make f)
as_field_of_clip make box f = same_cells _ _ _ (λ p h. rw h (made_cond make (is_inside box p) (f.cell p) (off f.background)))

pub as_field_of_combine : {V U : Type 0} (make : V → U) (both : V → V → V) (both_made : U → U → U) (f g : Field V)
    → ((v w : V) → make (both v w) ≡ both_made (make v) (make w))
    → as_field_of make (combine both f g) ≡ combine both_made (as_field_of make f) (as_field_of make g)
as_field_of_combine make both both_made f g h = rw (h f.background g.background) (same_cells _ _ _ (λ p in_range. rw in_range (rw (h (f.cell p).value (g.cell p).value) refl)))

-- outside the range of coordinates both fields have the background
outside : {V U : Type 0} (make : V → U) (b : Bool) (x : Cell V) (v : V) → cond b (as_cell_of make (cond b x (off v))) (off (make v)) ≡ as_cell_of make (cond b x (off v))
outside make true x v = refl
outside make false x v = refl

module _ {V U : Type 0} (make : V → U) (background : V) (cells : Coord → Cell V) where
  -- each cell of the field has its value mapped
  pub as_field_of_cell : (p : Coord) → (as_field_of make (field background cells)).cell p ≡ as_cell_of make ((field background cells).cell p)
  as_field_of_cell p = outside make (is_inside everywhere p) (cells p) background

  module _ (eq : V → V → Bool) (made_eq : U → U → Bool) (same : (v w : V) → made_eq (make v) (make w) ≡ eq v w) where
    same_cell_eq : (c d : Cell V) → cell_eq made_eq (as_cell_of make c) (as_cell_of make d) ≡ cell_eq eq c d
    same_cell_eq c d = ap (λ (t : Bool). t && beq c.on d.on) (same c.value d.value)

    -- whether a write leaves a cell as it is
    pub as_field_of_stands : (w : Write V) (p : Coord)
        → cell_eq made_eq (written (as_write_of make w) ((as_field_of make (field background cells)).cell p)) ((as_field_of make (field background cells)).cell p)
        ≡ cell_eq eq (written w ((field background cells).cell p)) ((field background cells).cell p)
    as_field_of_stands w p =
        ap (λ c. cell_eq made_eq (written (as_write_of make w) c) c) (as_field_of_cell p)
        ∙ ap (λ c. cell_eq made_eq c (as_cell_of make ((field background cells).cell p))) (sym (as_cell_of_written make w ((field background cells).cell p)))
        ∙ same_cell_eq (written w ((field background cells).cell p)) ((field background cells).cell p)

    -- whether a box has this cell all over
    pub as_field_of_uniform : (box : Box) (c : Cell V) → is_uniform made_eq (as_field_of make (field background cells)) box (as_cell_of make c) ≡ is_uniform eq (field background cells) box c
    as_field_of_uniform box c =
        ap (λ test. list_all test (coordinates box)) (fun_ext (λ p.
        ap (λ d. cell_eq made_eq d (as_cell_of make c)) (as_field_of_cell p) ∙ same_cell_eq ((field background cells).cell p) c))

    pub as_field_of_constant : (box : Box) → is_constant made_eq (as_field_of make (field background cells)) box ≡ is_constant eq (field background cells) box
    as_field_of_constant box =
        ap (λ c. is_uniform made_eq (as_field_of make (field background cells)) box c) (as_field_of_cell box.min) ∙ as_field_of_uniform box ((field background cells).cell box.min)

    -- how many upper extents hold anything but the background
    pub as_field_of_roots : (bits : Bits) → roots made_eq bits (as_field_of make (field background cells)) ≡ roots eq bits (field background cells)
    as_field_of_roots bits =
        ap (λ (test : Coord → Bool). length (filter test (coordinates (block_numbers bits Upper)))) (fun_ext (λ n. ap not (as_field_of_uniform (block bits Upper n) (off background))))

    -- the outcome of a call with this changed field
    pub as_outcome_of : (bits : Bits) (limit : ℕ) (old after : Field V) (changed : Field U) (result : Result (Unit {0}) TreeRefusal)
        → as_field_of make (field background cells) ≡ changed
        → IsOutcome eq bits limit old (field background cells) after result → IsOutcome made_eq bits limit (as_field_of make old) changed (as_field_of make after) result
    as_outcome_of bits limit old after changed (Ok u) is h =
        (ap (as_field_of make) h.0 ∙ is, subst (λ (n : ℕ). n ≤ limit) (sym (as_field_of_roots bits) ∙ ap (roots made_eq bits) is) h.1)
    as_outcome_of bits limit old after changed (Err RootLimit) is h =
        (ap (as_field_of make) h.0, subst (λ (n : ℕ). limit < n) (sym (as_field_of_roots bits) ∙ ap (roots made_eq bits) is) h.1)
    as_outcome_of bits limit old after changed (Err Memory) is h =
        (ap (as_field_of make) h.0, subst (λ (n : ℕ). n ≤ limit) (sym (as_field_of_roots bits) ∙ ap (roots made_eq bits) is) h.1)

-- the outcome of a write
pub as_outcome_of_write : {V U : Type 0} (make : V → U) (eq : V → V → Bool) (made_eq : U → U → Bool) (same : (v w : V) → made_eq (make v) (make w) ≡ eq v w)
    (bits : Bits) (limit : ℕ) (p : Coord) (w : Write V) (f after : Field V) (result : Result (Unit {0}) TreeRefusal)
    → IsOutcome eq bits limit f (write p w f) after result
    → IsOutcome made_eq bits limit (as_field_of make f) (write p (as_write_of make w) (as_field_of make f)) (as_field_of make after) result
as_outcome_of_write make eq made_eq same bits limit p w f after result h =
    as_outcome_of make f.background (λ q. cond (coord_eq p q) (written w (f.cell q)) (f.cell q)) eq made_eq same bits limit f after
    (write p (as_write_of make w) (as_field_of make f)) result (as_field_of_write make p w f) h

module _ {V U : Type 0} (make : V → U) (eq : V → V → Bool) (made_eq : U → U → Bool) (same : (v w : V) → made_eq (make v) (make w) ≡ eq v w)
    (bits : Bits) (limit : ℕ) (box : Box) (f after : Field V) (result : Result (Unit {0}) TreeRefusal) where
  -- the outcome of filling a box
  pub as_outcome_of_fill : (c : Cell V) → IsOutcome eq bits limit f (fill box c f) after result
      → IsOutcome made_eq bits limit (as_field_of make f) (fill box (as_cell_of make c) (as_field_of make f)) (as_field_of make after) result
  as_outcome_of_fill c h =
      as_outcome_of make f.background (λ q. cond (is_inside box q) c (f.cell q)) eq made_eq same bits limit f after
      (fill box (as_cell_of make c) (as_field_of make f)) result (as_field_of_fill make box c f) h

  -- the outcome of clipping to a box
  pub as_outcome_of_clip : IsOutcome eq bits limit f (clip box f) after result
      → IsOutcome made_eq bits limit (as_field_of make f) (clip box (as_field_of make f)) (as_field_of make after) result
  as_outcome_of_clip h =
      as_outcome_of make f.background (λ q. cond (is_inside box q) (f.cell q) (off f.background)) eq made_eq same bits limit f after
      (clip box (as_field_of make f)) result (as_field_of_clip make box f) h
