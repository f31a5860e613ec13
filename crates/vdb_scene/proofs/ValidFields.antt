-- The fields of operations have values of their type, and are background beyond the range of coordinates.
use Rattle.vdb_scene.proofs.Common.{◌≡◌, ◌∙◌, refl, sym, subst, inl, inr, ℕ, zero, suc, ◌≤◌, ℤ, Bool, true, false, cond, Some, None, unwrap_or, [], option_map, ◌+ℤ◌, ◌||◌, ◌&&◌, not, block, vdb, Box, everywhere, Coord, Upper, Cell, Kind, roots, Field, clip, combine, dilate, erode, field, fill, new, replace, ruled, iterations, with_states, write, written, Write, Unite, Subtract, Intersect, has_form, has_value, kind_eq, kind_of, scalar, scalar_eq, scalar_greater, scalar_lesser, scalar_sum, passes, IsField, is_value_of, Literal, Number, Truth, Near, Scalar, I32, I64}
use Rattle.std.specs.Prelude.{int_lt}
use Rattle.std.proofs.lemmas.Bool.{cases_Bool}
use Rattle.vdb_coord.specs.Space.{coord_eq, is_inside}
use Rattle.vdb_value.specs.Values.{has_number}
use Rattle.vdb_value.specs.declared.Kind.TheVariants as kinds
use Rattle.vdb_tree.specs.Field.{off}
use Rattle.vdb_tree.specs.declared.Write.TheVariants as writes
use Rattle.vdb_tree.specs.declared.pairs.StateRule.{StateRule}
use Rattle.vdb_tree.proofs.Blocks.{never}
use Rattle.vdb_tree.proofs.Rooted.{roots_at_most}
use Rattle.vdb_tree.proofs.Uniform.{uniform_from}
use Rattle.vdb_morph.proofs.IterationLaws.{eroded_roots}
use Rattle.vdb_region.proofs.Clearing.{clip_within}
use Rattle.vdb_scene.proofs.ScalarValues.{scalar_exact, scalar_itself}
use Rattle.vdb_scene.specs.declared.scalar.Scalar.TheVariants.{Bool as truth}

-- ---- values

-- a value of a type has that type
kind_is : (k : Kind) (v : Scalar) → is_value_of k v ≡ true → kind_of v ≡ k
kind_is kinds.Bool (truth b) h = refl
kind_is kinds.I32 (I32 z) h = refl
kind_is kinds.I64 (I64 z) h = refl
kind_is k v h = absurd cc

-- types that compare equal are equal
pub kind_exact : (k l : Kind) → kind_eq k l ≡ true → k ≡ l
kind_exact kinds.Bool kinds.Bool h = refl
kind_exact kinds.I32 kinds.I32 h = refl
kind_exact kinds.I64 kinds.I64 h = refl
kind_exact k l h = absurd cc

-- the value that a line writes, if it has the form and lies within the range
pub value_read : (k : Kind) (v : Literal) → has_form k v ≡ true → has_value k v ≡ true → is_value_of k (scalar k v) ≡ true
value_read kinds.Bool (Truth b) form value = refl
value_read kinds.I32 (Number (Near z)) form value = value
value_read kinds.I64 (Number (Near z)) form value = value
value_read k v form value = absurd cc

pub kind_read : (k : Kind) (v : Literal) → has_form k v ≡ true → kind_of (scalar k v) ≡ k
kind_read kinds.Bool (Truth b) form = refl
kind_read kinds.I32 (Number n) form = refl
kind_read kinds.I64 (Number n) form = refl
kind_read k v form = absurd cc

-- an operation makes a value of a type from two values of it
abbrev pub IsClosed : (Scalar → Scalar → Scalar) → Type 0
IsClosed both = (k : Kind) (x y : Scalar) → is_value_of k x ≡ true → is_value_of k y ≡ true → is_value_of k (both x y) ≡ true

-- one of two numbers of a type
one_of : (k : Kind) (test : Bool) (y z : ℤ) → has_number k y ≡ true → has_number k z ≡ true → has_number k (cond test y z) ≡ true
one_of k true y z hy hz = hy
one_of k false y z hy hz = hz

pub greater_closed : IsClosed scalar_greater
greater_closed kinds.Bool (truth a) (truth b) hx hy = refl
greater_closed kinds.I32 (I32 y) (I32 z) hx hy = one_of kinds.I32 (int_lt z y) y z hx hy
greater_closed kinds.I64 (I64 y) (I64 z) hx hy = one_of kinds.I64 (int_lt z y) y z hx hy
greater_closed k x y hx hy = absurd cc

pub lesser_closed : IsClosed scalar_lesser
lesser_closed kinds.Bool (truth a) (truth b) hx hy = refl
lesser_closed kinds.I32 (I32 y) (I32 z) hx hy = one_of kinds.I32 (int_lt z y) z y hy hx
lesser_closed kinds.I64 (I64 y) (I64 z) hx hy = one_of kinds.I64 (int_lt z y) z y hy hx
lesser_closed k x y hx hy = absurd cc

-- a sum, or the first number if the type has no sum
summed : (k : Kind) (make : ℤ → Scalar) → ((z : ℤ) → is_value_of k (make z) ≡ has_number k z) → (b : Bool) (y s : ℤ) → has_number k y ≡ true → (b ≡ true → has_number k s ≡ true)
    → is_value_of k (unwrap_or (option_map make (cond b (Some s) None)) (make y)) ≡ true
summed k make is true y s hy hs = is s ∙ hs refl
summed k make is false y s hy hs = is y ∙ hy

pub sum_closed : IsClosed (λ v w. unwrap_or (scalar_sum v w) v)
sum_closed kinds.Bool (truth a) (truth b) hx hy = refl
sum_closed kinds.I32 (I32 y) (I32 z) hx hy = summed kinds.I32 I32 (λ z. refl) (has_number kinds.I32 (y +ℤ z)) y (y +ℤ z) hx (λ e. e)
sum_closed kinds.I64 (I64 y) (I64 z) hx hy = summed kinds.I64 I64 (λ z. refl) (has_number kinds.I64 (y +ℤ z)) y (y +ℤ z) hx (λ e. e)
sum_closed k x y hx hy = absurd cc

-- ---- fields

under : (b : Bool) (k : Kind) (c : Cell Scalar) (v : Scalar) → is_value_of k c.value ≡ true → is_value_of k v ≡ true → is_value_of k (cond b c (off v)).value ≡ true
under true k c v hc hv = hc
under false k c v hc hv = hv

either : (b : Bool) (k : Kind) (c d : Cell Scalar) → is_value_of k c.value ≡ true → is_value_of k d.value ≡ true → is_value_of k (cond b c d).value ≡ true
either true k c d hc hd = hc
either false k c d hc hd = hd

-- cells of one type, cut to the range of coordinates
field_is : (background : Scalar) (cells : Coord → Cell Scalar) → is_value_of (kind_of background) background ≡ true
    → ((p : Coord) → is_value_of (kind_of background) (cells p).value ≡ true) → IsField (field background cells)
field_is background cells base each = record {
  background = base;
  values = λ p. under (is_inside everywhere p) (kind_of background) (cells p) background (each p) base;
  outside = λ p out. rw out refl;
}

-- a valid field is made of its own cells
own_field : (f : Field Scalar) → IsField f → field f.background f.cell ≡ f
own_field f is = λ j. record { background = f.background; cell = λ p. cells p j }
  where
    cells : (p : Coord) → (field f.background f.cell).cell p ≡ f.cell p
    cells p =
        elim (cases_Bool (is_inside everywhere p)) [
          | inl e ↦ rw e refl
          | inr e ↦ rw e (sym (is.outside p e))
        ]

-- the field that was never written
pub new_is : (v : Scalar) → is_value_of (kind_of v) v ≡ true → IsField (new v)
new_is v h = field_is v (λ _. off v) h (λ p. h)

always : (b : Bool) (c : Cell Scalar) → cond b c c ≡ c
always true c = refl
always false c = refl

-- it has no root block with another cell
pub new_roots : (v : Scalar) → roots scalar_eq vdb (new v) ≤ 0
new_roots v =
    roots_at_most scalar_eq vdb (new v) [] (λ k inside other.
    absurd (never other (uniform_from scalar_eq scalar_exact scalar_itself (new v) (block vdb Upper k) (off v) (λ p h. always (is_inside everywhere p) (off v)))))

module _ (f : Field Scalar) (is : IsField f) where
  abbrev kind : Kind
  kind = kind_of f.background

  written_is : (w : Write Scalar) (c : Cell Scalar) → passes (is_value_of kind) w ≡ true → is_value_of kind c.value ≡ true → is_value_of kind (written w c).value ≡ true
  written_is (writes.On v) c hw hc = hw
  written_is (writes.Off v) c hw hc = hw
  written_is (writes.Value v) c hw hc = hw
  written_is (writes.State on) c hw hc = hc

  pub write_is : (q : Coord) (w : Write Scalar) → passes (is_value_of kind) w ≡ true → IsField (write q w f)
  write_is q w h =
      field_is f.background _ is.background (λ p. either (coord_eq q p) kind (written w (f.cell p)) (f.cell p) (written_is w (f.cell p) h (is.values p)) (is.values p))

  pub fill_is : (box : Box) (c : Cell Scalar) → is_value_of kind c.value ≡ true → IsField (fill box c f)
  fill_is box c h = field_is f.background _ is.background (λ p. either (is_inside box p) kind c (f.cell p) h (is.values p))

  pub clip_is : (box : Box) → IsField (clip box f)
  clip_is box = field_is f.background _ is.background (λ p. under (is_inside box p) kind (f.cell p) f.background (is.values p) is.background)

  -- clipping adds no root block with a cell other than the background
  pub clip_roots : (box : Box) → roots scalar_eq vdb (clip box f) ≤ roots scalar_eq vdb f
  clip_roots box = subst (λ (g : Field Scalar). roots scalar_eq vdb (clip box g) ≤ roots scalar_eq vdb g) (own_field f is) (clip_within scalar_eq scalar_exact scalar_itself vdb box f.background f.cell)

  -- states alone change
  states_is : {U : Type 0} (state : Bool → Bool → Bool) (g : Field U) → IsField (with_states state f g)
  states_is state g = field_is f.background _ is.background is.values

  pub ruled_is : (rule : StateRule) (g : Field Scalar) → IsField (ruled rule f g)
  ruled_is Unite g = states_is (λ s t. s || t) g
  ruled_is Subtract g = states_is (λ s t. s && not t) g
  ruled_is Intersect g = states_is (λ s t. s && t) g

  module _ (g : Field Scalar) (is_g : IsField g) (same : kind_of f.background ≡ kind_of g.background) where
    -- the values of the other field have the type
    other_values : (p : Coord) → is_value_of kind (g.cell p).value ≡ true
    other_values p = subst (λ k. is_value_of k (g.cell p).value ≡ true) (sym same) (is_g.values p)

    pub combine_is : (both : Scalar → Scalar → Scalar) → IsClosed both → IsField (combine both f g)
    combine_is both closed =
        let base = closed kind f.background g.background is.background (subst (λ k. is_value_of k g.background ≡ true) (sym same) is_g.background) in
        let one = sym (kind_is kind (both f.background g.background) base) in
        field_is (both f.background g.background) _ (subst (λ k. is_value_of k (both f.background g.background) ≡ true) one base)
        (λ p. subst (λ k. is_value_of k (both (f.cell p).value (g.cell p).value) ≡ true) one (closed kind (f.cell p).value (g.cell p).value (is.values p) (other_values p)))

    pub replace_is : IsField (replace f g)
    replace_is = field_is f.background _ is.background (λ p. either (g.cell p).on kind (g.cell p) (f.cell p) (other_values p) (is.values p))

pub dilated_is : (n : ℕ) (f : Field Scalar) → IsField f → IsField (iterations n dilate f)
dilated_is zero f is = is
dilated_is (suc n) f is = dilated_is n (dilate f) (field_is f.background _ is.background is.values)

pub eroded_is : (n : ℕ) (f : Field Scalar) → IsField f → IsField (iterations n erode f)
eroded_is zero f is = is
eroded_is (suc n) f is = eroded_is n (erode f) (field_is f.background _ is.background is.values)

-- erosion adds no root block with a cell other than the background
pub erosion_roots : (n : ℕ) → 1 ≤ n → (f : Field Scalar) → roots scalar_eq vdb (iterations n erode f) ≤ roots scalar_eq vdb f
erosion_roots n some f = eroded_roots scalar_eq scalar_exact scalar_itself vdb n some f
