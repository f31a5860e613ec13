-- Arrays of a box of a tree, with values of any type.
use Rattle.vdb_c.proofs.Common.{◌≡◌, inl, refl, sym, subst, ap, ◌∙◌, ℕ, ℤ, IsTrue, List, length, Some, ◌≤ℤ◌, arith, ints, is_bounds, Box, everywhere, is_box, is_inside, is_within, Coord, both, inside_from, inside_parts, IsLaid, Strides, Field, as_cell_of, as_field_of, cell_inside, Cell, AnyGrid, Kind, Scalar, done, grid_field, grid_kind}
use Rattle.vdb_c.specs.BoxArrays.{ReadsBoxOf, box_beside}
use Rattle.vdb_c.specs.Many.{byte_at}
use Rattle.vdb_c.specs.declared.values.Corners.{Corners}
use Rattle.vdb_c.proofs.Laid.{laid_same}

-- a box within the range has voxels in the range
in_range : (b : Box) → IsTrue (is_bounds b) → (q : Coord) → IsTrue (is_inside b q) → IsTrue (is_inside everywhere q)
in_range b h q i =
    let ends = both (is_inside everywhere b.min) (is_inside everywhere b.max) (both (is_box b) (is_within b everywhere) h).1 in
    let low = inside_parts everywhere b.min ends.0 in
    let high = inside_parts everywhere b.max ends.1 in
    let at = inside_parts b q i in
    inside_from everywhere q (up low.0.0 at.0.0) (up at.0.1 high.0.1) (up low.1.0 at.1.0) (up at.1.1 high.1.1) (up low.2.0 at.2.0) (up at.2.1 high.2.1)
  where
    up : {x y z : ℤ} → x ≤ℤ y → y ≤ℤ z → x ≤ℤ z
    up {x} {y} {z} a c = omega (arith, ints, a, c)

module _ {V W X : Type 0} (make : V → W) (f : Field V) (of : Cell V → X) (by : Cell W → X) (same : (c : Cell V) → of c ≡ by (as_cell_of make c)) where
  pub laid_as : (b : Box) (s : Strides) (xs ys : List X) → IsTrue (is_bounds b)
      → IsLaid b s (is_inside b) (λ p. of (f.cell p)) xs ys → IsLaid b s (is_inside b) (λ p. by ((as_field_of make f).cell p)) xs ys
  laid_as b s xs ys h laid =
      laid_same b s (is_inside b) (λ p. of (f.cell p)) (λ p. by ((as_field_of make f).cell p)) xs ys
      (λ p i. same (f.cell p) ∙ ap by (sym (cell_inside (make f.background) (λ q. as_cell_of make (f.cell q)) p (in_range b h p i)))) laid

-- a box of a grid of a type, by what its field has
pub box_read : {X : Type 0} (kind : Kind) (value_at : Field Scalar → Coord → X) (c : Corners) (s : Strides) (g : AnyGrid) (values values' : List X) (states states' : List ℕ) (b : Box)
    → Some b ≡ box_beside c s (length values) (length states) → grid_kind g ≡ kind → (f : Field Scalar) → f ≡ grid_field g → IsLaid b s (is_inside b) (value_at f) values values'
    → IsLaid b s (is_inside b) (byte_at f) states states' → ReadsBoxOf kind value_at c s g values values' states states' done
unfolding ReadsBoxOf
box_read kind value_at c s g values values' states states' b e k f same h i = inl (
  b,
  sym e,
  k,
  refl,
  subst (λ (f : Field Scalar). IsLaid b s (is_inside b) (value_at f) values values') same h,
  subst (λ (f : Field Scalar). IsLaid b s (is_inside b) (byte_at f) states states') same i,
)
