-- What a call that makes a grid of an array's elements does.
use Rattle.std.specs.Prelude.{◌≡◌, ◌≢◌, ◌⊎◌, ◌<◌, ℕ, ℤ, ⊤, Bool, not, if◌then◌else◌, IsTrue, List, Option, Some, None, length, slice_get}
use Rattle.std.specs.Option.{option_map_or}
use Rattle.vdb_coord.specs.Blocks.{vdb}
use Rattle.vdb_coord.specs.Space.{Box, coord, everywhere, is_inside}
use Rattle.vdb_coord.specs.declared.Coord.{Coord}
use Rattle.vdb_node.specs.Leaf.{cell_in, Leaf}
use Rattle.vdb_value.specs.declared.Cell.{Cell}
use Rattle.vdb_value.specs.declared.Kind.{Kind}
use Rattle.vdb_tree.specs.ConstantBlocks.{roots}
use Rattle.vdb_tree.specs.Field.{Field, as_field_of, field, off}
use Rattle.vdb_tree.specs.Layout.{Layout, field_of}
use Rattle.vdb_tree.specs.Smallest.{IsLeast}
use Rattle.vdb_scene.specs.Grids.{IsPruned, grid_field, grid_root_limit}
use Rattle.vdb_scene.specs.Scalars.{scalar_eq}
use Rattle.vdb_scene.specs.declared.any_grid.AnyGrid.{AnyGrid}
use Rattle.vdb_scene.specs.declared.scalar.Scalar.{Scalar}
use Rattle.vdb_c.specs.BoxWrites.{box_written}
use Rattle.vdb_c.specs.Calls.{OnValid, is_root_limit}
use Rattle.vdb_c.specs.Codes.{done, memory, root_limit}
use Rattle.vdb_c.specs.Elements.{place}
use Rattle.vdb_c.specs.Values.{value_of}
use Rattle.vdb_c.specs.declared.boxes.elements.Strides.{Strides}
use Rattle.vdb_c.specs.declared.values.Corners.{Corners}

module _ {V X : Type 0} (eq : V → V → Bool) (value : X → V) (background : V) where
  -- the cell of an element: active unless its value is the background
  abbrev pub cell_of_element : X → Cell V
  cell_of_element x = record { value = value x; on = not (eq (value x) background) }

  -- the cell of an element of an array, by its index
  abbrev pub cell_at : List X → ℕ → Cell V
  cell_at values n = option_map_or cell_of_element (slice_get values n) (off background)

  module _ (b : Box) (s : Strides) (values : List X) where
    -- the cell of a voxel of a box: that of its element
    abbrev pub cell_given : Coord → Cell V
    cell_given p = cell_at values (place b s p)

    -- the field in which the voxels of a box have the cells of their elements, and all others are the inactive background
    abbrev pub field_given : Field V
    field_given = field background (λ p. if is_inside b p then cell_given p else off background)

-- a coordinate, or a box, with x and z exchanged if that is wanted
abbrev pub turned : Bool → Coord → Coord
turned turn p = if turn then coord p.z p.y p.x else p

abbrev pub turned_box : Bool → Box → Box
turned_box turn b = record { min = turned turn b.min; max = turned turn b.max }

-- the cells of a leaf by their index, or those of a blank one: each the inactive background
abbrev pub cells_of : {V : Type 0} → V → Bool → Leaf V → Cell V → ℕ → Cell V
cells_of background blank leaf d i = if blank then off background else cell_in d leaf i

-- these entries of a leaf have these cells, and each other one stays
pub record HasCells {V I : Type 0} (Within : I → Type 0) (entry : I → ℕ) (cell : I → Cell V) (old new : ℕ → Cell V) : Type 0 where
  pub within : (n : I) → Within n → new (entry n) ≡ cell n
  pub others : (i : ℕ) → i < 512 → ((n : I) → Within n → entry n ≢ i) → new i ≡ old i

-- these voxels of a field have these cells, and every other stays; each either is in the box and has its cell, or stays
pub record AreGiven {V : Type 0} (b : Box) (Within : Coord → Type 0) (cell : Coord → Cell V) (old new : Field V) : Type 0 where
  pub background : new.background ≡ old.background
  pub voxels : (q : Coord) → IsTrue (is_inside everywhere q) → Within q → new.cell q ≡ cell q
  pub others : (q : Coord) → IsTrue (is_inside everywhere q) → (Within q → ⊥) → new.cell q ≡ old.cell q
  pub either : (q : Coord) → IsTrue (is_inside everywhere q) → (IsTrue (is_inside b q) × (new.cell q ≡ cell q)) ⊎ (new.cell q ≡ old.cell q)

-- the background of a grid of a type, if the type has it and the root limit is in range
abbrev pub background_given : Kind → ℤ → ℕ → Option Scalar
background_given kind background limit = if is_root_limit limit then value_of kind background else None

-- a grid with this field and this limit, and with no entry and no node that they don't need
abbrev pub IsGridOf : ℕ → Field Scalar → Option AnyGrid → Type 0
IsGridOf limit f None = ⊥
IsGridOf limit f (Some g) = (grid_field g ≡ f) × (grid_root_limit g ≡ limit) × IsPruned g

-- a grid was made, or memory ran out, or it would exceed the limit
abbrev pub Makes : ℕ → Field Scalar → Option AnyGrid → Option AnyGrid → ℤ → Type 0
Makes limit f old new code =
    ((code ≡ done) × IsGridOf limit f new) ⊎ ((code ≡ memory) × (new ≡ old)) ⊎ ((code ≡ root_limit) × (new ≡ old) × (limit < roots scalar_eq vdb f))

-- a grid was made of the elements of a box, whose values are these, if each argument is in range
unfoldable pub IsBuilt : {X : Type 0} → Kind → (X → Scalar) → ℤ → ℕ → Corners → Strides → List X → Option AnyGrid → Option AnyGrid → ℤ → Type 0
IsBuilt kind value background limit c s values old new code =
    OnValid (background_given kind background limit) old new code ⊤ (λ v.
    OnValid (box_written c s (length values) 0) old new code ⊤ (λ box. Makes limit (field_given scalar_eq value v box s values) old new code))

-- a tree made of the elements of a box, whose values are these, if each argument is in range
pub record IsTreeOf {V X : Type 0} (kind : Kind) (eq : V → V → Bool) (make : V → Scalar) (value : X → Scalar) (background : ℤ) (limit : ℕ) (c : Corners) (s : Strides) (values : List X) (t : Layout V) : Type 0 where
  pub base : Scalar
  pub base_is : background_given kind background limit ≡ Some base
  pub box : Box
  pub box_is : box_written c s (length values) 0 ≡ Some box
  pub field_is : as_field_of make (field_of vdb t) ≡ field_given scalar_eq value base box s values
  pub limit_is : t.limit ≡ limit
  pub least : IsLeast eq vdb t
