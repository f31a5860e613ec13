-- The abstract scene: named fields, with limits and metadata pairs.
use Rattle.std.specs.Prelude.{ℕ, Bool, false, List, [], Option, unwrap_or}
use Rattle.std.specs.Ordering.{nat_cmp}
use Rattle.std.specs.Cmp.Lexicographic.{slice_cmp}
use Rattle.std.specs.Map.{lookup, remove_entry, set_value}
use Rattle.std.specs.BTreeMap.{insert_entry, is_at}
use Rattle.vdb_value.specs.declared.Kind.{Kind}
use Rattle.vdb_tree.specs.Field.{Field, new}
use Rattle.vdb_scene.specs.Metas.{Pairs}
use Rattle.vdb_scene.specs.Scalars.{kind_of}
use Rattle.vdb_scene.specs.declared.scalar.Scalar.{Scalar}
use Rattle.vdb_scene.specs.declared.scalar.Scalar.TheVariants.{Bool as truth}

-- what a name stands for: one total function from coordinates to cells, whose background has its type, the maximum number of its
-- root blocks with a cell other than the inactive background, and its metadata pairs
pub record Grid : Type 0 where
  pub field : Field Scalar
  pub limit : ℕ
  pub pairs : Pairs

-- the grids, each under its name, by rising bytes of the names
abbrev pub Scene : Type 0
Scene = List (List ℕ × Grid)

-- whether another name is this one
abbrev pub is_named : List ℕ → List ℕ → Bool
is_named name = is_at (slice_cmp nat_cmp name)

-- the grid of a name, if it exists
abbrev pub grid_at : Scene → List ℕ → Option Grid
grid_at s name = lookup (is_named name) s

-- a grid that has never been written, without metadata
abbrev pub new_grid : Scalar → ℕ → Grid
new_grid background limit = record { field = new background; limit = limit; pairs = [] }

-- the grid of an existing name; for a missing name any other, which an error excludes
abbrev pub the_grid : Scene → List ℕ → Grid
the_grid s name = unwrap_or (grid_at s name) (new_grid (truth false) 0)

-- its field
abbrev pub field_at : Scene → List ℕ → Field Scalar
field_at s name = (the_grid s name).field

-- its limit
abbrev pub limit_at : Scene → List ℕ → ℕ
limit_at s name = (the_grid s name).limit

-- its metadata pairs
abbrev pub pairs_at : Scene → List ℕ → Pairs
pairs_at s name = (the_grid s name).pairs

-- its type
abbrev pub kind_at : Scene → List ℕ → Kind
kind_at s name = kind_of (field_at s name).background

-- the scene with a further grid, under a new name
abbrev pub with_grid : Scene → List ℕ → Grid → Scene
with_grid s name g = insert_entry (slice_cmp nat_cmp) s name g

-- the scene with another grid under an existing name
abbrev pub with_changed : Scene → List ℕ → Grid → Scene
with_changed s name g = set_value (is_named name) s g

-- the scene without the grid of a name
abbrev pub without_grid : Scene → List ℕ → Scene
without_grid s name = remove_entry (is_named name) s
