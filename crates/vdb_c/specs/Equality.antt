-- When two grids are equal.
use Rattle.std.specs.Prelude.{◌≡◌, ◌≢◌, ◌⊎◌, ◌<◌, ◌≤◌, ℕ, ℤ, pos, Option, Some, IsTrue}
use Rattle.vdb_coord.specs.Space.{Box, is_inside}
use Rattle.vdb_coord.specs.declared.Coord.{Coord}
use Rattle.vdb_node.specs.Leaf.{Leaf, cell_in}
use Rattle.vdb_value.specs.declared.Cell.{Cell}
use Rattle.vdb_tree.specs.Field.{Field}
use Rattle.vdb_scene.specs.Grids.{grid_field}
use Rattle.vdb_scene.specs.declared.any_grid.AnyGrid.{AnyGrid}
use Rattle.vdb_scene.specs.declared.scalar.Scalar.{Scalar}
use Rattle.vdb_c.specs.Codes.{done, empty}

-- 1 if the two fields are equal, else 0
abbrev pub IsEquality : Field Scalar → Field Scalar → ℤ → Type 0
IsEquality f g n = ((n ≡ pos 1) × (f ≡ g)) ⊎ ((n ≡ pos 0) × (f ≢ g))

-- whether the grids of two handles have equal fields; nothing is written if a handle is empty
abbrev pub Compares : Option AnyGrid → Option AnyGrid → ℤ → ℤ → ℤ → Type 0
Compares (Some g) (Some h) old new code = (code ≡ done) × IsEquality (grid_field g) (grid_field h) new
Compares g h old new code = (code ≡ empty) × (new ≡ old)

module _ {V : Type 0} where
  -- both fields have the same cells in the box
  abbrev pub AreEqualIn : Box → Field V → Field V → Type 0
  AreEqualIn box f g = (q : Coord) → IsTrue (is_inside box q) → f.cell q ≡ g.cell q

  -- two leaves have the same cells from an index on and below another; d and e are the cells that they have past the last voxel
  abbrev pub AreEqualRuns : ℕ → ℕ → Cell V → Cell V → Leaf V → Leaf V → Type 0
  AreEqualRuns from to d e a b = (i : ℕ) → from ≤ i → i < to → cell_in d a i ≡ cell_in e b i
