-- Grids whose accessors were never used.
use Rattle.std.specs.Prelude.{◌≡◌, ℕ, None}
use Rattle.std.specs.List.{All}
use Rattle.std.specs.Map.{values_of}
use Rattle.vdb_tree.specs.declared.path.PathOf.TheVariants.{Empty}
use Rattle.vdb_grid.specs.Grid.{GridOf, last, path}
use Rattle.vdb_scene.specs.declared.any_grid.AnyGrid.{AnyGrid}
use Rattle.vdb_scene.specs.declared.any_grid.AnyGrid.TheVariants.{Bool, I32, I64}
use Rattle.vdb_scene.specs.declared.scene.Scene.{Scene}

-- no accessor was given a coordinate, and none caches a node
abbrev pub AreUnused : {V : Type 0} → GridOf V → Type 0
AreUnused g = (k : ℕ) → (last g.coords k ≡ None) × (path g.paths k ≡ Empty)

-- the same for a grid of any type
abbrev pub HasUnusedAccessors : AnyGrid → Type 0
HasUnusedAccessors (Bool g) = AreUnused g
HasUnusedAccessors (I32 g) = AreUnused g
HasUnusedAccessors (I64 g) = AreUnused g

-- the same for each grid of a scene
abbrev pub HaveUnusedAccessors : Scene → Type 0
HaveUnusedAccessors s = All (λ e. HasUnusedAccessors e.grid) (values_of s.grids.entries)
