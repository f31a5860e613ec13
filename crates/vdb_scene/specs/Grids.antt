-- The field of a grid of any type, and the abstract scene of a scene.
use Rattle.std.specs.Prelude.{◌≡◌, ℕ, false, List, [], Option, Some, None, map, slice_set}
use Rattle.std.proofs.Math.Bool.{beq}
use Rattle.std.specs.Ordering.{int_eq}
use Rattle.vdb_coord.specs.Blocks.{key, vdb}
use Rattle.vdb_coord.specs.Space.{Box}
use Rattle.vdb_coord.specs.declared.Coord.{Coord}
use Rattle.vdb_coord.specs.declared.Level.{Level}
use Rattle.vdb_tree.specs.Field.{Field, as_field_of}
use Rattle.vdb_tree.specs.Layout.{Layout, entry_over, field_of}
use Rattle.vdb_tree.specs.Leaves.{HasLeaves}
use Rattle.vdb_tree.specs.Nodes.{IsSameTree, KeepsElsewhere}
use Rattle.vdb_tree.specs.Paths.{is_child}
use Rattle.vdb_tree.specs.SplitBox.{IsCovered}
use Rattle.vdb_tree.specs.Table.{HasCapacity}
use Rattle.vdb_grid.specs.Grid.{IsInLastLeaf, last}
use Rattle.vdb_tree.specs.Smallest.{IsLeast}
use Rattle.vdb_scene.specs.Metas.{Pairs}
use Rattle.vdb_scene.specs.Scene as abstract_scene
use Rattle.vdb_scene.specs.declared.scalar.Scalar.{Scalar}
use Rattle.vdb_scene.specs.declared.scalar.Scalar.TheVariants as scalars
use Rattle.vdb_scene.specs.declared.any_grid.AnyGrid.{AnyGrid}
use Rattle.vdb_scene.specs.declared.any_grid.AnyGrid.TheVariants.{Bool, I32, I64}
use Rattle.vdb_scene.specs.declared.grid_entry.GridEntry.{GridEntry}
use Rattle.vdb_scene.specs.declared.scene.Scene.{Scene}

-- the field of a grid
abbrev pub grid_field : AnyGrid → Field Scalar
grid_field (Bool g) = as_field_of scalars.Bool (field_of vdb g.tree)
grid_field (I32 g) = as_field_of scalars.I32 (field_of vdb g.tree)
grid_field (I64 g) = as_field_of scalars.I64 (field_of vdb g.tree)

-- the maximum number of its root blocks with a cell other than the inactive background
abbrev pub grid_root_limit : AnyGrid → ℕ
grid_root_limit (Bool g) = g.tree.limit
grid_root_limit (I32 g) = g.tree.limit
grid_root_limit (I64 g) = g.tree.limit

-- its root table has an entry for the coordinate, or capacity for one more
abbrev pub HasRootCapacity : AnyGrid → Coord → Type 0
HasRootCapacity (Bool g) p = HasCapacity g.tree (key vdb p)
HasRootCapacity (I32 g) p = HasCapacity g.tree (key vdb p)
HasRootCapacity (I64 g) p = HasCapacity g.tree (key vdb p)

-- its tree has no entry and no node that its field doesn't need
abbrev pub IsPruned : AnyGrid → Type 0
IsPruned (Bool g) = IsLeast beq vdb g.tree
IsPruned (I32 g) = IsLeast int_eq vdb g.tree
IsPruned (I64 g) = IsLeast int_eq vdb g.tree

-- each active voxel of the box lies in a leaf of its tree
abbrev pub IsVoxelised : AnyGrid → Box → Type 0
IsVoxelised (Bool g) box = HasLeaves vdb g.tree box
IsVoxelised (I32 g) box = HasLeaves vdb g.tree box
IsVoxelised (I64 g) box = HasLeaves vdb g.tree box

-- each block of a tree that lies within the box is a tile
abbrev pub HasTiles : {V : Type 0} → Layout V → Box → Type 0
HasTiles t box = (level : Level) (p : Coord) → IsCovered vdb box level p → is_child (entry_over vdb level t p) ≡ false

-- the same for its tree
abbrev pub IsTiled : AnyGrid → Box → Type 0
IsTiled (Bool g) box = HasTiles g.tree box
IsTiled (I32 g) box = HasTiles g.tree box
IsTiled (I64 g) box = HasTiles g.tree box

-- the last coordinates of its accessors
abbrev pub grid_coords : AnyGrid → List (Option Coord)
grid_coords (Bool g) = g.coords
grid_coords (I32 g) = g.coords
grid_coords (I64 g) = g.coords

-- the coordinates after a call at p through this accessor, or through none
abbrev pub coords_after : Option ℕ → Coord → List (Option Coord) → List (Option Coord)
coords_after None p coords = coords
coords_after (Some k) p coords = slice_set coords k (Some p)

-- the coordinate that this accessor was last given
abbrev pub last_of : Option ℕ → List (Option Coord) → Option Coord
last_of None coords = None
last_of (Some k) coords = last coords k

-- a leaf of its tree holds p and the coordinate that this accessor was last given
abbrev pub IsInLeafOf : AnyGrid → Option ℕ → Coord → Type 0
IsInLeafOf (Bool g) accessor p = IsInLastLeaf g.tree (last_of accessor g.coords) p
IsInLeafOf (I32 g) accessor p = IsInLastLeaf g.tree (last_of accessor g.coords) p
IsInLeafOf (I64 g) accessor p = IsInLastLeaf g.tree (last_of accessor g.coords) p

-- every node and tile that doesn't hold p stays
abbrev pub KeepsOutside : AnyGrid → AnyGrid → Coord → Type 0
KeepsOutside (Bool g) (Bool h) p = KeepsElsewhere vdb g.tree h.tree p
KeepsOutside (I32 g) (I32 h) p = KeepsElsewhere vdb g.tree h.tree p
KeepsOutside (I64 g) (I64 h) p = KeepsElsewhere vdb g.tree h.tree p
KeepsOutside g h p = ⊥

-- two grids have equal trees
abbrev pub HasSameTree : AnyGrid → AnyGrid → Type 0
HasSameTree (Bool g) (Bool h) = h.tree ≡ g.tree
HasSameTree (I32 g) (I32 h) = h.tree ≡ g.tree
HasSameTree (I64 g) (I64 h) = h.tree ≡ g.tree
HasSameTree g h = ⊥

-- the second has the first's tiles and nodes, and accessors without a coordinate
abbrev pub IsCopyOf : AnyGrid → AnyGrid → Type 0
IsCopyOf (Bool g) (Bool h) = IsSameTree vdb g.tree h.tree × ((k : ℕ) → last h.coords k ≡ None)
IsCopyOf (I32 g) (I32 h) = IsSameTree vdb g.tree h.tree × ((k : ℕ) → last h.coords k ≡ None)
IsCopyOf (I64 g) (I64 h) = IsSameTree vdb g.tree h.tree × ((k : ℕ) → last h.coords k ≡ None)
IsCopyOf g h = ⊥

-- an entry of a scene as the abstract scene has it
abbrev pub grid_of : GridEntry → abstract_scene.Grid
grid_of e = record { field = grid_field e.grid; limit = grid_root_limit e.grid; pairs = e.metas }

-- a grid without metadata, as the abstract scene has it
abbrev pub grid_alone : AnyGrid → abstract_scene.Grid
grid_alone g = record { field = grid_field g; limit = grid_root_limit g; pairs = [] }

-- a grid with these pairs, as the abstract scene has it
abbrev pub grid_with : AnyGrid → Pairs → abstract_scene.Grid
grid_with g pairs = record { field = grid_field g; limit = grid_root_limit g; pairs = pairs }

-- the abstract scene of these entries
abbrev pub scene_over : List (List ℕ × GridEntry) → abstract_scene.Scene
scene_over grids = map (λ e. (e.0, grid_of e.1)) grids

-- the abstract scene of a scene
abbrev pub scene_of : Scene → abstract_scene.Scene
scene_of s = scene_over s.grids.entries
