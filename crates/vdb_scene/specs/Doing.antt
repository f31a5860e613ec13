-- The results of calls that carry out a command.
use Rattle.std.specs.Prelude.{◌≡◌, ℕ, ⊤, Bool, true, false, List, Option, Some, None, Result, Ok, Err, IsTrue}
use Rattle.std.specs.Ordering.{nat_cmp}
use Rattle.std.specs.Cmp.Lexicographic.{slice_cmp}
use Rattle.std.specs.Map.{lookup, remove_entry, set_value}
use Rattle.std.specs.BTreeMap.{insert_entry}
use Rattle.vdb_coord.specs.declared.Coord.{Coord}
use Rattle.vdb_scene.specs.Accessors.{HasUnusedAccessors}
use Rattle.vdb_scene.specs.Grids.{HasSameTree, IsCopyOf, IsInLeafOf, IsPruned, IsTiled, IsVoxelised, coords_after, grid_coords, scene_of}
use Rattle.vdb_scene.specs.Scene as abstract_scene
use Rattle.vdb_scene.specs.Scene.{is_named}
use Rattle.vdb_scene.specs.Shown.{Shows}
use Rattle.vdb_scene.specs.Metas.{Pairs}
use Rattle.vdb_scene.specs.Arguments.{accessor_of, box_between, coord_of}
use Rattle.vdb_scene.specs.Replies.{Reply}
use Rattle.vdb_scene.specs.Step.{IsReply, Step, after, first_refusal, refusal, takes_memory}
use Rattle.vdb_scene.specs.declared.grid_entry.GridEntry.{GridEntry}
use Rattle.vdb_scene.specs.declared.command.Command.{Command}
use Rattle.vdb_scene.specs.declared.command.Command.TheVariants as commands
use Rattle.vdb_scene.specs.declared.command.Num.{Num}
use Rattle.vdb_scene.specs.declared.command.Point.{Point}
use Rattle.vdb_scene.specs.declared.any_grid.AnyGrid.{AnyGrid}
use Rattle.vdb_scene.specs.declared.answer.Answer.{Answer}
use Rattle.vdb_scene.specs.declared.answer.Answer.TheVariants.{Done, Refused}
use Rattle.vdb_scene.specs.declared.answer.Refusal.{Refusal}
use Rattle.vdb_scene.specs.declared.answer.Refusal.TheVariants as refusals
use Rattle.vdb_scene.specs.declared.scene.Scene.{Scene}

-- ---- the step of the abstract scene

-- an answer and the scene after the command; or its error, or the error `Memory`, and the unchanged scene
abbrev pub CarriesOut : abstract_scene.Scene → Command → Result Answer Refusal → abstract_scene.Scene → Type 0
CarriesOut s c (Ok answer) next = (refusal s c ≡ None) × ((reply : Reply) × Shows answer reply × IsReply s c reply) × (next ≡ after s c)
CarriesOut s c (Err refusals.Memory) next = (first_refusal s c ≡ None) × IsTrue (takes_memory s c) × (next ≡ s)
CarriesOut s c (Err r) next = (refusal s c ≡ Some r) × (next ≡ s)

-- the same for a command that answers `Done`, without the answer
abbrev pub Does : abstract_scene.Scene → Command → Result (Unit {0}) Refusal → abstract_scene.Scene → Type 0
Does s c (Ok _) next = (refusal s c ≡ None) × (next ≡ after s c)
Does s c (Err refusals.Memory) next = (first_refusal s c ≡ None) × IsTrue (takes_memory s c) × (next ≡ s)
Does s c (Err r) next = (refusal s c ≡ Some r) × (next ≡ s)

-- the answer shows the answer of a step of the scene
abbrev pub ShowsStep : abstract_scene.Scene → Command → Answer → abstract_scene.Scene → Type 0
ShowsStep s c answer next = (reply : Reply) × Shows answer reply × Step s c reply next

-- ---- the trees, which no answer shows

-- each name stands for the same grid, of the same tree
abbrev pub KeepsGrids : Scene → Scene → Type 0
KeepsGrids old new = new.grids.entries ≡ old.grids.entries

-- an existing name stands for this grid, and each other name for the same grid as before
abbrev pub PutsGrid : Scene → List ℕ → GridEntry → Scene → Type 0
PutsGrid old name e new = new.grids.entries ≡ set_value (is_named name) old.grids.entries e

-- a new name stands for this grid, and each other name for the same grid as before
abbrev pub AddsGrid : Scene → List ℕ → GridEntry → Scene → Type 0
AddsGrid old name e new = new.grids.entries ≡ insert_entry (slice_cmp nat_cmp) old.grids.entries name e

-- a name is gone, and each other name stands for the same grid as before
abbrev pub RemovesGrid : Scene → List ℕ → Scene → Type 0
RemovesGrid old name new = new.grids.entries ≡ remove_entry (is_named name) old.grids.entries

-- the grid of a name, if there is one, and another grid change places; the pairs of the name stay
abbrev pub SwapsGrid : Option GridEntry → Scene → List ℕ → Scene → AnyGrid → AnyGrid → Bool → Type 0
SwapsGrid None old name new was is found = (found ≡ false) × (new ≡ old) × (is ≡ was)
SwapsGrid (Some e) old name new was is found = (found ≡ true) × PutsGrid old name (record e { grid = was }) new × (is ≡ e.grid)

-- an existing name stands for another grid, whose accessors keep their coordinates
abbrev pub PutsTree : Scene → List ℕ → GridEntry → GridEntry → Scene → Type 0
PutsTree old name was e new = (lookup (is_named name) old.grids.entries ≡ Some was) × PutsGrid old name e new × (grid_coords e.grid ≡ grid_coords was.grid)

-- an existing name stands for another grid, whose accessors have the coordinates after a call at p through k
abbrev pub PutsAccessed : Scene → List ℕ → Option Num → Point → GridEntry → GridEntry → Scene → Type 0
PutsAccessed old name k p was e new =
    (lookup (is_named name) old.grids.entries ≡ Some was) × PutsGrid old name e new × (grid_coords e.grid ≡ coords_after (accessor_of k) (coord_of p) (grid_coords was.grid))

-- an existing name stands for the same grid with other metadata
abbrev pub PutsMetas : Scene → List ℕ → Scene → Type 0
PutsMetas old name new = (was : GridEntry) × (metas : Pairs) × (lookup (is_named name) old.grids.entries ≡ Some was) × PutsGrid old name (record was { metas = metas }) new

-- The trees after a command that succeeds, beside their cells. Each grid is unchanged, except the one that the
-- command changes, creates or removes. `get` and the writes of a voxel move the accessor that they name, and `get` nothing else;
-- every other accessor keeps its coordinate. `grid` makes accessors that were never used, and `copy` the same tiles and nodes,
-- and accessors without a coordinate.
-- `fill` leaves each block of its box a tile, `prune` its grid pruned, and `voxelise` puts each active voxel of its box into a leaf of
-- its grid.
abbrev pub Shapes : Command → Scene → Scene → Type 0
Shapes (commands.Grid name kind v limit) old new = (e : GridEntry) × AddsGrid old name e new × HasUnusedAccessors e.grid
Shapes (commands.Drop name) old new = RemovesGrid old name new
Shapes (commands.Copy from to) old new = (was : GridEntry) × (e : GridEntry) × (lookup (is_named from) old.grids.entries ≡ Some was) × AddsGrid old to e new × IsCopyOf was.grid e.grid
Shapes (commands.Get name k p) old new = (was : GridEntry) × (e : GridEntry) × PutsAccessed old name k p was e new × HasSameTree was.grid e.grid
Shapes (commands.Set name k p v) old new = (was : GridEntry) × (e : GridEntry) × PutsAccessed old name k p was e new
Shapes (commands.Unset name k p v) old new = (was : GridEntry) × (e : GridEntry) × PutsAccessed old name k p was e new
Shapes (commands.Only name k p v) old new = (was : GridEntry) × (e : GridEntry) × PutsAccessed old name k p was e new
Shapes (commands.State name k p on) old new = (was : GridEntry) × (e : GridEntry) × PutsAccessed old name k p was e new
Shapes (commands.Fill name c v on) old new = (was : GridEntry) × (e : GridEntry) × PutsTree old name was e new × IsTiled e.grid (box_between c)
Shapes (commands.Clip name c) old new = (was : GridEntry) × (e : GridEntry) × PutsTree old name was e new
Shapes (commands.Prune name) old new = (was : GridEntry) × (e : GridEntry) × PutsTree old name was e new × IsPruned e.grid
Shapes (commands.Voxelise name c) old new = (was : GridEntry) × (e : GridEntry) × PutsTree old name was e new × IsVoxelised e.grid (box_between c)
Shapes (commands.List name c limit) old new = KeepsGrids old new
Shapes (commands.Slice name z a) old new = KeepsGrids old new
Shapes (commands.Count name c) old new = KeepsGrids old new
Shapes (commands.Bounds name) old new = KeepsGrids old new
Shapes (commands.Census name) old new = KeepsGrids old new
Shapes (commands.Union name other) old new = (was : GridEntry) × (e : GridEntry) × PutsTree old name was e new
Shapes (commands.Difference name other) old new = (was : GridEntry) × (e : GridEntry) × PutsTree old name was e new
Shapes (commands.Intersect name other) old new = (was : GridEntry) × (e : GridEntry) × PutsTree old name was e new
Shapes (commands.Max name other) old new = (was : GridEntry) × (e : GridEntry) × PutsTree old name was e new
Shapes (commands.Min name other) old new = (was : GridEntry) × (e : GridEntry) × PutsTree old name was e new
Shapes (commands.Sum name other) old new = (was : GridEntry) × (e : GridEntry) × PutsTree old name was e new
Shapes (commands.Replace name other) old new = (was : GridEntry) × (e : GridEntry) × PutsTree old name was e new
Shapes (commands.Dilate name n) old new = (was : GridEntry) × (e : GridEntry) × PutsTree old name was e new
Shapes (commands.Erode name n) old new = (was : GridEntry) × (e : GridEntry) × PutsTree old name was e new
Shapes (commands.Meta name key text) old new = PutsMetas old name new
Shapes (commands.Unmeta name key) old new = PutsMetas old name new
Shapes (commands.Metas name) old new = KeepsGrids old new

-- the name of the existing grid that a command changes, if it changes one
abbrev pub changed_name : Command → Option (List ℕ)
changed_name (commands.Set name k p v) = Some name
changed_name (commands.Unset name k p v) = Some name
changed_name (commands.Only name k p v) = Some name
changed_name (commands.State name k p on) = Some name
changed_name (commands.Fill name c v on) = Some name
changed_name (commands.Clip name c) = Some name
changed_name (commands.Prune name) = Some name
changed_name (commands.Voxelise name c) = Some name
changed_name (commands.Union name other) = Some name
changed_name (commands.Difference name other) = Some name
changed_name (commands.Intersect name other) = Some name
changed_name (commands.Max name other) = Some name
changed_name (commands.Min name other) = Some name
changed_name (commands.Sum name other) = Some name
changed_name (commands.Replace name other) = Some name
changed_name (commands.Dilate name n) = Some name
changed_name (commands.Erode name n) = Some name
changed_name c = None

-- the coordinates of that grid's accessors after the command: a write of a voxel gives its own to the accessor that it names
abbrev pub coords_by : Command → List (Option Coord) → List (Option Coord)
coords_by (commands.Set name k p v) = coords_after (accessor_of k) (coord_of p)
coords_by (commands.Unset name k p v) = coords_after (accessor_of k) (coord_of p)
coords_by (commands.Only name k p v) = coords_after (accessor_of k) (coord_of p)
coords_by (commands.State name k p on) = coords_after (accessor_of k) (coord_of p)
coords_by c = λ coords. coords

-- the grid that a command changes after an allocation failure: `fill`, `clip` and `voxelise` leave it pruned
abbrev pub GivesBack : Command → AnyGrid → Type 0
GivesBack (commands.Fill name c v on) g = IsPruned g
GivesBack (commands.Clip name c) g = IsPruned g
GivesBack (commands.Voxelise name c) g = IsPruned g
GivesBack c g = ⊤

-- every grid is unchanged, except the one of this name, if any, which is such a grid, and whose accessors have these coordinates
abbrev pub KeepsOthers : (List (Option Coord) → List (Option Coord)) → (AnyGrid → Type 0) → Option (List ℕ) → Scene → Scene → Type 0
KeepsOthers coords Is (Some name) old new =
    (was : GridEntry) × (e : GridEntry) × (lookup (is_named name) old.grids.entries ≡ Some was) × PutsGrid old name e new × (grid_coords e.grid ≡ coords (grid_coords was.grid)) × Is e.grid
KeepsOthers coords Is None old new = KeepsGrids old new

-- The trees after a command, by its answer: an error leaves each grid unchanged. `RootLimit` and `Memory` may
-- come after some nodes were made, so they leave each other grid unchanged, and keep the cells of the changed grid
-- and, except for an accessor that the command names, the coordinates of its accessors. After `Memory` some commands leave it pruned.
abbrev pub LeavesTrees : Command → Answer → Scene → Scene → Type 0
LeavesTrees c (Refused refusals.RootLimit) old new = KeepsOthers (coords_by c) (λ g. ⊤) (changed_name c) old new
LeavesTrees c (Refused refusals.Memory) old new = KeepsOthers (coords_by c) (GivesBack c) (changed_name c) old new
LeavesTrees c (Refused r) old new = KeepsGrids old new
LeavesTrees c answer old new = Shapes c old new

-- a leaf of the grid holds the voxel and the coordinate that the accessor of the line was last given
abbrev pub IsInLeafAt : Scene → List ℕ → Option Num → Point → Type 0
IsInLeafAt s name k p = (was : GridEntry) × (lookup (is_named name) s.grids.entries ≡ Some was) × IsInLeafOf was.grid (accessor_of k) (coord_of p)

-- the same for a command on a voxel
abbrev pub IsNearby : Command → Scene → Type 0
IsNearby (commands.Get name k p) s = IsInLeafAt s name k p
IsNearby (commands.Set name k p v) s = IsInLeafAt s name k p
IsNearby (commands.Unset name k p v) s = IsInLeafAt s name k p
IsNearby (commands.Only name k p v) s = IsInLeafAt s name k p
IsNearby (commands.State name k p on) s = IsInLeafAt s name k p
IsNearby c s = ⊥

-- the answer of a command that is carried out or fails
abbrev pub answer_of : Result Answer Refusal → Answer
answer_of (Ok answer) = answer
answer_of (Err r) = Refused r

-- the same for a command that answers `Done`
abbrev pub result_of : Result (Unit {0}) Refusal → Answer
result_of (Ok _) = Done
result_of (Err r) = Refused r

-- ---- both

-- the answer shows the answer of a step of the scene, and the trees are as the definition above says
abbrev pub AppliesTo : Scene → Command → Answer → Scene → Type 0
AppliesTo old c answer new = ShowsStep (scene_of old) c answer (scene_of new) × LeavesTrees c answer old new
