-- What the calls on a scene do, by the code that they return.
use Rattle.std.specs.Prelude.{◌≡◌, ◌⊎◌, ◌<◌, ◌≤◌, ◌++◌, ◌&&◌, IsTrue, ℕ, ℤ, pos, Bool, true, false, ⊤, List, [], Option, Some, None, Result, Ok, Err, IfErr, drop, if◌then◌else◌, length, map}
use Rattle.std.specs.List.{slice_get}
use Rattle.std.specs.Map.{lookup}
use Rattle.std.specs.Option.{option_map}
use Rattle.vdb_file.specs.Faults.{HasOtherMagic, HasOtherVersion}
use Rattle.vdb_file.specs.Scenes.{BeginsWithFile, EndsEarly}
use Rattle.vdb_file.specs.Spelling.{IsFileOf, file_limit, spelling}
use Rattle.vdb_file.specs.declared.fault.LoadFault.{LoadFault}
use Rattle.vdb_file.specs.declared.fault.LoadFault.TheVariants as faults
use Rattle.vdb_scene.specs.Doing.{AddsGrid, Does, KeepsGrids, LeavesTrees, PutsGrid, RemovesGrid, result_of}
use Rattle.vdb_scene.specs.Grids.{grid_alone, scene_of}
use Rattle.vdb_scene.specs.Metas.{is_text}
use Rattle.vdb_scene.specs.Names.{is_name}
use Rattle.vdb_scene.specs.Scene as abstract_scene
use Rattle.vdb_scene.specs.Step.{Inserts}
use Rattle.vdb_scene.specs.ValidScenes.{IsScene}
use Rattle.vdb_scene.specs.declared.answer.Refusal.{Refusal}
use Rattle.vdb_scene.specs.declared.any_grid.AnyGrid.{AnyGrid}
use Rattle.vdb_scene.specs.declared.command.Command.{Command}
use Rattle.vdb_scene.specs.declared.command.Command.TheVariants as commands
use Rattle.vdb_scene.specs.declared.scene.Scene.{Scene}
use Rattle.vdb_c.specs.Calls.{IsCopyIn}
use Rattle.vdb_c.specs.Codes.{done, empty, memory, no_grid, no_meta, no_name, no_text, scene_code, too_long, too_small}

-- the code of a fault of a file; `Read` has none, since bytes in memory can always be read
abbrev pub fault_code : LoadFault → ℤ
fault_code faults.Magic = pos 20
fault_code faults.Version = pos 21
fault_code faults.Truncated = pos 22
fault_code faults.Name = pos 23
fault_code faults.Kind = pos 24
fault_code faults.Value = pos 25
fault_code faults.Limit = pos 26
fault_code faults.Meta = pos 27
fault_code faults.Key = pos 28
fault_code faults.RootLimit = pos 29
fault_code faults.Tag = pos 30
fault_code faults.Index = pos 31
fault_code faults.Background = pos 32
fault_code faults.ConstantNode = pos 33
fault_code faults.Trailing = pos 34
fault_code faults.TooLong = too_long
fault_code faults.Memory = memory
fault_code faults.Read = memory

-- an empty scene
abbrev pub IsEmptyScene : Option Scene → Type 0
IsEmptyScene None = ⊥
IsEmptyScene (Some s) = scene_of s ≡ []

-- an empty scene was created, or memory ran out
abbrev pub IsCreated : Option Scene → Option Scene → ℤ → Type 0
IsCreated old new code = ((code ≡ done) × IsEmptyScene new) ⊎ ((code ≡ memory) × (new ≡ old))

-- the scene of a file
abbrev pub IsSceneOf : List ℕ → Option Scene → Type 0
IsSceneOf bytes None = ⊥
IsSceneOf bytes (Some s) = IsScene (scene_of s) × IsFileOf bytes (scene_of s)

-- the bytes are no file of any scene
abbrev pub IsNoFile : List ℕ → Type 0
IsNoFile bytes = (s : abstract_scene.Scene) → IsScene s → IsFileOf bytes s → ⊥

-- what a fault says of the bytes: they are no file, and some faults say where that begins; bytes in memory can always be read
abbrev pub Means : LoadFault → List ℕ → Type 0
Means faults.Memory bytes = ⊤
Means faults.Read bytes = ⊥
Means faults.Magic bytes = IsNoFile bytes × HasOtherMagic bytes
Means faults.Version bytes = IsNoFile bytes × HasOtherVersion bytes
Means faults.Truncated bytes = IsNoFile bytes × EndsEarly bytes
Means faults.Trailing bytes = IsNoFile bytes × BeginsWithFile bytes
Means fault bytes = IsNoFile bytes

-- a scene was loaded; or memory ran out; or the bytes have a fault
abbrev pub IsLoaded : List ℕ → Option Scene → Option Scene → ℤ → Type 0
IsLoaded bytes old new code =
    ((code ≡ done) × IsSceneOf bytes new) ⊎ ((code ≡ memory) × (new ≡ old)) ⊎ ((fault : LoadFault) × (code ≡ fault_code fault) × (new ≡ old) × Means fault bytes)

-- a scene stays, and this is what the call writes
abbrev pub Tells : Scene → Scene → Type 0 → Type 0
Tells old new answer = (new ≡ old) × answer

-- bytes go to the head of a buffer, if it is long enough
unfoldable pub IsCopiedOut : List ℕ → List ℕ → List ℕ → ℕ → ℕ → ℤ → Type 0
IsCopiedOut bytes old new used used' code =
    ((code ≡ done) × (new ≡ bytes ++ drop (length bytes) old) × (used' ≡ length bytes)) ⊎ ((code ≡ too_small) × (length old < length bytes) × (new ≡ old) × (used' ≡ used))

-- The encoding of a scene goes to the head of a buffer, if a file may be that long and the buffer is long enough. Only then may memory
-- run out.
unfoldable pub IsSaved : abstract_scene.Scene → List ℕ → List ℕ → ℕ → ℕ → ℤ → Type 0
IsSaved s old new used used' code =
    ((length (spelling s) ≤ file_limit) × IsCopiedOut (spelling s) old new used used' code)
    ⊎ ((length (spelling s) ≤ file_limit) × (length (spelling s) ≤ length old) × (code ≡ memory) × (new ≡ old) × (used' ≡ used))
    ⊎ ((file_limit < length (spelling s)) × (code ≡ too_long) × (new ≡ old) × (used' ≡ used))

-- a call on a grid or a name that the scene may lack
abbrev pub OnFound : {A : Type 0} → Option A → ℤ → Type 0 → (A → Type 0) → Type 0
OnFound None code kept call = (code ≡ no_grid) × kept
OnFound (Some a) code kept call = call a

-- a call on a metadata pair that the grid may lack
abbrev pub OnPair : {A : Type 0} → Option A → ℤ → Type 0 → (A → Type 0) → Type 0
OnPair None code kept call = (code ≡ no_meta) × kept
OnPair (Some a) code kept call = call a

-- a call on what the scene has under a name, which is tested
abbrev pub OnName : {A : Type 0} → List ℕ → Option A → ℤ → Type 0 → (A → Type 0) → Type 0
OnName name found code kept call = ((is_name name ≡ true) × OnFound found code kept call) ⊎ ((is_name name ≡ false) × (code ≡ no_name) × kept)

-- the grid of a name was copied into a handle, or memory ran out, or there is none
unfoldable pub IsCopiedFrom : Scene → List ℕ → Option AnyGrid → Option AnyGrid → ℤ → Type 0
IsCopiedFrom s name old new code =
    OnName name (option_map (λ e. e.grid) (lookup (abstract_scene.is_named name) s.grids.entries)) code (new ≡ old) (λ g. ((code ≡ done) × IsCopyIn g new) ⊎ ((code ≡ memory) × (new ≡ old)))

-- the name of the grid at an index goes to the head of a buffer
unfoldable pub NamesGrid : abstract_scene.Scene → ℕ → List ℕ → List ℕ → ℕ → ℕ → ℤ → Type 0
NamesGrid s index old new used used' code =
    OnFound (slice_get (map (λ e. e.0) s) index) code ((new ≡ old) × (used' ≡ used)) (λ name. IsCopiedOut name old new used used' code)

-- the number of metadata pairs of a grid
unfoldable pub CountsPairs : abstract_scene.Scene → List ℕ → ℕ → ℕ → ℤ → Type 0
CountsPairs s name old new code = OnName name (abstract_scene.grid_at s name) code (new ≡ old) (λ g. (code ≡ done) × (new ≡ length g.pairs))

-- a part of the metadata pair at an index goes to the head of a buffer
unfoldable pub TellsPair : abstract_scene.Scene → List ℕ → ℕ → (List ℕ × List ℕ → List ℕ) → List ℕ → List ℕ → ℕ → ℕ → ℤ → Type 0
TellsPair s name index part old new used used' code =
    OnName name (abstract_scene.grid_at s name) code ((new ≡ old) × (used' ≡ used))
    (λ g. OnPair (slice_get g.pairs index) code ((new ≡ old) × (used' ≡ used)) (λ pair. IsCopiedOut (part pair) old new used used' code))

-- a change of a scene by a command, with the outcome and the trees that the library states
abbrev pub DoesBy : Command → Scene → Scene → ℤ → Type 0
DoesBy command old new code =
    (r : Result (Unit {0}) Refusal) × (code ≡ scene_code r) × Does (scene_of old) command r (scene_of new) × LeavesTrees command (result_of r) old new

-- a metadata text was set, if name, key and text have the form of one
abbrev pub IsMetaSet : List ℕ → List ℕ → List ℕ → Scene → Scene → ℤ → Type 0
IsMetaSet name key text old new code =
    (IsTrue (is_name name) × IsTrue (is_name key) × ((IsTrue (is_text text) × DoesBy (commands.Meta name key text) old new code) ⊎ ((is_text text ≡ false) × (code ≡ no_text) × (new ≡ old))))
    ⊎ (((is_name name && is_name key) ≡ false) × (code ≡ no_name) × (new ≡ old))

-- a metadata pair was removed, if name and key have the form of a name
abbrev pub IsMetaRemoved : List ℕ → List ℕ → Scene → Scene → ℤ → Type 0
IsMetaRemoved name key old new code =
    (IsTrue (is_name name) × IsTrue (is_name key) × DoesBy (commands.Unmeta name key) old new code) ⊎ (((is_name name && is_name key) ≡ false) × (code ≡ no_name) × (new ≡ old))

-- the handle gave its grid to the scene, or has it again
abbrev pub IsGiven : Result (Unit {0}) Refusal → AnyGrid → Option AnyGrid → Type 0
IsGiven (Ok _) g new = new ≡ None
IsGiven (Err _) g new = new ≡ Some g

-- each grid of the scene stays, its tree and its accessors too, beside the one that was moved in
abbrev pub KeepsTrees : Result (Unit {0}) Refusal → Scene → List ℕ → AnyGrid → Scene → Type 0
KeepsTrees (Ok _) s name g t = AddsGrid s name (record { grid = g; metas = [] }) t
KeepsTrees (Err _) s name g t = KeepsGrids s t

-- a grid was moved from a handle into a scene, with the outcome that the library states; both handles are tested first, then the name
abbrev pub IsMovedIn : List ℕ → Option Scene → Option Scene → Option AnyGrid → Option AnyGrid → ℤ → Type 0
IsMovedIn name None new old given code = (code ≡ empty) × (new ≡ None) × (given ≡ old)
IsMovedIn name (Some s) new None given code = (code ≡ empty) × (new ≡ Some s) × (given ≡ None)
IsMovedIn name (Some s) None (Some g) given code = ⊥
IsMovedIn name (Some s) (Some t) (Some g) given code =
    (IsTrue (is_name name) × ((r : Result (Unit {0}) Refusal) × (code ≡ scene_code r) × Inserts (scene_of s) name (grid_alone g) r (scene_of t) × KeepsTrees r s name g t × IsGiven r g given))
    ⊎ ((is_name name ≡ false) × (code ≡ no_name) × (t ≡ s) × (given ≡ Some g))

-- a grid was moved from a scene into a handle, or memory ran out, or there is none
unfoldable pub MovesOut : List ℕ → Scene → Scene → Option AnyGrid → Option AnyGrid → ℤ → Type 0
MovesOut name s t old taken code =
    OnName name (option_map (λ e. e.grid) (lookup (abstract_scene.is_named name) s.grids.entries)) code ((t ≡ s) × (taken ≡ old))
    (λ g. ((code ≡ done) × (taken ≡ Some g) × RemovesGrid s name t) ⊎ ((code ≡ memory) × (t ≡ s) × (taken ≡ old)))

-- The grid of a name and that of a handle changed places, or the handle has none, or the scene has none of the name. Nothing else changes,
-- the metadata included.
unfoldable pub IsSwapped : List ℕ → Scene → Scene → Option AnyGrid → Option AnyGrid → ℤ → Type 0
IsSwapped name s t None new code = (code ≡ empty) × (t ≡ s) × (new ≡ None)
IsSwapped name s t (Some g) new code =
    OnName name (lookup (abstract_scene.is_named name) s.grids.entries) code ((t ≡ s) × (new ≡ Some g))
    (λ e. (code ≡ done) × PutsGrid s name (record e { grid = g }) t × (new ≡ Some e.grid))
