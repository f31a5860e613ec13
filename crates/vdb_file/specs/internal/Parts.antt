-- The parts of a file that are read one after another, each with its condition and its bytes.
use Rattle.std.specs.Prelude.{◌≡◌, ◌≤◌, ℕ, true, List, [], ◌++◌, Option, length, map, ⊤, Bool}
use Rattle.std.specs.List.{AllByRecursion, flat_map}
use Rattle.std.specs.List.Sorted.{IsStrictlySortedBy}
use Rattle.std.specs.Map.{keys_of}
use Rattle.std.specs.Int.{w16, w32, to_be_bytes}
use Rattle.std.specs.Ordering.{nat_cmp}
use Rattle.std.specs.Cmp.Lexicographic.{slice_cmp}
use Rattle.vdb_coord.specs.Blocks.{vdb}
use Rattle.vdb_tree.specs.ConstantBlocks.{roots}
use Rattle.vdb_tree.specs.Field.{Field}
use Rattle.vdb_tree.specs.Layout.{Layout, field_of}
use Rattle.vdb_scene.specs.Grids.{grid_with}
use Rattle.vdb_scene.specs.Metas.{Pairs}
use Rattle.vdb_scene.specs.Names.{is_name}
use Rattle.vdb_scene.specs.Scalars.{scalar_bytes, scalar_eq}
use Rattle.vdb_scene.specs.Scene.{Grid, Scene}
use Rattle.vdb_file.specs.Bodies.{roots_bytes}
use Rattle.vdb_scene.specs.ValidScenes.{ArePairs, IsField}
use Rattle.vdb_file.specs.Spelling.{counted, file_bytes, grid_bytes, kind_bytes, pairs_bytes}
use Rattle.vdb_file.specs.internal.Following.{Follows}
use Rattle.vdb_file.specs.internal.LoadedFields.{IsWithin}
use Rattle.vdb_file.specs.declared.loading.grids.Named.{Named}
use Rattle.vdb_file.specs.declared.loading.grid_head.Head.{Head as CodeHead}
use Rattle.vdb_file.specs.declared.loading.versions.Version.{Version}
use Rattle.vdb_file.specs.declared.loading.versions.Version.TheVariants.{One, Two}

-- ---- names

-- a name that may follow the one before
pub record IsNext (before : Option (List ℕ)) (name : List ℕ) : Type 0 where
  pub form : is_name name ≡ true
  pub rises : Follows (slice_cmp nat_cmp) before name

-- ---- things with names, one after another

-- an item that has P, with a name that may follow the one before
pub record IsItem {E : Type 0} (P : E → Type 0) (key : E → List ℕ) (before : Option (List ℕ)) (e : E) : Type 0 where
  pub has : P e
  pub rises : Follows (slice_cmp nat_cmp) before (key e)

-- this many items that have P, by rising names
pub record AreItems {E : Type 0} (P : E → Type 0) (key : E → List ℕ) (n : ℕ) (es : List E) : Type 0 where
  pub count : length es ≡ n
  pub each : AllByRecursion P es
  pub in_order : IsStrictlySortedBy (slice_cmp nat_cmp) (map key es)

-- the name of a pair or a grid
abbrev pub name_of : {X : Type 0} → List ℕ × X → List ℕ
name_of e = e.0

-- the bytes of a pair
abbrev pub pair_bytes : List ℕ × List ℕ → List ℕ
pair_bytes pair = counted pair.0 ++ counted pair.1

-- ---- the part between the background and the root blocks

-- the root limit and the metadata pairs
pub record Head : Type 0 where
  pub limit : ℕ
  pub pairs : Pairs

-- a limit that a grid may have
abbrev pub IsLimit : ℕ → Type 0
IsLimit n = (1 ≤ n) × (n ≤ 65536)

-- the limit and the pairs, as they are read
abbrev pub head_view : CodeHead → Head
head_view h = record { limit = h.limit; pairs = h.metas }

-- the number of a version
abbrev pub version_number : Version → ℕ
version_number One = 1
version_number Two = 2

-- the bytes of the limit and the pairs in a version
abbrev pub head_code : Version → Head → List ℕ
head_code One h = []
head_code Two h = to_be_bytes w32 h.limit ++ pairs_bytes h.pairs

-- the limit and the pairs of a grid
abbrev pub head_of : Grid → Head
head_of g = record { limit = g.limit; pairs = g.pairs }

-- version 1 has one limit and no pairs
abbrev pub IsOldHead : Version → Head → Type 0
IsOldHead One h = (h.limit ≡ 4096) × (h.pairs ≡ [])
IsOldHead Two h = ⊤

-- the limit and the pairs that a version may have
pub record IsHead (version : Version) (h : Head) : Type 0 where
  pub positive : 1 ≤ h.limit
  pub limited : h.limit ≤ 65536
  pub pairs : ArePairs h.pairs
  pub old : IsOldHead version h

-- ---- fields

-- a field with the head before its root blocks
pub record LoadedGrid (V : Type 0) : Type 0 where
  pub field : Field V
  pub head : Head

-- the field of a tree, with its limit and these pairs
abbrev pub loaded : {V : Type 0} → Layout V → Pairs → LoadedGrid V
loaded t pairs = record { field = field_of vdb t; head = record { limit = t.limit; pairs = pairs } }

module _ {V : Type 0} (IsValue : V → Type 0) (eq : V → V → Bool) (value_bytes : V → List ℕ) (version : Version) where
  -- a grid of one type of values, as a version may have it
  pub record IsLoadedGrid (g : LoadedGrid V) : Type 0 where
    pub value : IsValue g.field.background
    pub head : IsHead version g.head
    pub field : IsWithin eq IsValue g.field.background vdb g.head.limit g.field

  -- the bytes of such a grid after the number of its type
  abbrev pub loaded_bytes : LoadedGrid V → List ℕ
  loaded_bytes g = value_bytes g.field.background ++ (head_code version g.head ++ roots_bytes eq value_bytes vdb g.field)

-- ---- grids

-- a grid that a version may have, whatever its name
pub record IsBody (version : Version) (g : Grid) : Type 0 where
  pub field : IsField g.field
  pub roots : roots scalar_eq vdb g.field ≤ g.limit
  pub head : IsHead version (head_of g)

-- the bytes of a grid after its name
abbrev pub body_bytes : Version → Grid → List ℕ
body_bytes version g = kind_bytes g.field.background ++ (head_code version (head_of g) ++ roots_bytes scalar_eq scalar_bytes vdb g.field)

-- a grid with its name
pub record IsNamed (version : Version) (e : List ℕ × Grid) : Type 0 where
  pub name : is_name e.0 ≡ true
  pub body : IsBody version e.1

-- a grid with its name, as it is read
abbrev pub named_view : Named → List ℕ × Grid
named_view n = (n.name, grid_with n.grid n.metas)

-- the bytes of a name and its grid
abbrev pub named_bytes : Version → List ℕ × Grid → List ℕ
named_bytes version e = grid_bytes (λ g. head_code version (head_of g)) e

-- ---- scenes

-- a scene of a version: at most 64 grids, by rising names
pub record IsSceneOf (version : Version) (s : Scene) : Type 0 where
  pub few : length s ≤ 64
  pub in_order : IsStrictlySortedBy (slice_cmp nat_cmp) (keys_of s)
  pub grids : AllByRecursion (IsNamed version) s

-- the count of the grids, and then each grid
abbrev pub scene_bytes : Version → Scene → List ℕ
scene_bytes version s = to_be_bytes w16 (length s) ++ flat_map (named_bytes version) s

-- a scene with the version of its file
abbrev pub IsFile : Version × Scene → Type 0
IsFile file = IsSceneOf file.0 file.1

-- the bytes of that file
abbrev pub bytes_of_file : Version × Scene → List ℕ
bytes_of_file file = file_bytes (version_number file.0) (λ g. head_code file.0 (head_of g)) file.1
