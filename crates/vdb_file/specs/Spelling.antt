-- The bytes of a scene file: each scene has exactly one encoding.
use Rattle.std.specs.Prelude.{◌≡◌, ◌⊎◌, ◌≤◌, ℕ, List, [], ◌∷◌, ◌++◌, length, codes}
use Rattle.std.specs.List.{AllByRecursion, flat_map}
use Rattle.std.specs.Int.{w16, w32, to_be_bytes}
use Rattle.vdb_coord.specs.Blocks.{vdb}
use Rattle.vdb_value.specs.declared.Kind.{Kind}
use Rattle.vdb_value.specs.declared.Kind.TheVariants as kinds
use Rattle.vdb_scene.specs.Metas.{Pairs}
use Rattle.vdb_scene.specs.Scalars.{kind_of, scalar_bytes, scalar_eq}
use Rattle.vdb_scene.specs.Scene.{Grid, Scene}
use Rattle.vdb_scene.specs.declared.scalar.Scalar.{Scalar}
use Rattle.vdb_file.specs.Bodies.{roots_bytes}

-- the count of the bytes, and then the bytes
abbrev pub counted : List ℕ → List ℕ
counted bytes = length bytes ∷ bytes

abbrev pub kind_code : Kind → ℕ
kind_code kinds.Bool = 0
kind_code kinds.I32 = 1
kind_code kinds.I64 = 2

-- the number of a value's type (its KIND), and then the value
abbrev pub kind_bytes : Scalar → List ℕ
kind_bytes v = kind_code (kind_of v) ∷ scalar_bytes v

-- the count of the metadata pairs, and then each key with its text
abbrev pub pairs_bytes : Pairs → List ℕ
pairs_bytes pairs = length pairs ∷ flat_map (λ pair. counted pair.0 ++ counted pair.1) pairs

-- the part of version 2 between the background and the root blocks: the limit and the pairs
abbrev pub head_bytes : Grid → List ℕ
head_bytes g = to_be_bytes w32 g.limit ++ pairs_bytes g.pairs

-- a name, and then its grid
abbrev pub grid_bytes : (Grid → List ℕ) → List ℕ × Grid → List ℕ
grid_bytes head e = counted e.0 ++ (kind_bytes e.1.field.background ++ (head e.1 ++ roots_bytes scalar_eq scalar_bytes vdb e.1.field))

-- a file of a version: the grids by rising names
abbrev pub file_bytes : ℕ → (Grid → List ℕ) → Scene → List ℕ
file_bytes version head s = codes "VDBS" ++ (to_be_bytes w16 version ++ (to_be_bytes w16 (length s) ++ flat_map (grid_bytes head) s))

-- the encoding of a scene
abbrev pub spelling : Scene → List ℕ
spelling s = file_bytes 2 head_bytes s

-- the most bytes that a file may have
abbrev pub file_limit : ℕ
file_limit = 268435456

-- the bytes are the scene's encoding, which isn't too long
abbrev pub Spells : List ℕ → Scene → Type 0
Spells bytes s = (bytes ≡ spelling s) × (length bytes ≤ file_limit)

-- ---- files of version 1: read, but no longer written

-- a grid that version 1 can hold: that version has no bytes for the limit and the pairs
pub record IsOldGrid (e : List ℕ × Grid) : Type 0 where
  pub limit : e.1.limit ≡ 4096
  pub pairs : e.1.pairs ≡ []

-- the bytes are the scene's encoding in version 1
pub record SpellsOld (bytes : List ℕ) (s : Scene) : Type 0 where
  pub grids : AllByRecursion IsOldGrid s
  pub same : bytes ≡ file_bytes 1 (λ g. []) s
  pub short : length bytes ≤ file_limit

-- the bytes encode the scene in one version or the other
abbrev pub IsFileOf : List ℕ → Scene → Type 0
IsFileOf bytes s = Spells bytes s ⊎ SpellsOld bytes s
