-- Bytes that begin with a file, and bytes that end before a file does.
use Rattle.std.specs.Prelude.{◌≡◌, ℕ, List, ◌∷◌, ◌++◌}
use Rattle.vdb_scene.specs.Scene.{Scene}
use Rattle.vdb_scene.specs.ValidScenes.{IsScene}
use Rattle.vdb_file.specs.Faults.{BeginsAsFile}
use Rattle.vdb_file.specs.Spelling.{IsFileOf}

-- a file of some scene, followed by one byte or more
pub record BeginsWithFile (bytes : List ℕ) : Type 0 where
  pub scene : Scene
  pub file : List ℕ
  pub byte : ℕ
  pub rest : List ℕ
  pub is_scene : IsScene scene
  pub is_file : IsFileOf file scene
  pub begins : bytes ≡ file ++ (byte ∷ rest)

-- bytes that begin as a file does, but with no whole file
abbrev pub EndsEarly : List ℕ → Type 0
EndsEarly bytes = BeginsAsFile bytes × (BeginsWithFile bytes → ⊥)
