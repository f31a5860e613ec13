-- The scene that a session loads and saves.
use Rattle.std.specs.Prelude.{◌≡◌, ℕ, Bool, false, List, [], Option, Some, None, option_and_then, option_map}
use Rattle.std.specs.Option.{option_map_or}
use Rattle.vdb_scene.specs.Scene.{Scene}
use Rattle.vdb_scene.specs.Watched.{has_failed, source}
use Rattle.vdb_scene.specs.declared.watched.Watched.{Watched}
use Rattle.vdb_file.specs.Faults.{Claims}
use Rattle.vdb_scene.specs.ValidScenes.{IsScene}
use Rattle.vdb_file.specs.Spelling.{IsFileOf}
use Rattle.vdb_file.specs.declared.fault.LoadFault.{LoadFault}

module _ {D : Type 0} where
  -- whether a call of a reader or writer failed, if it exists
  abbrev pub any_failed : Option (Watched D) → Bool
  any_failed given = option_map_or has_failed given false

  -- the given scene file, if any, and if its bytes are known
  abbrev pub given_file : (D → Option (List ℕ)) → Option (Watched D) → Option (Option (List ℕ))
  given_file remaining None = Some None
  given_file remaining (Some w) = option_map Some (remaining (source w))

  -- the bytes of a writer, if it exists and they are known
  abbrev pub held : (D → Option (List ℕ)) → Option (Watched D) → Option (List ℕ)
  held contents given = option_and_then (λ w. contents (source w)) given

-- the scene that a session begins with: the empty one, or the only one that the file encodes
abbrev pub Begins : Option (List ℕ) → Scene → Type 0
Begins None s = s ≡ []
Begins (Some bytes) s = IsScene s × IsFileOf bytes s × ((t : Scene) → IsScene t → IsFileOf bytes t → t ≡ s)

-- loading a file fails: no scene has this encoding, unless an allocation or the reader failed
abbrev pub Refuses : LoadFault → Option (List ℕ) → Type 0
Refuses fault None = ⊥
Refuses fault (Some bytes) = Claims fault → (s : Scene) → IsScene s → IsFileOf bytes s → ⊥
