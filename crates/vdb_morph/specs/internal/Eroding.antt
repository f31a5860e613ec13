-- The states of a field in the course of an iteration of erosion.
use Rattle.std.specs.Prelude.{◌≡◌, ◌⊎◌, true, Bool, IsTrue}
use Rattle.vdb_coord.specs.Faces.{toward}
use Rattle.vdb_coord.specs.Space.{everywhere, is_inside}
use Rattle.vdb_coord.specs.declared.Coord.{Coord}
use Rattle.vdb_coord.specs.declared.face.Face.{Face}
use Rattle.vdb_tree.specs.Field.{Field, erode}
use Rattle.vdb_morph.specs.internal.Iterating.{topology}

module _ {V : Type 0} (f : Field V) where
  -- q has the state from after the iteration
  abbrev pub IsEroded : Field Bool → Coord → Type 0
  IsEroded states q = states.cell q ≡ (topology (erode f)).cell q

  -- q has the state from before the iteration or the state from after it
  abbrev pub IsEither : Field Bool → Coord → Type 0
  IsEither states q = (states.cell q ≡ (topology f).cell q) ⊎ IsEroded states q

  -- each state is unchanged, or the one from after the iteration
  pub record Erodes (old new : Field Bool) : Type 0 where
    pub background : new.background ≡ old.background
    pub each : (q : Coord) → (new.cell q ≡ old.cell q) ⊎ IsEroded new q

  -- q's neighbour behind the face is active or does not exist, or q has the state from after the iteration
  abbrev pub IsSettled : Field Bool → Face → Coord → Type 0
  IsSettled states face q = (IsTrue (is_inside everywhere (toward face q)) → (f.cell (toward face q)).on ≡ true) ⊎ IsEroded states q
