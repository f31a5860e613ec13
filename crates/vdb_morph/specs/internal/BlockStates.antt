-- States of leaf extents in masks, and the states after an iteration of erosion.
use Rattle.std.specs.Prelude.{◌≡◌, Bool, true, false, if◌then◌else◌, List, IsTrue}
use Rattle.vdb_coord.specs.Blocks.{offset}
use Rattle.vdb_coord.specs.Faces.{toward}
use Rattle.vdb_coord.specs.Space.{everywhere, is_inside}
use Rattle.vdb_coord.specs.declared.Bits.{Bits}
use Rattle.vdb_coord.specs.declared.Coord.{Coord}
use Rattle.vdb_coord.specs.declared.Level.TheVariants.{Leaf}
use Rattle.vdb_coord.specs.declared.face.Face.{Face}
use Rattle.vdb_mask.specs.Mask.{is_on}
use Rattle.vdb_tree.specs.Field.{Field, field}
use Rattle.vdb_morph.specs.internal.Iterating.{is_around}

-- each leaf extent has the states of the mask, and each value is false
abbrev pub of_mask : Bits → List Bool → Field Bool
of_mask bits mask = field false (λ q. record { value = false; on = is_on mask (offset bits Leaf q) })

module _ {V : Type 0} where
  -- the state behind a face of q; past the range of coordinates it counts as active
  abbrev pub state_behind : Field V → Face → Coord → Bool
  state_behind f face q = if is_inside everywhere (toward face q) then (f.cell (toward face q)).on else true

  module _ (bits : Bits) (f : Field V) where
    -- the mask has the states of p's leaf extent
    abbrev pub HasStates : Coord → List Bool → Type 0
    HasStates p mask = (q : Coord) → IsTrue (is_inside everywhere q) → IsTrue (is_around bits p q) → is_on mask (offset bits Leaf q) ≡ (f.cell q).on

    -- the mask has the states of the leaf extent behind a face of p's, as far as they lie behind a voxel of p's block
    abbrev pub HasStatesBehind : Face → Coord → List Bool → Type 0
    HasStatesBehind face p mask =
        (q : Coord) → IsTrue (is_inside everywhere q) → IsTrue (is_around bits p q) → is_around bits q (toward face q) ≡ false
        → is_on mask (offset bits Leaf (toward face q)) ≡ state_behind f face q
