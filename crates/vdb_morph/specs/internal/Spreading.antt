-- The voxels around a leaf extent that it activates.
use Rattle.std.specs.Prelude.{Bool, not, ◌&&◌, List}
use Rattle.vdb_coord.specs.Faces.{toward}
use Rattle.vdb_coord.specs.declared.Bits.{Bits}
use Rattle.vdb_coord.specs.declared.Coord.{Coord}
use Rattle.vdb_coord.specs.declared.face.Face.{Face}
use Rattle.vdb_morph.specs.internal.Iterating.{is_around, is_marked}

-- whether q lies outside p's leaf extent, and its neighbour behind the face lies in it, at an entry that is on in the mask
abbrev pub is_over : Bits → Coord → List Bool → Face → Coord → Bool
is_over bits p mask face q = not (is_around bits p q) && is_marked bits p mask (toward face q)
