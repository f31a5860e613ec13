-- The bits beside others in a leaf extent of 8 voxels along each axis, whose bits are numbered with x first and z last.
use Rattle.std.specs.Prelude.{ℕ, Bool, List, []}
use Rattle.std.specs.List.{list_any}
use Rattle.vdb_coord.specs.Faces.{faces}
use Rattle.vdb_coord.specs.declared.face.Face.{Face}
use Rattle.vdb_coord.specs.declared.face.Face.TheVariants.{MinusX, PlusX, MinusY, PlusY, MinusZ, PlusZ}
use Rattle.vdb_mask.specs.Mask.{is_on}
use Rattle.vdb_node.specs.Beside.{bit_after, bit_before}

-- the bit behind a face of bit i, where `other` is the block behind that face
abbrev pub bit_beside : Face → (own other : ℕ → Bool) → ℕ → Bool
bit_beside MinusX = bit_before 64
bit_beside PlusX = bit_after 64
bit_beside MinusY = bit_before 8
bit_beside PlusY = bit_after 8
bit_beside MinusZ = bit_before 1
bit_beside PlusZ = bit_after 1

-- whether a bit behind any face of bit i is on, if nothing is on in the blocks around
abbrev pub is_on_beside : List Bool → ℕ → Bool
is_on_beside own i = list_any (λ face. bit_beside face (is_on own) (is_on []) i) faces
