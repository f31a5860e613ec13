-- The encodings of worked examples, found by computing.
use Rattle.vdb_file.proofs.Common.{◌≡◌, pos, negsuc, true, [], ◌∷◌, ◌++◌, refl, codes, if◌then◌else◌, block, coord, coord_eq, Bits, Upper, Field, new, off, scalar_bytes, scalar_eq, Grid, Scalar, I32, cell_bytes, key_bytes, root_body, counted, file_bytes, head_bytes, kind_bytes, spelling}
use Rattle.vdb_coord.specs.Blocks.{entry_numbers}
use Rattle.vdb_coord.specs.Space.{coordinates}

-- ---- files without grids

no_grids : spelling [] ≡ 0x56 ∷ 0x44 ∷ 0x42 ∷ 0x53 ∷ 0x00 ∷ 0x02 ∷ 0x00 ∷ 0x00 ∷ []
no_grids = refl

no_grids_before : file_bytes 1 (λ g. []) [] ≡ 0x56 ∷ 0x44 ∷ 0x42 ∷ 0x53 ∷ 0x00 ∷ 0x01 ∷ 0x00 ∷ 0x00 ∷ []
no_grids_before = refl

-- ---- the part before the root blocks

name_and_background : counted (codes "a") ++ kind_bytes (I32 (pos 0)) ≡ 0x01 ∷ 0x61 ∷ 0x01 ∷ 0x00 ∷ 0x00 ∷ 0x00 ∷ 0x00 ∷ []
name_and_background = refl

abbrev measured : Grid
measured = record { field = new (I32 (pos 0)); limit = 4096; pairs = (codes "unit", codes "mm") ∷ [] }

limit_and_pairs : head_bytes measured ≡ 0x00 ∷ 0x00 ∷ 0x10 ∷ 0x00 ∷ 0x01 ∷ 0x04 ∷ 0x75 ∷ 0x6e ∷ 0x69 ∷ 0x74 ∷ 0x02 ∷ 0x6d ∷ 0x6d ∷ []
limit_and_pairs = refl

-- ---- root blocks

key : key_bytes (coord (pos 0) (negsuc 0) (pos 1)) ≡ 0x00 ∷ 0x00 ∷ 0x00 ∷ 0x00 ∷ 0xff ∷ 0xff ∷ 0xff ∷ 0xff ∷ 0x00 ∷ 0x00 ∷ 0x00 ∷ 0x01 ∷ []
key = refl

cell : cell_bytes scalar_eq scalar_bytes (record { value = I32 (pos 5); on = true }) ≡ 0x02 ∷ 0x00 ∷ 0x00 ∷ 0x00 ∷ 0x05 ∷ []
cell = refl

-- a tree whose root blocks span 8 coordinates along each axis
abbrev small : Bits
small = record { upper = 1; lower = 1; leaf = 1 }

-- a field with one active voxel
abbrev one : Field Scalar
one = record { background = I32 (pos 0); cell = λ p. if coord_eq (coord (pos 1) (pos 2) (pos 3)) p then record { value = I32 (pos 5); on = true } else off (I32 (pos 0)) }

one_voxel : root_body scalar_eq scalar_bytes small one (block small Upper (coord (pos 0) (pos 0) (pos 0)))
    ≡ 0x03 ∷ 0x00 ∷ 0x01 ∷ 0x00 ∷ 0x00 ∷ 0x03 ∷ 0x00 ∷ 0x01 ∷ 0x00 ∷ 0x03 ∷ 0x03 ∷ 0x00 ∷ 0x01 ∷ 0x00 ∷ 0x05 ∷ 0x02 ∷ 0x00 ∷ 0x00 ∷ 0x00 ∷ 0x05 ∷ []
unfolding coordinates entry_numbers
one_voxel = refl
