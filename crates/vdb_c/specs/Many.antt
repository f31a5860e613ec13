-- What the calls on many voxels do.
use Rattle.std.specs.Prelude.{◌≡◌, ◌⊎◌, ◌<◌, ◌||◌, ◌&&◌, ℕ, zero, suc, ℤ, Bool, IsSome, List, Option, Some, None, Err, if◌then◌else◌, length, map, nat_eq, slice_get, take, pos, get_or}
use Rattle.std.specs.Option.{option_map}
use Rattle.vdb_coord.specs.declared.Coord.{Coord}
use Rattle.vdb_tree.specs.Field.{Field, write}
use Rattle.vdb_tree.specs.declared.Write.{Write}
use Rattle.vdb_tree.specs.declared.Write.TheVariants as writes
use Rattle.vdb_tree.specs.declared.refusal.TreeRefusal.{TreeRefusal}
use Rattle.vdb_scene.specs.Grids.{grid_field, grid_root_limit}
use Rattle.vdb_scene.specs.declared.any_grid.AnyGrid.{AnyGrid}
use Rattle.vdb_scene.specs.declared.scalar.Scalar.{Scalar}
use Rattle.vdb_value.specs.declared.Kind.{Kind}
use Rattle.vdb_c.specs.Calls.{IsWrittenIn, write_of}
use Rattle.vdb_c.specs.Codes.{done, out_of_range, tree_code}
use Rattle.vdb_c.specs.Values.{accessor_of, bool_byte, byte_is_on, corner_coord, state_byte, value_number, value_of}
use Rattle.vdb_c.specs.declared.values.Corner.{Corner}

-- whether an array has an element for each of these voxels, or none
abbrev pub is_beside : ℕ → ℕ → Bool
is_beside count len = nat_eq len count || nat_eq len 0

-- the accessor of a number, if it is in range and both arrays fit the voxels
abbrev pub accessor_beside : ℤ → ℕ → ℕ → ℕ → Option (Option ℕ)
accessor_beside number count values states = if is_beside count values && is_beside count states then accessor_of number else None

-- the value and the state of a field at a voxel, as they cross to C
abbrev pub number_at : Field Scalar → Coord → ℤ
number_at f p = value_number (f.cell p).value

abbrev pub bool_at : Field Scalar → Coord → ℕ
bool_at f p = bool_byte (f.cell p).value

abbrev pub byte_at : Field Scalar → Coord → ℕ
byte_at f p = state_byte (f.cell p).on

-- an array has what these voxels have, unless it is empty
abbrev pub IsReadAt : {X : Type 0} → (Coord → X) → List Corner → List X → List X → Type 0
IsReadAt of at old new = new ≡ map (λ c. of (corner_coord c)) (take (length old) at)

-- ---- writes of a value, a state or both

-- the write of what is given, if anything is and the type has the value
abbrev pub change_of : Kind → Option ℤ → Option ℕ → Option (Write Scalar)
change_of kind (Some n) (Some s) = option_map (write_of (byte_is_on s)) (value_of kind n)
change_of kind (Some n) None = option_map writes.Value (value_of kind n)
change_of kind None (Some s) = Some (writes.State (byte_is_on s))
change_of kind None None = None

-- the write of one element of each array, which may be empty
abbrev pub change_at : Kind → List ℤ → List ℕ → ℕ → Option (Write Scalar)
change_at kind values states k = change_of kind (slice_get values k) (slice_get states k)

-- the voxel of an element
abbrev pub voxel_at : List Corner → ℕ → Coord
voxel_at at k = corner_coord (get_or at k (record { x = pos 0; y = pos 0; z = pos 0 }))

-- a write, if one is given
abbrev pub write_any : Coord → Option (Write Scalar) → Field Scalar → Field Scalar
write_any p None f = f
write_any p (Some w) f = write p w f

-- the field after the first n writes, one after another
abbrev pub after_writes : (ℕ → Coord) → (ℕ → Option (Write Scalar)) → ℕ → Field Scalar → Field Scalar
after_writes voxel change zero f = f
after_writes voxel change (suc n) f = write_any (voxel n) (change n) (after_writes voxel change n f)

-- a write to a field with a root limit fails, and this is its code
abbrev pub IsRefusedIn : ℕ → Coord → Option (Write Scalar) → Field Scalar → ℤ → Type 0
IsRefusedIn limit p None f code = ⊥
IsRefusedIn limit p (Some w) f code = (refusal : TreeRefusal) × (code ≡ tree_code (Err refusal)) × IsWrittenIn limit p w f f (Err refusal)

-- the first n of these writes to a field with a root limit happened: all of them, or those before one that fails
unfoldable pub WritesFirstIn : ℕ → (ℕ → Coord) → (ℕ → Option (Write Scalar)) → ℕ → ℕ → Field Scalar → Field Scalar → ℕ → ℤ → Type 0
WritesFirstIn count voxel change limit limit' old new n code =
    (limit' ≡ limit) × (new ≡ after_writes voxel change n old)
    × (((code ≡ done) × (n ≡ count)) ⊎ ((n < count) × IsRefusedIn limit' (voxel n) (change n) new code))

-- the same for a grid
abbrev pub WritesFirst : ℕ → (ℕ → Coord) → (ℕ → Option (Write Scalar)) → AnyGrid → AnyGrid → ℕ → ℤ → Type 0
WritesFirst count voxel change old new n code = WritesFirstIn count voxel change (grid_root_limit old) (grid_root_limit new) (grid_field old) (grid_field new) n code

-- the writes of the arrays, if each element has one; otherwise nothing changes
unfoldable pub WritesMany : ℕ → (ℕ → Coord) → (ℕ → Option (Write Scalar)) → AnyGrid → AnyGrid → ℕ → ℕ → ℤ → Type 0
WritesMany count voxel change old new had n code =
    (((k : ℕ) → k < count → IsSome (change k)) × WritesFirst count voxel change old new n code)
    ⊎ (((k : ℕ) × (k < count) × (change k ≡ None)) × (code ≡ out_of_range) × (new ≡ old) × (n ≡ had))
