-- What the calls do, by the code that they return: one definition for each shape of call.
use Rattle.std.specs.Prelude.{◌≡◌, ◌⊎◌, ℕ, ℤ, ⊤, Bool, false, if◌then◌else◌, nat_le, ◌&&◌, Option, Some, None, Result, Err, IfErr, IsOk, IsTrue, OnOk}
use Rattle.std.specs.Option.{option_and_then}
use Rattle.vdb_coord.specs.Blocks.{vdb}
use Rattle.vdb_coord.specs.Space.{Box}
use Rattle.vdb_coord.specs.declared.Coord.{Coord}
use Rattle.vdb_tree.specs.Field.{Field, new as new_field, write}
use Rattle.vdb_tree.specs.Outcome.{IsOutcome}
use Rattle.vdb_tree.specs.declared.Write.{Write}
use Rattle.vdb_tree.specs.declared.Write.TheVariants as writes
use Rattle.vdb_tree.specs.declared.refusal.TreeRefusal.{TreeRefusal}
use Rattle.vdb_tree.specs.declared.refusal.TreeRefusal.TheVariants as trees
use Rattle.vdb_scene.specs.Grids.{HasRootCapacity, HasSameTree, IsCopyOf, IsPruned, IsVoxelised, KeepsOutside, grid_field, grid_root_limit}
use Rattle.vdb_scene.specs.Scalars.{is_of, kind_of, scalar_eq}
use Rattle.vdb_scene.specs.Step.{passes, write_takes_memory}
use Rattle.vdb_scene.specs.TwoGrids.{IsMade, StaysBut}
use Rattle.vdb_scene.specs.declared.answer.Refusal.{Refusal}
use Rattle.vdb_scene.specs.declared.two_grids.Operation.{Operation}
use Rattle.vdb_scene.specs.declared.any_grid.AnyGrid.{AnyGrid}
use Rattle.vdb_scene.specs.declared.scalar.Scalar.{Scalar}
use Rattle.vdb_value.specs.declared.Kind.{Kind}
use Rattle.vdb_c.specs.Codes.{done, empty, memory, out_of_range, scene_code, tree_code}
use Rattle.vdb_c.specs.Values.{accessor_of, kind_of_number, state_number, value_number, value_of}

-- the type of a grid's values
abbrev pub grid_kind : AnyGrid → Kind
grid_kind g = kind_of (grid_field g).background

-- a call on what a handle holds: an empty handle stays empty, and nothing else changes
abbrev pub OnHeld : {A : Type 0} → Option A → Option A → ℤ → Type 0 → (A → A → Type 0) → Type 0
OnHeld None new code kept call = (code ≡ empty) × (new ≡ None) × kept
OnHeld (Some old) None code kept call = ⊥
OnHeld (Some old) (Some new) code kept call = call old new

-- a call with an argument that is tested: without it, the code says so and nothing changes
abbrev pub OnValid : {A B : Type 0} → Option B → A → A → ℤ → Type 0 → (B → Type 0) → Type 0
OnValid None old new code kept call = (code ≡ out_of_range) × (new ≡ old) × kept
OnValid (Some b) old new code kept call = call b

-- a call that reads a grid, which stays as it is: its cells, its tree and its accessors
abbrev pub Reads : AnyGrid → AnyGrid → ℤ → Type 0 → Type 0
Reads old new code answer = (code ≡ done) × (new ≡ old) × answer

-- a call that reads a grid through an accessor or none, which keeps its cells and its tree
abbrev pub ReadsBy : AnyGrid → AnyGrid → ℤ → Type 0 → Type 0
ReadsBy old new code answer = (code ≡ done) × HasSameTree old new × answer

-- a call that may change the tree of a grid, and keeps its cells and its limit
abbrev pub KeepsCells : AnyGrid → AnyGrid → ℤ → Type 0 → Type 0
KeepsCells old new code answer = (code ≡ done) × (grid_field new ≡ grid_field old) × (grid_root_limit new ≡ grid_root_limit old) × answer

-- a call that reads the number and the state of a voxel through an accessor or none, which is tested
abbrev pub Probes : ℤ → Coord → ℤ → ℤ → ℤ → ℤ → Option AnyGrid → Option AnyGrid → ℤ → Type 0
Probes number at value value' active active' old new code =
    OnHeld old new code ((value' ≡ value) × (active' ≡ active)) (λ g h. OnValid (accessor_of number) g h code ((value' ≡ value) × (active' ≡ active))
    (λ _. ReadsBy g h code ((value' ≡ value_number ((grid_field g).cell at).value) × (active' ≡ state_number ((grid_field g).cell at).on))))

-- a call that changes a grid or fails, with the outcome that the library states
abbrev pub Changes : AnyGrid → AnyGrid → ℤ → (Result (Unit {0}) TreeRefusal → Type 0) → Type 0
Changes old new code outcome = (grid_root_limit new ≡ grid_root_limit old) × ((r : Result (Unit {0}) TreeRefusal) × (code ≡ tree_code r) × outcome r)

-- whether a root limit is 1 to 65,536
abbrev pub is_root_limit : ℕ → Bool
is_root_limit limit = nat_le 1 limit && nat_le limit 65536

-- the background of a new grid, if all arguments are in range
abbrev pub created_value : ℤ → ℤ → ℕ → Option Scalar
created_value kind background limit = if is_root_limit limit then option_and_then (λ k. value_of k background) (kind_of_number kind) else None

-- a grid that was never written, with this background and this limit
abbrev pub IsNew : Scalar → ℕ → Option AnyGrid → Type 0
IsNew background limit None = ⊥
IsNew background limit (Some g) = (grid_field g ≡ new_field background) × (grid_root_limit g ≡ limit)

-- a grid was created, or memory ran out; or an argument was out of range
abbrev pub IsCreated : ℤ → ℤ → ℕ → Option AnyGrid → Option AnyGrid → ℤ → Type 0
IsCreated kind background limit old new code =
    OnValid (created_value kind background limit) old new code ⊤ (λ v. ((code ≡ done) × IsNew v limit new) ⊎ ((code ≡ memory) × (new ≡ old)))

-- a copy of this grid, with its tiles and nodes
abbrev pub IsCopyIn : AnyGrid → Option AnyGrid → Type 0
IsCopyIn g None = ⊥
IsCopyIn g (Some copy) = IsCopyOf g copy × (grid_field copy ≡ grid_field g) × (grid_root_limit copy ≡ grid_root_limit g)

-- a grid was copied into another handle, or memory ran out, or there is none
abbrev pub IsCopied : Option AnyGrid → Option AnyGrid → Option AnyGrid → ℤ → Type 0
IsCopied None old new code = (code ≡ empty) × (new ≡ old)
IsCopied (Some g) old new code = ((code ≡ done) × IsCopyIn g new) ⊎ ((code ≡ memory) × (new ≡ old))

-- the write of a state and a value
abbrev pub write_of : Bool → Scalar → Write Scalar
write_of on v = if on then writes.On v else writes.Off v

-- its value, if any, has the type
abbrev pub IsWriteFor : Kind → Option (Write Scalar) → Type 0
IsWriteFor kind None = ⊤
IsWriteFor kind (Some change) = IsTrue (passes (is_of kind) change)

-- the outcome of a write to a field with a root limit, which fails with `Memory` only if it may have to allocate
abbrev pub IsWrittenIn : ℕ → Coord → Write Scalar → Field Scalar → Field Scalar → Result (Unit {0}) TreeRefusal → Type 0
IsWrittenIn limit at w old new result = IsOutcome scalar_eq vdb limit old (write at w old) new result × (write_takes_memory old at w ≡ false → IsOk result)

-- the same for a write that is given
abbrev pub IsWrittenBy : ℕ → Coord → Option (Write Scalar) → Field Scalar → Field Scalar → Result (Unit {0}) TreeRefusal → Type 0
IsWrittenBy limit at None old new result = ⊥
IsWrittenBy limit at (Some w) old new result = IsWrittenIn limit at w old new result

-- the same for a grid
abbrev pub IsWritten : Coord → Write Scalar → AnyGrid → AnyGrid → Result (Unit {0}) TreeRefusal → Type 0
IsWritten at w old new result = IsWrittenIn (grid_root_limit old) at w (grid_field old) (grid_field new) result

-- no tile and no node that doesn't hold the voxel changes, unless the root table is full
abbrev pub WritesOnly : Coord → AnyGrid → AnyGrid → Type 0
WritesOnly at old new = HasRootCapacity old at → KeepsOutside old new at

-- a write to a voxel, through an accessor or none, both of which are tested
abbrev pub Writes : Option (Option ℕ) → Coord → Option (Write Scalar) → AnyGrid → AnyGrid → ℤ → Type 0
Writes accessor at change old new code =
    OnValid change old new code ⊤ (λ w. OnValid accessor old new code ⊤ (λ _. Changes old new code (IsWritten at w old new) × WritesOnly at old new))

-- a number of iterations, if it is 1 to 16
abbrev pub iterations_of : ℕ → Option ℕ
iterations_of n = if nat_le 1 n && nat_le n 16 then Some n else None

-- an error of memory leaves a pruned grid
abbrev pub PrunesWithoutMemory : AnyGrid → Result (Unit {0}) TreeRefusal → Type 0
PrunesWithoutMemory new result = result ≡ Err trees.Memory → IsPruned new

-- No cell changed, and each active voxel of the box lies in a leaf if the call succeeded, which only an allocation prevents. The grid is pruned
-- after an error.
abbrev pub IsVoxelisedOr : AnyGrid → AnyGrid → Box → Result (Unit {0}) TreeRefusal → Type 0
IsVoxelisedOr old new box result = (grid_field new ≡ grid_field old) × OnOk result (IsVoxelised new box) × IfErr result (λ r. r ≡ trees.Memory) × IfErr result (λ _. IsPruned new)

-- the same for a call with the grid of another handle
abbrev pub OnOther : Option AnyGrid → AnyGrid → AnyGrid → ℤ → (AnyGrid → Type 0) → Type 0
OnOther None old new code call = (code ≡ empty) × (new ≡ old)
OnOther (Some given) old new code call = call given

-- An operation on two grids, which keeps the limit of the first, with the outcome that the library states. An error other than the root limit
-- and memory leaves the grid as it is, its tree too.
abbrev pub Combines : Operation → Option AnyGrid → Option AnyGrid → Option AnyGrid → ℤ → Type 0
Combines operation old other new code =
    OnHeld old new code ⊤ (λ g h. OnOther other g h code (λ k. (grid_root_limit h ≡ grid_root_limit g)
    × ((r : Result (Unit {0}) Refusal) × (code ≡ scene_code r) × IsMade operation (grid_root_limit g) (grid_field g) (grid_field k) (grid_field h) r × IfErr r (λ refusal. StaysBut refusal g h))))
