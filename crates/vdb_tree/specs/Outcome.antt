-- What a call that may fail does to a tree's field.
use Rattle.std.specs.Prelude.{◌≡◌, ℕ, ◌<◌, ◌≤◌, Bool, Result, Ok, Err}
use Rattle.vdb_coord.specs.declared.Bits.{Bits}
use Rattle.vdb_tree.specs.Field.{Field}
use Rattle.vdb_tree.specs.ConstantBlocks.{roots}
use Rattle.vdb_tree.specs.declared.refusal.TreeRefusal.{TreeRefusal}
use Rattle.vdb_tree.specs.declared.refusal.TreeRefusal.TheVariants.{Memory, RootLimit}

-- the call fails with RootLimit exactly if this field would exceed the limit
abbrev pub ObeysLimit : {V : Type 0} → (V → V → Bool) → Bits → ℕ → Field V → Result (Unit {0}) TreeRefusal → Type 0
ObeysLimit eq bits limit changed (Ok _) = roots eq bits changed ≤ limit
ObeysLimit eq bits limit changed (Err RootLimit) = limit < roots eq bits changed
ObeysLimit eq bits limit changed (Err Memory) = roots eq bits changed ≤ limit

-- the field is the changed one, or the old one if the call failed
abbrev pub ChangesIfOk : {V : Type 0} → Field V → Field V → Field V → Result (Unit {0}) TreeRefusal → Type 0
ChangesIfOk old changed new (Ok _) = new ≡ changed
ChangesIfOk old changed new (Err _) = new ≡ old

-- a call that changes the field, or fails and keeps it
abbrev pub IsOutcome : {V : Type 0} → (V → V → Bool) → Bits → ℕ → Field V → Field V → Field V → Result (Unit {0}) TreeRefusal → Type 0
IsOutcome eq bits limit old changed new result = ChangesIfOk old changed new result × ObeysLimit eq bits limit changed result
