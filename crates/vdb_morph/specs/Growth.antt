-- A tree's field after a dilation that may fail.
use Rattle.std.specs.Prelude.{ℕ, Bool, Result, Ok, Err}
use Rattle.vdb_coord.specs.declared.Bits.{Bits}
use Rattle.vdb_tree.specs.Field.{Field}
use Rattle.vdb_tree.specs.Outcome.{ChangesIfOk, ObeysLimit}
use Rattle.vdb_tree.specs.declared.refusal.TreeRefusal.{TreeRefusal}
use Rattle.vdb_tree.specs.declared.refusal.TreeRefusal.TheVariants.{Memory, RootLimit}

-- the call fails with RootLimit only if this field would exceed the limit, and never accepts such a field; Memory may come either way
abbrev pub ObeysLimitOrMemory : {V : Type 0} → (V → V → Bool) → Bits → ℕ → Field V → Result (Unit {0}) TreeRefusal → Type 0
ObeysLimitOrMemory eq bits limit changed (Ok done) = ObeysLimit eq bits limit changed (Ok done)
ObeysLimitOrMemory eq bits limit changed (Err RootLimit) = ObeysLimit eq bits limit changed (Err RootLimit)
ObeysLimitOrMemory eq bits limit changed (Err Memory) = Unit {0}

-- a call that makes the field larger, or fails and keeps it
abbrev pub IsGrowth : {V : Type 0} → (V → V → Bool) → Bits → ℕ → Field V → Field V → Field V → Result (Unit {0}) TreeRefusal → Type 0
IsGrowth eq bits limit old changed new result = ChangesIfOk old changed new result × ObeysLimitOrMemory eq bits limit changed result
