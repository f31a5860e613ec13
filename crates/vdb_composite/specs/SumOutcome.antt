-- What a sum leaves of a tree's field, with or without an error.
use Rattle.std.specs.Prelude.{◌≡◌, ◌<◌, ◌≤◌, ℕ, Bool, true, false, Option, Result, Ok, Err}
use Rattle.vdb_coord.specs.declared.Bits.{Bits}
use Rattle.vdb_tree.specs.Field.{Field, lacks_sum, sum}
use Rattle.vdb_tree.specs.ConstantBlocks.{roots}
use Rattle.vdb_composite.specs.declared.sums.SumRefusal.{SumRefusal}
use Rattle.vdb_composite.specs.declared.sums.SumRefusal.TheVariants.{SumRange, RootLimit, Memory}

-- the sum if every two values have one and the root blocks keep to the limit, and else the error that says which fails, and the old field
abbrev pub IsSumOutcome : {V : Type 0} → (V → V → Bool) → (V → V → Option V) → Bits → ℕ → Field V → Field V → Field V → Result (Unit {0}) SumRefusal → Type 0
IsSumOutcome eq plus bits limit f g new (Ok _) = (lacks_sum plus f g ≡ false) × (roots eq bits (sum plus f g) ≤ limit) × (new ≡ sum plus f g)
IsSumOutcome eq plus bits limit f g new (Err SumRange) = (lacks_sum plus f g ≡ true) × (new ≡ f)
IsSumOutcome eq plus bits limit f g new (Err RootLimit) = (lacks_sum plus f g ≡ false) × (limit < roots eq bits (sum plus f g)) × (new ≡ f)
IsSumOutcome eq plus bits limit f g new (Err Memory) = (lacks_sum plus f g ≡ false) × (roots eq bits (sum plus f g) ≤ limit) × (new ≡ f)
