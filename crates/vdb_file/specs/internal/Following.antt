-- The order of keys, names and numbers in a file.
use Rattle.std.specs.Prelude.{◌≡◌, Option, Some, None, ⊤}
use Rattle.std.specs.declared.cmp.Ordering.{Ordering}
use Rattle.std.specs.declared.cmp.Ordering.TheVariants.{Less}

-- it comes after the one before, if that exists
abbrev pub Follows : {K : Type 0} → (K → K → Ordering) → Option K → K → Type 0
Follows cmp None k = ⊤
Follows cmp (Some before) k = cmp before k ≡ Less
