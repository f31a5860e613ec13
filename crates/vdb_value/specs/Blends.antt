-- How two values combine.
use Rattle.std.specs.Prelude.{Option, Some}
use Rattle.vdb_value.specs.declared.blend.Blend.{Blend}
use Rattle.vdb_value.specs.declared.blend.Blend.TheVariants.{Greatest, Least, Sum}

-- the greater of two values, the lesser, or their sum if they have one
abbrev pub blended : {V : Type 0} → (V → V → V) → (V → V → V) → (V → V → Option V) → Blend → V → V → Option V
blended greater lesser sum Greatest v w = Some (greater v w)
blended greater lesser sum Least v w = Some (lesser v w)
blended greater lesser sum Sum v w = sum v w
