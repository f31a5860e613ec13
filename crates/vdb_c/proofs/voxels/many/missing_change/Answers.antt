use Rattle.std.proofs.Common.{◌∙◌, ap, not, subst, below_more}
use Rattle.std.specs.Prelude.{IsSome}
use Rattle.vdb_c.proofs.voxels.many.missing_change.Goals as goal

pub loop-k-preserved : goal.loop-k-preserved
loop-k-preserved c = below_more _ _ c.loop-k.invariant (subst IsSome c.change_at.ensures.write (c.is_none.ensures ∙ ap not c.if-is_none.false))
