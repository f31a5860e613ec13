use Rattle.vdb_c.proofs.Common.{inl, inr, refl}
use Rattle.vdb_tree.proofs.Blocks.{never}
use Rattle.vdb_c.proofs.grids.equality.equality.Goals as goal

pub returns-then-are_equal : goal.returns-then-are_equal
returns-then-are_equal c = inl (refl, c.are_equal.ensures.0 c.if-are_equal.true)

pub returns-else-are_equal : goal.returns-else-are_equal
returns-else-are_equal c = inr (refl, λ same. never c.if-are_equal.false (c.are_equal.ensures.1 same))
