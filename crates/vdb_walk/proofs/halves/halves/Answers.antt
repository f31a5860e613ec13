-- The parts come in block order.
use Rattle.std.proofs.Common.{refl}
use Rattle.vdb_walk.proofs.BoxOrder.{leaf_ordered, lower_ordered, upper_ordered, voxels_ordered}
use Rattle.vdb_walk.proofs.halves.halves.Goals as goal

pub returns-in-Some-clause-ordered : goal.returns-in-Some-clause-ordered
returns-in-Some-clause-ordered c =
    upper_ordered c.args.bits c.in-Some.parts.0 c.in-Some.parts.1 (rw c.block_bits.ensures at c.in-Some.ensures.ordered)

pub returns-in-Some-cut-clause-ordered : goal.returns-in-Some-cut-clause-ordered
returns-in-Some-cut-clause-ordered c =
    lower_ordered c.args.bits c.args.part c.in-Some-cut.parts.0 c.in-Some-cut.parts.1 c.in-Some-cut.ensures.some
    (rw c.block_bits.ensures at c.in_default.ensures.none refl) (rw c.block_bits-2.ensures at c.in-Some-cut.ensures.ordered)

pub returns-in-Some-cut-2-clause-ordered : goal.returns-in-Some-cut-2-clause-ordered
returns-in-Some-cut-2-clause-ordered c =
    leaf_ordered c.args.bits c.args.part c.in-Some-cut-2.parts.0 c.in-Some-cut-2.parts.1 c.in-Some-cut-2.ensures.some
    (rw c.block_bits-2.ensures at c.in_default-cut.ensures.none refl) (rw c.block_bits-3.ensures at c.in-Some-cut-2.ensures.ordered)

pub returns-clause-ordered : goal.returns-clause-ordered
returns-clause-ordered c =
    voxels_ordered c.args.bits c.args.part c.cut-4.result c.cut-4.ensures.some
    (rw c.block_bits-3.ensures at c.in_default-cut-2.ensures.none refl) c.cut-4.ensures.ordered
