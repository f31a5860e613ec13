use Rattle.vdb_region.proofs.Common.{vdb, both}
use Rattle.vdb_region.proofs.Hulls.{split_side}
use Rattle.vdb_region.proofs.Sides.{some_map}
use Rattle.vdb_region.proofs.clip_box.split_side.Goals as goal

pub returns-clause-edges : goal.returns-clause-edges
returns-clause-edges g c =
    some_map c.side.result
    (λ s same. split_side vdb c.args.bounds (rw c.bits.ensures.value at c.bits.ensures.configured) (both _ _ c.min.ensures.bounds).0 c.args.tree.now c.requires c.args.face s c.args.ring same)
    (rw c.bits.ensures.value at c.side.ensures.some)
