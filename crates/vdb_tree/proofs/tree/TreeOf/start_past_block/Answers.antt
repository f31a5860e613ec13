use Rattle.vdb_tree.proofs.Common.{◌<◌, subst, IfSome, coordinates_past, Bits}
use Rattle.vdb_tree.proofs.tree.TreeOf.start_past_block.Goals as goal

pub returns-clause-nearer : goal.returns-clause-nearer
returns-clause-nearer g c =
    subst (λ (b : Bits). IfSome c.next_coord_in.result (λ next. coordinates_past b next < coordinates_past b c.args.p)) c.bits.ensures.value c.next_coord_in.ensures.nearer
