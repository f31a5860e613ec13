use Rattle.vdb_coord.proofs.Positions.{entries_is}
use Rattle.vdb_tree.proofs.tree.TreeOf.offset.Goals as goal

pub returns-clause-within : goal.returns-clause-within
returns-clause-within g c =
    let k = rw (entries_is c.bits.result c.args.level) at c.offset_in.ensures.bound in
    let h = rw c.bits.ensures.value at k in
    rw c.from.ensures h
