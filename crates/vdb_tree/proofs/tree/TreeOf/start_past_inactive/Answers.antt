use Rattle.vdb_tree.proofs.Common.{bits_of, end_level}
use Rattle.vdb_tree.proofs.Voxels.{fewer_left, past_done, start_inside}
use Rattle.vdb_tree.proofs.tree.TreeOf.start_past_inactive.Goals as goal

pub returns-clause-done : goal.returns-clause-done
returns-clause-done g c = λ inactive.
    let bits = bits_of g.row.U g.row.L g.row.F in
    past_done bits c.args.bounds c.args.self.now c.args.p (end_level bits c.args.self.now c.args.p) inactive c.next_coord_in.result
    (rw (c.bits.ensures.value, c.level_of.ensures) at c.next_coord_in.ensures.next)

pub returns-clause-inside : goal.returns-clause-inside
returns-clause-inside g c =
    start_inside c.bits.result c.args.bounds c.level_of.result c.args.p c.next_coord_in.result c.next_coord_in.ensures.next

pub returns-clause-nearer : goal.returns-clause-nearer
returns-clause-nearer g c =
    fewer_left (bits_of g.row.U g.row.L g.row.F) c.args.p c.next_coord_in.result (rw c.bits.ensures.value at c.next_coord_in.ensures.nearer)
