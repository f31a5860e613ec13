use Rattle.vdb_tree.proofs.Common.{subst, IsNextCoord, Bits, bits_of}
use Rattle.vdb_tree.proofs.Jumps.{by_box}
use Rattle.vdb_tree.proofs.tree.TreeOf.start_within.Goals as goal

pub returns : goal.returns
returns g c =
    let bits = bits_of g.row.U g.row.L g.row.F in
    let next = subst (λ (b : Bits). IsNextCoord b c.args.level c.part.result c.args.p c.next_coord_in.result) c.bits.ensures.value c.next_coord_in.ensures.next in
    by_box bits c.args.self.now c.args.bounds c.args.skip c.args.outer c.args.level c.requires.next_above c.args.p c.requires.inside c.part.result c.part.ensures.within c.part.ensures.all c.next_coord_in.result next
