use Rattle.vdb_tree.proofs.Common.{subst, Coord, Upper, bits_of, SetsRoot}
use Rattle.vdb_tree.proofs.Ruled.{block_within}
use Rattle.vdb_tree.proofs.tree.TreeOf.set_next_root.Goals as goal

pub returns-clause-sets : goal.returns-clause-sets
returns-clause-sets g c =
    let bits = bits_of g.row.U g.row.L g.row.F in
    let new = c.set_root_block.new.self in
    let p = c.key_corner-corner.result in
    subst (λ (k : Coord). SetsRoot bits c.args.rule c.args.other.now c.args.self.now new k) c.key_corner-corner.ensures.number
    (record { sets = block_within bits c.args.rule c.args.other.now Upper c.args.self.now new p c.set_root_block.ensures.sets; table = c.set_root_block.ensures.table })
