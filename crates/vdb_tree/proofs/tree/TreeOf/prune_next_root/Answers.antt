use Rattle.vdb_tree.proofs.Common.{subst, Coord, PrunesRoot, bits_of}
use Rattle.vdb_tree.proofs.RootSweeps.{prunes_root}
use Rattle.vdb_tree.proofs.tree.TreeOf.prune_next_root.Goals as goal

pub returns-clause-pruned : goal.returns-clause-pruned
returns-clause-pruned g c =
    let bits = bits_of g.row.U g.row.L g.row.F in
    subst (λ (k : Coord). PrunesRoot bits c.args.self.now c.drop_background.new.self k) c.key_corner-corner.ensures.number
    (prunes_root bits c.args.self.now c.prune_upper.new.self c.drop_background.new.self c.key_corner-corner.result
    c.prune_upper.ensures.keeps c.prune_upper.ensures.others c.prune_upper.ensures.table c.prune_upper.ensures.needed
    c.drop_background.ensures.keeps c.drop_background.ensures.same c.drop_background.ensures.table c.drop_background.ensures.gone)
