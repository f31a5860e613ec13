use Rattle.vdb_tree.specs.Layout.{bits_of}
use Rattle.vdb_tree.proofs.StateRuns.{leaf_fills}
use Rattle.vdb_tree.proofs.tree.TreeOf.fill_states.Goals as goal

pub returns-clause-sets : goal.returns-clause-sets
returns-clause-sets g c =
    leaf_fills (bits_of g.row.U g.row.L g.row.F) c.args.self.now c.set_leaf_states.new.self c.args.p _ c.args.on _ c.set_leaf_states.ensures.sets c.self.invariant.0.leaf_words c.filled-states.ensures.within
