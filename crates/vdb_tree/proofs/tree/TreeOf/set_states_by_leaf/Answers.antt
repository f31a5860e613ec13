use Rattle.vdb_tree.specs.Layout.{bits_of}
use Rattle.vdb_tree.proofs.StateRuns.{leaf_merged}
use Rattle.vdb_tree.proofs.tree.TreeOf.set_states_by_leaf.Goals as goal

pub returns-clause-sets : goal.returns-clause-sets
returns-clause-sets g c =
    leaf_merged (bits_of g.row.U g.row.L g.row.F) c.args.rule c.args.other.now c.args.self.now c.set_leaf_states.new.self c.args.p c.set_leaf_states.ensures.above _ _ _ _
    c.set_leaf_states.ensures.sets c.states_around.ensures c.states_around-2.ensures c.copied-states.ensures.same c.set_mask.ensures
