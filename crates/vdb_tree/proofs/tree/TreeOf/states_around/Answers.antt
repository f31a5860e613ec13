use Rattle.vdb_tree.proofs.Common.{◌≡◌, ◌∙◌, ap, sym, Some, Child, node_at, bits_of}
use Rattle.vdb_tree.proofs.StateRuns.{states_of_leaf}
use Rattle.vdb_tree.proofs.tree.TreeOf.states_around.Goals as goal

pub returns : goal.returns
returns g c =
    let t = c.args.self.now in
    let was : node_at t.leaves c.held_place-place.result.slot ≡ Some c.at.result.now = rw (← c.self.view_is) c.at.ensures.node in
    states_of_leaf (bits_of g.row.U g.row.L g.row.F) t c.args.p c.held_place-place.result.slot c.at.result.now (c.requires ∙ ap Child (sym c.held_place-place.ensures.slot)) was c.states.result.now
    c.states.ensures.same
