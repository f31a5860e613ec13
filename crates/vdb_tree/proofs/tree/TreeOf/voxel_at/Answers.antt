use Rattle.vdb_tree.proofs.Common.{◌≡◌, ◌∙◌, refl, Some, node_at, background_cell}
use Rattle.vdb_tree.proofs.Descents.{leaf_cell}
use Rattle.vdb_tree.proofs.tree.TreeOf.voxel_at.Goals as goal

pub returns-clause-value : goal.returns-clause-value
returns-clause-value g c =
    let t = c.args.self.now in
    let was : node_at t.leaves c.args.leaf.slot ≡ Some c.at.result.now = rw (← c.self.view_is) c.at.ensures.node in
    leaf_cell _ t c.args.p _ _ c.requires.child was c.args.p refl
    ∙ rw c.offset-offset.ensures.value at (c.entry.ensures (background_cell t))
