use Rattle.vdb_tree.proofs.Common.{◌≡◌, ap, sym, ◌∙◌, Some, Upper, Child, node_at, background_cell, bits_of, upper_entry}
use Rattle.vdb_tree.proofs.Descents.{tile_cell, tile_lower, upper_node_entry}
use Rattle.vdb_tree.proofs.Ruled.{next_active}
use Rattle.vdb_tree.proofs.tree.TreeOf.next_active_index.Goals as goal

pub returns : goal.returns
returns g c =
    let t = c.args.self.now in
    let bits = bits_of g.row.U g.row.L g.row.F in
    let was : node_at t.uppers c.held_place-place.result.slot ≡ Some c.at.result.now = rw (← c.self.view_is) c.at.ensures.node in
    record {
      next = next_active bits Upper c.args.p t (upper_entry bits t) (λ d q e. tile_cell bits t d q (tile_lower bits t d q e)) c.at.result.now (background_cell t)
          (upper_node_entry bits t c.args.p _ _ (c.requires.node ∙ ap Child (sym c.held_place-place.ensures.slot)) was) c.args.from c.next_active.result c.next_active.ensures;
    }
