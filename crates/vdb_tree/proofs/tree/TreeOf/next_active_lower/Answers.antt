use Rattle.vdb_tree.proofs.Common.{◌≡◌, rules, ap, sym, ◌∙◌, Some, Upper, fits_everywhere, entries_is, Child, node_at, bits_of, upper_entry, background_cell}
use Rattle.vdb_tree.proofs.ActiveCounts.{next_active}
use Rattle.vdb_tree.proofs.Descents.{upper_node_entry, tile_cell, tile_lower}
use Rattle.vdb_tree.proofs.Sizes.{internal_small}
use Rattle.vdb_tree.proofs.tree.TreeOf.next_active_lower.Goals as goal

pub next_active-requires : goal.next_active-requires
next_active-requires g c =
    let small = g.met.V.Stored-1.row_small in
    (internal_small _ _ g.row.WU _ c.self.invariant.0.few_upper_words small.1 small.1 small.0, rw (entries_is (bits_of g.row.U g.row.L g.row.F) Upper) at c.requires.within)

pub returns : goal.returns
returns g c =
    let t = c.args.self.now in
    let bits = bits_of g.row.U g.row.L g.row.F in
    let was : node_at t.uppers c.held_place-place.result.slot ≡ Some c.at.result.now = rw (← c.self.view_is) c.at.ensures.node in
    next_active bits c.self.invariant.0.bits t Upper c.args.p (fits_everywhere c.args.p (search rules) (search rules) (search rules)) (upper_entry bits t) (λ d q e. tile_cell bits t d q (tile_lower bits t d q e)) c.at.result.now (background_cell t)
    (upper_node_entry bits t c.args.p _ _ (c.requires.child ∙ ap Child (sym c.held_place-place.ensures.slot)) was) c.args.from c.next_active.result c.next_active.ensures
