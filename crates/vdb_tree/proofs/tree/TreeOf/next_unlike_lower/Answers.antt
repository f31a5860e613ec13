use Rattle.vdb_tree.proofs.Common.{◌≡◌, ap, sym, ◌∙◌, Some, Upper, entries_is, Child, node_at, bits_of, background_cell, upper_entry}
use Rattle.vdb_tree.proofs.Descents.{tile_cell, tile_lower, upper_node_entry}
use Rattle.vdb_tree.proofs.Sizes.{internal_small}
use Rattle.vdb_tree.proofs.UnlikeEntries.{unlike}
use Rattle.vdb_tree.proofs.tree.TreeOf.next_unlike_lower.Goals as goal

pub next_unlike-requires : goal.next_unlike-requires
next_unlike-requires g c =
    let small = g.met.V.Stored-1.row_small in
    (internal_small _ _ g.row.WU _ c.self.invariant.0.few_upper_words small.1 small.1 small.0, rw (entries_is (bits_of g.row.U g.row.L g.row.F) Upper) at c.requires.within)

pub returns : goal.returns
returns g c =
    let t = c.args.self.now in
    let bits = bits_of g.row.U g.row.L g.row.F in
    let was : node_at t.uppers c.held_place-place.result.slot ≡ Some c.at.result.now = rw (← c.self.view_is) c.at.ensures.node in
    unlike bits t Upper c.args.p c.args.cell (upper_entry bits t) (λ q e. tile_cell bits t c.args.cell q (tile_lower bits t c.args.cell q e)) c.at.result.now (background_cell t)
    (upper_node_entry bits t c.args.p _ _ (c.requires.child ∙ ap Child (sym c.held_place-place.ensures.slot)) was) c.args.from c.next_unlike.result c.next_unlike.ensures
