use Rattle.vdb_tree.proofs.Common.{◌≡◌, ◌∙◌, ℕ, ap, refl, subst, sym, slice_index_or, Tile, node_at, Layout, bits_of, background_cell}
use Rattle.vdb_tree.proofs.Descents.{lower_node_entry}
use Rattle.vdb_tree.proofs.tree.TreeOf.lower_entry_at.Goals as goal

pub returns-clause-value : goal.returns-clause-value
returns-clause-value g c =
    let t = c.args.self.now in
    let was = sym (ap (λ (w : Layout g.row.V.Denot). node_at w.lowers c.args.lower.slot) c.self.view_is) ∙ c.at.ensures.node in
    let node = c.at.result.now in
    lower_node_entry (bits_of g.row.U g.row.L g.row.F) t c.args.p c.args.lower.slot node c.requires.child was c.args.p refl
    ∙ subst (λ (n : ℕ). slice_index_or node n (Tile (background_cell t)) ≡ c.entry.result) c.offset-offset.ensures.value (c.entry.ensures (Tile (background_cell t)))
