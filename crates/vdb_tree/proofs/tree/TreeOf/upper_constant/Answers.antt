use Rattle.vdb_tree.proofs.Common.{◌≡◌, ap, sym, ◌∙◌, Some, entries, Upper, Child, node_at, bits_of, background_cell, upper_entry}
use Rattle.vdb_tree.proofs.Constants.{entries_some, last_ends, last_within, node_iff}
use Rattle.vdb_tree.proofs.Descents.{upper_node_entry}
use Rattle.vdb_tree.proofs.Passes.{childless_if}
use Rattle.vdb_tree.proofs.Sizes.{internal_small}
use Rattle.vdb_tree.proofs.tree.TreeOf.upper_constant.Goals as goal

pub overflow_sub-count : goal.overflow_sub-count
overflow_sub-count g c = rw (c.from-count.ensures, c.entries.ensures) (entries_some c.bits.result Upper c.args.p)

pub entry-requires : goal.entry-requires
entry-requires g c =
    let small = g.met.V.Stored-1.row_small in
    let bits = bits_of g.row.U g.row.L g.row.F in
    let count : c.from-count.result ≡ entries bits Upper = c.from-count.ensures ∙ c.entries.ensures ∙ ap (λ b. entries b Upper) c.bits.ensures.value in
    (internal_small _ _ g.row.WU _ c.self.invariant.0.few_upper_words small.1 small.1 small.0, last_within bits Upper c.args.p _ count)

pub returns-clause-constant : goal.returns-clause-constant
returns-clause-constant g c = λ cell.
    let t = c.args.self.now in
    let bits = bits_of g.row.U g.row.L g.row.F in
    let count : c.from-count.result ≡ entries bits Upper = c.from-count.ensures ∙ c.entries.ensures ∙ ap (λ b. entries b Upper) c.bits.ensures.value in
    let was : node_at t.uppers c.held_place-place.result.slot ≡ Some c.at-node.result.now = rw (← c.self.view_is) c.at-node.ensures.node in
    node_iff bits Upper c.args.p (upper_entry bits t) c.at-node.result.now (background_cell t) (upper_node_entry bits t c.args.p _ _ (c.requires ∙ ap Child (sym c.held_place-place.ensures.slot)) was)
    _ (last_ends bits Upper c.args.p _ count) _ c.entry.ensures cell _ (c.constant.ensures cell)

pub returns-clause-childless : goal.returns-clause-childless
returns-clause-childless g c =
    let t = c.args.self.now in
    let bits = bits_of g.row.U g.row.L g.row.F in
    let count : c.from-count.result ≡ entries bits Upper = c.from-count.ensures ∙ c.entries.ensures ∙ ap (λ b. entries b Upper) c.bits.ensures.value in
    let was : node_at t.uppers c.held_place-place.result.slot ≡ Some c.at-node.result.now = rw (← c.self.view_is) c.at-node.ensures.node in
    childless_if bits Upper (upper_entry bits t) c.args.p c.constant.result
    (λ cell. node_iff bits Upper c.args.p (upper_entry bits t) c.at-node.result.now (background_cell t) (upper_node_entry bits t c.args.p _ _ (c.requires ∙ ap Child (sym c.held_place-place.ensures.slot)) was)
    _ (last_ends bits Upper c.args.p _ count) _ c.entry.ensures cell _ (c.constant.ensures cell))
