use Rattle.vdb_tree.proofs.Common.{◌≡◌, ap, sym, ◌∙◌, Some, entries, Leaf, Child, node_at, bits_of}
use Rattle.vdb_tree.proofs.Constants.{entries_some, last_ends, last_within, leaf_iff}
use Rattle.vdb_tree.proofs.Sizes.{leaf_small}
use Rattle.vdb_tree.proofs.tree.TreeOf.leaf_constant.Goals as goal

pub overflow_sub-count : goal.overflow_sub-count
overflow_sub-count g c = rw (c.from-count.ensures, c.entries.ensures) (entries_some c.bits.result Leaf c.args.p)

pub entry-requires : goal.entry-requires
entry-requires g c =
    let small = g.met.V.Stored-3.row_small in
    let bits = bits_of g.row.U g.row.L g.row.F in
    let count : c.from-count.result ≡ entries bits Leaf = c.from-count.ensures ∙ c.entries.ensures ∙ ap (λ b. entries b Leaf) c.bits.ensures.value in
    (leaf_small _ _ g.row.WF _ c.self.invariant.0.few_leaf_words small.1 small.1 small.0, last_within bits Leaf c.args.p _ count)

pub returns : goal.returns
returns g c = λ cell.
    let t = c.args.self.now in
    let bits = bits_of g.row.U g.row.L g.row.F in
    let count : c.from-count.result ≡ entries bits Leaf = c.from-count.ensures ∙ c.entries.ensures ∙ ap (λ b. entries b Leaf) c.bits.ensures.value in
    let was : node_at t.leaves c.held_place-place.result.slot ≡ Some c.at-node.result.now = rw (← c.self.view_is) c.at-node.ensures.node in
    leaf_iff bits t c.args.p _ _ (c.requires ∙ ap Child (sym c.held_place-place.ensures.slot)) was _ (last_ends bits Leaf c.args.p _ count) _ c.entry.ensures cell _ (c.constant.ensures cell)
