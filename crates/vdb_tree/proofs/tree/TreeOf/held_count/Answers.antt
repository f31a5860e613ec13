use Rattle.vdb_tree.proofs.Common.{ap, sym, ◌∙◌, rules, Leaf, fits_everywhere, entries_is, on_count, Child, bits_of}
use Rattle.vdb_tree.proofs.LeafBlocks.{leaf_around}
use Rattle.vdb_tree.proofs.LeafCounts.{leaf_counted}
use Rattle.vdb_tree.proofs.tree.TreeOf.held_count.Goals as goal

pub returns-clause-active : goal.returns-clause-active
returns-clause-active g c =
    let bits = bits_of g.row.U g.row.L g.row.F in
    let around = leaf_around bits _ c.args.p _ _ ((rw (← c.self.view_is) at c.requires) ∙ ap Child (sym c.held_place-place.ensures.slot)) c.at.ensures.node in
    rw (← c.self.view_is)
    (c.count_on.ensures ∙ ap (on_count c.at.result.now.states) (sym (entries_is bits Leaf))
    ∙ leaf_counted bits c.self.invariant.0.bits _ c.args.p c.at.result.now (fits_everywhere c.args.p (search rules) (search rules) (search rules)) around)
