use Rattle.vdb_composite.proofs.Common.{◌<◌, ◌∙◌, ap, subst, sym, ℕ, node_bits, vdb, Leaf, entries_is, cell_in, entry_count, Field, off, field_of, leaf_small}
use Rattle.vdb_composite.proofs.search.voxel.Goals as goal

pub entry-requires : goal.entry-requires
entry-requires g c =
    let small = g.met.V.Stored-3.row_small in
    (leaf_small _ _ 8 _ c.mask_words.ensures.leaf small.1 small.1 small.0, subst (λ (n : ℕ). n < entry_count (node_bits vdb Leaf)) (sym c.from.ensures) (subst (λ (n : ℕ). c.args.index < n) (entries_is vdb Leaf) c.requires.within))

pub returns-in-Some : goal.returns-in-Some
returns-in-Some g c = λ q i _.
    let cells = rw c.in-Some.is at c.requires.tile in
    cells q i

pub returns-in-None : goal.returns-in-None
returns-in-None g c = λ q i e.
    let f : Field g.row.V.Denot = field_of vdb c.args.tree.now in
    let part = rw c.in-None.is at c.requires.leaf in
    part.cells q i ∙ ap (cell_in (off f.background) c.args.leaf.now) e ∙ (rw c.from.ensures at c.entry.ensures) (off f.background)
