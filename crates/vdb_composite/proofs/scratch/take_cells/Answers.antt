use Rattle.vdb_composite.proofs.Common.{◌≡◌, ◌∙◌, ◌-◌, ap, arith, sym, entries, offset, vdb, Bits, Leaf, entries_is, offset_below, cell_in, Field, off, field_of, entries_some, last_ends, last_within, leaf_small}
use Rattle.vdb_node.specs.Leaf.{Leaf as LeafOf}
use Rattle.vdb_composite.proofs.MixLeaves.{whole_leaf}
use Rattle.vdb_composite.proofs.scratch.take_cells.Goals as goal

pub fill_run-requires : goal.fill_run-requires
fill_run-requires g c =
    let small = g.met.V.Stored-3.row_small in
    let count : c.from-count.result ≡ entries vdb Leaf = c.from-count.ensures ∙ c.entries.ensures ∙ ap (λ (b : Bits). entries b Leaf) c.bits.ensures.value in
    let is = entries_is vdb Leaf in
    (leaf_small _ _ 8 _ c.mask_words.ensures.leaf small.1 small.1 small.0, (omega arith, omega (arith, count, is)))

pub returns-in-Some : goal.returns-in-Some
returns-in-Some g c = λ d q i.
    let count : c.from-count.result ≡ entries vdb Leaf = c.from-count.ensures ∙ c.entries.ensures ∙ ap (λ (b : Bits). entries b Leaf) c.bits.ensures.value in
    let cells = rw c.in-Some.is at c.requires.tile in
    let k = offset_below vdb Leaf q in
    cells q i ∙ sym (c.fill_run.ensures.changed d (offset vdb Leaf q) (omega arith) (omega (arith, count, k)))

pub entry-requires : goal.entry-requires
entry-requires g c =
    let small = g.met.V.Stored-3.row_small in
    let count : c.from-count.result ≡ entries vdb Leaf = c.from-count.ensures ∙ c.entries.ensures ∙ ap (λ (b : Bits). entries b Leaf) c.bits.ensures.value in
    (leaf_small _ _ 8 _ c.mask_words.ensures.leaf small.1 small.1 small.0, last_within vdb Leaf c.args.bounds.min _ count)

pub overflow_sub-count : goal.overflow_sub-count
overflow_sub-count g c =
    let count : c.from-count.result ≡ entries vdb Leaf = c.from-count.ensures ∙ c.entries.ensures ∙ ap (λ (b : Bits). entries b Leaf) c.bits.ensures.value in
    let some = entries_some vdb Leaf c.args.bounds.min in
    omega (arith, count, some)

pub copy_from-requires : goal.copy_from-requires
copy_from-requires g c =
    let small = g.met.V.Stored-3.row_small in
    leaf_small _ _ 8 _ c.mask_words.ensures.leaf small.1 small.1 small.0

pub returns-in-None : goal.returns-in-None
returns-in-None g c = λ d q i.
    let count : c.from-count.result ≡ entries vdb Leaf = c.from-count.ensures ∙ c.entries.ensures ∙ ap (λ (b : Bits). entries b Leaf) c.bits.ensures.value in
    let part = rw c.in-None.is at c.requires.leaf in
    let f : Field g.row.V.Denot = field_of vdb c.args.tree.now in
    part.cells q i
    ∙ whole_leaf vdb c.args.leaf.now (c.from-count.result - 1) c.entry.result (last_ends vdb Leaf q _ count) c.entry.ensures (off f.background) d q
    ∙ ap (λ (l : LeafOf g.row.V.Denot). cell_in d l (offset vdb Leaf q)) (sym c.copy_from.ensures)
