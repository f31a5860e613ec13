use Rattle.vdb_composite.proofs.Common.{◌≡◌, ◌∙◌, ◌-◌, ap, arith, sym, Some, entries, offset, vdb, Bits, Leaf, cell_in, Cell, Field, off, field_of, blended, entries_some, last_ends, last_within, leaf_small}
use Rattle.vdb_composite.proofs.MixLeaves.{blended_cell, offset_small, whole_leaf}
use Rattle.vdb_composite.proofs.scratch.mix_leaf.Goals as goal

pub entry-requires : goal.entry-requires
entry-requires g c =
    let small = g.met.V.Stored-3.row_small in
    let count : c.from-count.result ≡ entries vdb Leaf = c.from-count.ensures ∙ c.entries.ensures ∙ ap (λ (b : Bits). entries b Leaf) c.bits.ensures.value in
    (leaf_small _ _ 8 _ c.mask_words.ensures.leaf small.1 small.1 small.0, last_within vdb Leaf c.args.bounds.min _ count)

pub overflow_sub-count : goal.overflow_sub-count
overflow_sub-count g c =
    let count : c.from-count.result ≡ entries vdb Leaf = c.from-count.ensures ∙ c.entries.ensures ∙ ap (λ (b : Bits). entries b Leaf) c.bits.ensures.value in
    let some = entries_some vdb Leaf c.args.bounds.min in
    omega (arith, count, some)

pub blend-requires : goal.blend-requires
blend-requires g c =
    let small = g.met.V.Stored-3.row_small in
    leaf_small _ _ 8 _ c.mask_words.ensures.leaf small.1 small.1 small.0

pub take_active-requires : goal.take_active-requires
take_active-requires g c =
    let small = g.met.V.Stored-3.row_small in
    leaf_small _ _ 8 _ c.mask_words.ensures.leaf small.1 small.1 small.0

pub returns-in-Values : goal.returns-in-Values
returns-in-Values g c = λ yes d q i.
    let count : c.from-count.result ≡ entries vdb Leaf = c.from-count.ensures ∙ c.entries.ensures ∙ ap (λ (b : Bits). entries b Leaf) c.bits.ensures.value in
    let f : Field g.row.V.Denot = field_of vdb c.args.other.now in
    let other = c.requires.cells q i ∙ whole_leaf vdb c.args.leaf.now (c.from-count.result - 1) c.entry.result (last_ends vdb Leaf q _ count) c.entry.ensures (off f.background) d q in
    rw (c.in-Values.is, other)
    (blended_cell (blended g.V.Voxel.greater g.V.Voxel.lesser g.V.Voxel.sum_of) c.in-Values.how (cell_in d c.args.scratch.now (offset vdb Leaf q)) (cell_in d c.args.leaf.now (offset vdb Leaf q)) (cell_in d c.blend.new.self (offset vdb Leaf q))
    (c.blend.ensures.blended yes d (offset vdb Leaf q) (offset_small vdb q)))

pub returns-in-Replace : goal.returns-in-Replace
returns-in-Replace g c = λ _ d q i.
    let count : c.from-count.result ≡ entries vdb Leaf = c.from-count.ensures ∙ c.entries.ensures ∙ ap (λ (b : Bits). entries b Leaf) c.bits.ensures.value in
    let f : Field g.row.V.Denot = field_of vdb c.args.other.now in
    let other = c.requires.cells q i ∙ whole_leaf vdb c.args.leaf.now (c.from-count.result - 1) c.entry.result (last_ends vdb Leaf q _ count) c.entry.ensures (off f.background) d q in
    rw (c.in-Replace.is, other) (ap (λ (e : Cell g.row.V.Denot). Some e) (sym (c.take_active.ensures d (offset vdb Leaf q) (offset_small vdb q))))
