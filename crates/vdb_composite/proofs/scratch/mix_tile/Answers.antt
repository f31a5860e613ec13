use Rattle.vdb_composite.proofs.Common.{◌≡◌, ◌∙◌, ap, arith, entries, offset, vdb, Bits, Leaf, entries_is, offset_below, cell_in, blended, leaf_small}
use Rattle.vdb_composite.proofs.MixLeaves.{blended_cell, offset_small, replaced_cell}
use Rattle.vdb_composite.proofs.scratch.mix_tile.Goals as goal

pub blend_with-requires : goal.blend_with-requires
blend_with-requires g c =
    let small = g.met.V.Stored-3.row_small in
    leaf_small _ _ 8 _ c.mask_words.ensures.leaf small.1 small.1 small.0

pub returns-in-Values : goal.returns-in-Values
returns-in-Values g c = λ yes d q i.
    rw (c.in-Values.is, c.requires q i)
    (blended_cell (blended g.V.Voxel.greater g.V.Voxel.lesser g.V.Voxel.sum_of) c.in-Values.how (cell_in d c.args.scratch.now (offset vdb Leaf q)) c.args.tile (cell_in d c.blend_with.new.self (offset vdb Leaf q))
    (c.blend_with.ensures.blended yes d (offset vdb Leaf q) (offset_small vdb q)))

pub fill_run-requires : goal.fill_run-requires
fill_run-requires g c =
    let small = g.met.V.Stored-3.row_small in
    let count : c.from.result ≡ entries vdb Leaf = c.from.ensures ∙ c.entries.ensures ∙ ap (λ (b : Bits). entries b Leaf) c.bits.ensures.value in
    let is = entries_is vdb Leaf in
    (leaf_small _ _ 8 _ c.mask_words.ensures.leaf small.1 small.1 small.0, (omega arith, omega (arith, count, is)))

pub returns-then-tile : goal.returns-then-tile
returns-then-tile g c = λ _ d q i.
    let count : c.from.result ≡ entries vdb Leaf = c.from.ensures ∙ c.entries.ensures ∙ ap (λ (b : Bits). entries b Leaf) c.bits.ensures.value in
    let k = offset_below vdb Leaf q in
    let new = c.fill_run.ensures.changed d (offset vdb Leaf q) (omega arith) (omega (arith, count, k)) in
    rw (c.in-Replace.is, c.requires q i)
    (replaced_cell (blended g.V.Voxel.greater g.V.Voxel.lesser g.V.Voxel.sum_of) (cell_in d c.args.scratch.now (offset vdb Leaf q)) c.args.tile (cell_in d c.fill_run.new.self (offset vdb Leaf q)) c.if-tile.true new)
