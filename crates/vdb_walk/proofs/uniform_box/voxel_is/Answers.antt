use Rattle.vdb_walk.proofs.Common.{◌∙◌, ap, Box, Leaf, both, entries_is, Field, bits_of, field_of, leaf_small, exact_by}
use Rattle.vdb_walk.proofs.PartCells.{beside, voxel_test}
use Rattle.vdb_walk.proofs.uniform_box.voxel_is.Goals as goal

pub entry-requires : goal.entry-requires
entry-requires g c =
    let small = g.met.V.Stored-3.row_small in
    (leaf_small _ _ g.row.WF _ c.requires.few_words small.1 small.1 small.0, rw (c.from.ensures, ← entries_is (bits_of g.row.U g.row.L g.row.F) Leaf) c.requires.within)

pub returns-then-not-contains : goal.returns-then-not-contains
returns-then-not-contains g c =
    let bits = bits_of g.row.U g.row.L g.row.F in
    let t = c.args.tree.now in
    let f : Field g.row.V.Denot = field_of (bits_of g.row.U g.row.L g.row.F) c.args.tree.now in
    beside bits f c.args.part c.args.leaf.now c.requires.leaf (both _ _ c.min.ensures.bounds).0 c.args.index c.requires.within c.min.result c.min-voxel.result c.bits.result c.min.ensures.corner c.bits.ensures.value
    (c.min-voxel.ensures.corner ∙ ap (λ (b : Box). b.min) c.entry_block_in.ensures) c.args.cell c.contains.result c.contains.ensures c.if-not-contains.true

pub returns : goal.returns
returns g c =
    let exact = exact_by g.V.PartialEq.eq g.V.Ord.cmp g.met.V.Ord.matches_eq g.met.V.Voxel.exact in
    let bits = bits_of g.row.U g.row.L g.row.F in
    let t = c.args.tree.now in
    let f : Field g.row.V.Denot = field_of (bits_of g.row.U g.row.L g.row.F) c.args.tree.now in
    voxel_test bits f c.args.part c.args.leaf.now c.requires.leaf (both _ _ c.min.ensures.bounds).0 c.args.index c.requires.within c.min.result c.min-voxel.result c.bits.result c.min.ensures.corner c.bits.ensures.value
    (c.min-voxel.ensures.corner ∙ ap (λ (b : Box). b.min) c.entry_block_in.ensures) c.args.cell g.V.PartialEq.eq exact g.met.V.Eq.laws.refl c.contains.result c.contains.ensures c.if-not-contains.false
    c.entry.result (rw c.from.ensures at c.entry.ensures) c.eq.result c.eq.ensures
