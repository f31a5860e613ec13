use Rattle.vdb_walk.proofs.Common.{◌≡◌, ◌≤◌, ◌∙◌, ℕ, ap, subst, entries, Bits, Leaf, Field, bits_of, field_of, exact_by}
use Rattle.vdb_walk.proofs.PartCells.{cell_below_all, cell_below_next, cell_below_none, entry_other}
use Rattle.vdb_walk.proofs.uniform_box.voxels_are.Goals as goal

pub loop-index-init : goal.loop-index-init
loop-index-init g c =
    let bits = bits_of g.row.U g.row.L g.row.F in
    let t = c.args.tree.now in
    let f : Field g.row.V.Denot = field_of (bits_of g.row.U g.row.L g.row.F) c.args.tree.now in
    cell_below_none bits f c.args.part c.args.cell

pub returns-then-not-voxel_is : goal.returns-then-not-voxel_is
returns-then-not-voxel_is g c =
    let exact = exact_by g.V.PartialEq.eq g.V.Ord.cmp g.met.V.Ord.matches_eq g.met.V.Voxel.exact in
    let bits = bits_of g.row.U g.row.L g.row.F in
    let t = c.args.tree.now in
    let f : Field g.row.V.Denot = field_of (bits_of g.row.U g.row.L g.row.F) c.args.tree.now in
    entry_other bits f c.args.part c.args.cell g.V.PartialEq.eq exact g.met.V.Eq.laws.refl c.loop-index.index c.voxel_is.result c.voxel_is.ensures c.if-not-voxel_is.true

pub loop-index-preserved : goal.loop-index-preserved
loop-index-preserved g c =
    let bits = bits_of g.row.U g.row.L g.row.F in
    let t = c.args.tree.now in
    let f : Field g.row.V.Denot = field_of (bits_of g.row.U g.row.L g.row.F) c.args.tree.now in
    cell_below_next bits f c.args.part c.args.cell c.loop-index.index c.loop-index.invariant (c.voxel_is.ensures.0 c.if-not-voxel_is.false)

pub returns : goal.returns
returns g c =
    let exact = exact_by g.V.PartialEq.eq g.V.Ord.cmp g.met.V.Ord.matches_eq g.met.V.Voxel.exact in
    let bits = bits_of g.row.U g.row.L g.row.F in
    let t = c.args.tree.now in
    let f : Field g.row.V.Denot = field_of (bits_of g.row.U g.row.L g.row.F) c.args.tree.now in
    let end : c.entries-index-end.result ≡ entries bits Leaf = c.entries-index-end.ensures ∙ ap (λ (b : Bits). entries b Leaf) c.bits.ensures.value in
    cell_below_all bits f c.args.part c.args.cell g.V.PartialEq.eq exact g.met.V.Eq.laws.refl c.loop-index.index (subst (λ (n : ℕ). n ≤ c.loop-index.index) end c.loop-index-test.false) c.loop-index.invariant
