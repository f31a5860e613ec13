use Rattle.vdb_walk.proofs.Common.{both, Field, bits_of, field_of, exact_by}
use Rattle.vdb_walk.proofs.PartCells.{have_all, have_next, have_none, other_voxel, same_voxel}
use Rattle.vdb_walk.proofs.uniform_box.roots_have.Goals as goal

pub roots-init : goal.roots-init
roots-init g c =
    let bits = bits_of g.row.U g.row.L g.row.F in
    let t = c.args.tree.now in
    rw c.min-p.ensures.corner (have_none bits t c.args.bounds c.args.cell (both _ _ c.min-p.ensures.bounds).0)

pub returns-then-ne-clause-differs : goal.returns-then-ne-clause-differs
returns-then-ne-clause-differs g c = λ _.
    let exact = exact_by g.V.PartialEq.eq g.V.Ord.cmp g.met.V.Ord.matches_eq g.met.V.Voxel.exact in
    let f : Field g.row.V.Denot = field_of (bits_of g.row.U g.row.L g.row.F) c.args.tree.now in
    other_voxel g.V.PartialEq.eq exact g.met.V.Eq.laws.refl f c.args.bounds c.args.cell c.roots.p c.roots.invariant.inside c.get.result c.get.ensures.cell c.ne.result c.ne.ensures c.if-ne.true

pub roots-preserved : goal.roots-preserved
roots-preserved g c =
    let exact = exact_by g.V.PartialEq.eq g.V.Ord.cmp g.met.V.Ord.matches_eq g.met.V.Voxel.exact in
    let bits = bits_of g.row.U g.row.L g.row.F in
    let t = c.args.tree.now in
    let f : Field g.row.V.Denot = field_of (bits_of g.row.U g.row.L g.row.F) c.args.tree.now in
    have_next bits t c.args.bounds c.args.cell c.roots.p c.roots.invariant
    (same_voxel g.V.PartialEq.eq exact g.met.V.Eq.laws.refl f c.args.bounds c.args.cell c.roots.p c.roots.invariant.inside c.get.result c.get.ensures.cell c.ne.result c.ne.ensures c.if-ne.false)
    c.in-Some.next (rw c.bits-bits.ensures.value at c.in-Some.ensures.next)

pub returns-in-None-clause-same : goal.returns-in-None-clause-same
returns-in-None-clause-same g c = λ _.
    let exact = exact_by g.V.PartialEq.eq g.V.Ord.cmp g.met.V.Ord.matches_eq g.met.V.Voxel.exact in
    let bits = bits_of g.row.U g.row.L g.row.F in
    let t = c.args.tree.now in
    let f : Field g.row.V.Denot = field_of (bits_of g.row.U g.row.L g.row.F) c.args.tree.now in
    have_all bits t c.args.bounds c.args.cell c.roots.p c.roots.invariant
    (same_voxel g.V.PartialEq.eq exact g.met.V.Eq.laws.refl f c.args.bounds c.args.cell c.roots.p c.roots.invariant.inside c.get.result c.get.ensures.cell c.ne.result c.ne.ensures c.if-ne.false)
    (rw c.bits-bits.ensures.value at c.in-None.ensures.next)
