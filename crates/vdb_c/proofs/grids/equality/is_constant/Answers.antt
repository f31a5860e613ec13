use Rattle.vdb_c.proofs.Common.{false, refl}
use Rattle.vdb_tree.proofs.Uniform.{exact_by}
use Rattle.vdb_c.proofs.EqualCells.{constant_same, refuted, without_default}
use Rattle.vdb_c.proofs.grids.equality.is_constant.Goals as goal

pub returns-in-Some : goal.returns-in-Some
returns-in-Some g c = λ d.
    let exact = exact_by g.V.PartialEq.eq g.V.Ord.cmp g.met.V.Ord.matches_eq g.met.V.Voxel.exact in
    constant_same c.args.leaf.now g.V.PartialEq.eq exact g.met.V.Eq.laws.refl c.in-Some.one c.args.cell ((c.constant.ensures c.in-Some.one).0 c.in-Some.is) d c.eq.result c.eq.ensures

pub returns-in-None : goal.returns-in-None
returns-in-None g c = λ d.
    refuted false refl (λ all. let some = (c.constant.ensures c.args.cell).1 (without_default c.args.leaf.now c.args.cell c.states.ensures.values d all) in cc)
