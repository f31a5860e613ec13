use Rattle.vdb_morph.proofs.Common.{refl, vdb, field_of}
use Rattle.vdb_tree.proofs.Uniform.{exact_by}
use Rattle.vdb_morph.proofs.IterationLaws.{eroded_few, eroded_outcome}
use Rattle.vdb_morph.proofs.iterations.erode.Goals as goal

pub returns-in-Some-clause-outcome : goal.returns-in-Some-clause-outcome
returns-in-Some-clause-outcome g c =
    eroded_outcome g.V.PartialEq.eq vdb c.args.tree.now.limit c.args.iterations c.requires.some (field_of vdb c.args.tree.now) (field_of vdb c.intersect.new.tree) (field_of vdb c.in-Some.states) (c.in-Some.ensures c.requires.some) c.intersect.result c.intersect.ensures.outcome

pub returns-in-None-clause-outcome : goal.returns-in-None-clause-outcome
returns-in-None-clause-outcome g c =
    let f = field_of vdb c.args.tree.now in
    let exact = exact_by g.V.PartialEq.eq g.V.Ord.cmp g.met.V.Ord.matches_eq g.met.V.Voxel.exact in
    (refl, eroded_few g.V.PartialEq.eq vdb c.args.tree.now.limit c.args.iterations c.requires.some f exact g.met.V.Eq.laws.refl c.limit.result c.limit.ensures.kept c.limit.ensures.value)
