use Rattle.vdb_scene.proofs.Common.{vdb, field_of, scalar_eq}
use Rattle.vdb_tree.proofs.AsFieldOf.{as_outcome_of_clip}
use Rattle.vdb_scene.proofs.grid_tree.clip.Goals as goal

pub returns-clause-outcome : goal.returns-clause-outcome
returns-clause-outcome g c =
    let old = field_of vdb c.args.grid.now.tree in
    let new = field_of vdb c.clip.new.self.tree in
    as_outcome_of_clip g.V.GridValue.as_scalar g.V.PartialEq.eq scalar_eq g.met.V.GridValue.same_eq vdb c.args.grid.now.tree.limit c.args.bounds old new c.clip.result c.clip.ensures.outcome
