use Rattle.vdb_scene.proofs.Common.{not, ◌&&◌, ◌||◌, vdb, field_of, scalar_eq}
use Rattle.vdb_scene.proofs.TwoGrids.{as_outcome_of_states}
use Rattle.vdb_scene.proofs.grid_pair.set_states.Goals as goal

pub returns-in-Unite-clause-outcome : goal.returns-in-Unite-clause-outcome
returns-in-Unite-clause-outcome g c =
    rw c.in-Unite.is (as_outcome_of_states g.V.GridValue.as_scalar g.X.GridValue.as_scalar (λ s t. s || t) g.V.PartialEq.eq scalar_eq g.met.V.GridValue.same_eq vdb c.args.grid.now.tree.limit
    (field_of vdb c.args.grid.now.tree) (field_of vdb c.unite.new.self.tree) (field_of vdb c.args.given.now) c.unite.result c.unite.ensures.outcome)

pub returns-in-Subtract-clause-outcome : goal.returns-in-Subtract-clause-outcome
returns-in-Subtract-clause-outcome g c =
    rw c.in-Subtract.is (as_outcome_of_states g.V.GridValue.as_scalar g.X.GridValue.as_scalar (λ s t. s && not t) g.V.PartialEq.eq scalar_eq g.met.V.GridValue.same_eq vdb c.args.grid.now.tree.limit
    (field_of vdb c.args.grid.now.tree) (field_of vdb c.subtract.new.self.tree) (field_of vdb c.args.given.now) c.subtract.result c.subtract.ensures.outcome)

pub returns-in-Intersect-clause-outcome : goal.returns-in-Intersect-clause-outcome
returns-in-Intersect-clause-outcome g c =
    rw c.in-Intersect.is (as_outcome_of_states g.V.GridValue.as_scalar g.X.GridValue.as_scalar (λ s t. s && t) g.V.PartialEq.eq scalar_eq g.met.V.GridValue.same_eq vdb c.args.grid.now.tree.limit
    (field_of vdb c.args.grid.now.tree) (field_of vdb c.intersect.new.self.tree) (field_of vdb c.args.given.now) c.intersect.result c.intersect.ensures.outcome)
