use Rattle.vdb_scene.proofs.Common.{vdb, dilate, cell_at, field_of, scalar_eq}
use Rattle.vdb_scene.proofs.AsIterated.{as_growth_of_iterations, dilate_made}
use Rattle.vdb_scene.proofs.grid_tree.dilate.Goals as goal

pub returns-clause-outcome : goal.returns-clause-outcome
returns-clause-outcome g c =
    let make = g.V.GridValue.as_scalar in
    let tree = c.args.grid.now.tree in
    as_growth_of_iterations make dilate dilate (dilate_made make) g.V.PartialEq.eq scalar_eq g.met.V.GridValue.same_eq vdb tree.limit c.args.iterations tree.background (cell_at vdb tree) (field_of vdb c.dilate.new.self.tree) c.dilate.result c.dilate.ensures.outcome
