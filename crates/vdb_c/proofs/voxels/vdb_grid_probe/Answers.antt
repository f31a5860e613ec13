use Rattle.vdb_c.proofs.Common.{rules, HasSameTree}
use Rattle.vdb_c.proofs.SameTrees.{same_tree}
use Rattle.vdb_c.proofs.voxels.vdb_grid_probe.Goals as goal

pub returns : goal.returns
returns c =
    let same : HasSameTree c.in-Some.grid.now c.in-Some.grid.now = same_tree c.in-Some.grid.now in
    search rules
