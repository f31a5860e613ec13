use Rattle.vdb_grid.proofs.EachAccessor.{empty_lives}
use Rattle.vdb_grid.proofs.grid.Grid.start.Goals as goal

pub returns-in-None-clause-lives : goal.returns-in-None-clause-lives
returns-in-None-clause-lives g c =
    rw (← c.self.view_is) (empty_lives c.self.inside.tree c.self.inside.paths c.args.k c.args.p (c.self.invariant.1 c.args.k c.in-None.is))
