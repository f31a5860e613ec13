use Rattle.vdb_grid.proofs.EachAccessor.{near_nothing}
use Rattle.vdb_grid.proofs.accessors.nowhere.Goals as goal

pub returns : goal.returns
returns g c = λ p. near_nothing _ p
