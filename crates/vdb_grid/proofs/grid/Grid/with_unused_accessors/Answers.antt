use Rattle.vdb_grid.proofs.EachAccessor.{near_nothing, nothing_last, nothing_path, nothing_whole}
use Rattle.vdb_grid.proofs.grid.Grid.with_unused_accessors.Goals as goal

pub invariant_of-result : goal.invariant_of-result
invariant_of-result g c = (nothing_whole _ _ _, λ k _. nothing_path g.row.K k, near_nothing _ _)

pub returns-clause-last : goal.returns-clause-last
returns-clause-last g c = λ k. nothing_last g.row.K k

pub returns-clause-empty : goal.returns-clause-empty
returns-clause-empty g c = λ k. nothing_path g.row.K k
