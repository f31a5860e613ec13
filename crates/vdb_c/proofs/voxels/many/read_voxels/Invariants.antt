use Rattle.vdb_c.proofs.Common.{vdb, field_of, corner_coord, state_byte}
use Rattle.vdb_tree.specs.Paths.{Lives}
use Rattle.vdb_c.proofs.Filled.{IsFilled}
use Rattle.vdb_c.proofs.voxels.many.read_voxels.Given as goal

abbrev pub invariant-loop-k : goal.invariant-loop-k
invariant-loop-k g l = record {
  lives : Lives vdb l.tree l.path l.near;
  values : IsFilled (λ c. g.V.Number.number_of ((field_of vdb l.tree).cell (corner_coord c)).value) l.at l.values l.k;
  states : IsFilled (λ c. state_byte ((field_of vdb l.tree).cell (corner_coord c)).on) l.at l.states l.k;
}
