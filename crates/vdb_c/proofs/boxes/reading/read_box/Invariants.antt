use Rattle.vdb_c.proofs.Common.{◌≡◌, vdb, Absent, IsLaid, state_byte}
use Rattle.vdb_tree.specs.Parts.{IsWalk, left_count}
use Rattle.vdb_c.proofs.PartsRead.{done, so_far}
use Rattle.vdb_c.proofs.boxes.reading.read_box.Given as goal

abbrev pub invariant-rest : goal.invariant-rest
invariant-rest g l =
    record {
      walk : IsWalk vdb l.tree l.walk;
      box : l.walk.box ≡ l.bounds;
      skip : l.walk.skip ≡ Absent;
      values : IsLaid l.bounds l.strides (done l.bounds l.there l.walk.at) (so_far l.tree g.S.Shown.of l.walk.at) l.fn.values l.values;
      states : IsLaid l.bounds l.strides (done l.bounds l.there l.walk.at) (so_far l.tree (λ c. state_byte c.on) l.walk.at) l.fn.states l.states;
    }

abbrev pub decreases-rest : goal.decreases-rest
decreases-rest g l = left_count vdb l.walk.at
