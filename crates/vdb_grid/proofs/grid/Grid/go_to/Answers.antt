use Rattle.std.proofs.Common.{◌<◌, length}
use Rattle.vdb_grid.proofs.EachAccessor.{unused_set, whole_set}
use Rattle.vdb_grid.proofs.NearLeaves.{near_visits, one_visit}
use Rattle.vdb_grid.proofs.grid.Grid.go_to.Goals as goal

pub invariant_of-self : goal.invariant_of-self
invariant_of-self g c =
    let b : c.args.k < length c.self.inside.coords = rw c.self.told c.requires in
    let d : c.args.k < length c.self.inside.paths = rw c.self.told2 c.requires in
    (whole_set _ _ _ _ _ _ b d c.self.invariant.0 c.descend-cell.ensures.whole, unused_set _ _ _ _ _ b c.self.invariant.1, c.self.invariant.2)

pub returns-clause-near : goal.returns-clause-near
returns-clause-near g c = λ q e b.
    let v = c.start-q.ensures.value q e in
    let n = near_visits _ q c.args.p _ b (c.self.invariant.0 c.args.k q (rw (← c.self.view_is) at e)) in
    one_visit _ _ _ (rw v at c.descend-cell.ensures.steps) n
