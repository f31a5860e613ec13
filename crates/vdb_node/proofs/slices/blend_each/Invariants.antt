use Rattle.vdb_node.proofs.Common.{◌≡◌, ◌<◌, ◌≤◌, ℕ, get_or, Some, blended}
use Rattle.vdb_node.proofs.slices.blend_each.Given as goal

abbrev pub invariant-values : goal.invariant-values
invariant-values g l =
    record {
      done : (j : ℕ) (d e : g.row.V.Denot) → j < l.i
          → blended g.V.Voxel.greater g.V.Voxel.lesser g.V.Voxel.sum_of l.how (get_or l.initial.values j d) (get_or l.others j e) ≡ Some (get_or l.values j d);
      rest : (j : ℕ) (d : g.row.V.Denot) → l.i ≤ j → get_or l.values j d ≡ get_or l.initial.values j d;
    }
