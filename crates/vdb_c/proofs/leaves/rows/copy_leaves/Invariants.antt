use Rattle.vdb_c.proofs.Common.{◌≡◌, ◌<◌, ◌≤◌, ℕ, Some, get_or, length, vdb, field_of, IsNextLeaf, HasRows, IsValueOf, IsWordOf, last_before, voxel_at, Corner}
use Rattle.vdb_c.proofs.leaves.rows.copy_leaves.Given as goal

abbrev pub invariant-loop-k : goal.invariant-loop-k
invariant-loop-k g l = record {
  last : l.last ≡ last_before l.fn.after l.origins l.k;
  each : (j : ℕ) → j < l.k → IsNextLeaf vdb l.tree (last_before l.fn.after l.origins j) (Some (voxel_at l.origins j));
  others : (i : ℕ) (d : Corner) → l.k ≤ i → get_or l.origins i d ≡ get_or l.fn.origins i d;
  values : HasRows 512 l.k (λ j. IsValueOf (λ q. g.V.Number.number_of ((field_of vdb l.tree).cell q).value) (voxel_at l.origins j)) l.fn.values l.values;
  states : HasRows 8 l.k (λ j. IsWordOf (λ q. ((field_of vdb l.tree).cell q).on) (voxel_at l.origins j)) l.fn.states l.states;
}
