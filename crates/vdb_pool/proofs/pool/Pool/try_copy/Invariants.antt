use Rattle.vdb_pool.proofs.Common.{◌≡◌, ◌∷◌, ◌≤◌, length, take, IsFalling}
use Rattle.vdb_pool.proofs.pool.Pool.try_copy.Given as goal

-- the slots so far, and capacity for all of them
abbrev pub invariant-loop-slot : goal.invariant-loop-slot
invariant-loop-slot g l = record {
  copied : l.copy.nodes ≡ take l.slot l.self.nodes;
  capacity : length l.self.nodes ≤ length l.copy.places;
  order : IsFalling (l.slot ∷ l.copy.vacant);
}
