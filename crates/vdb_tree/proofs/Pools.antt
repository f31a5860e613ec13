-- What the calls on a pool do to its nodes.
use Rattle.std.proofs.Common.{◌≡◌, ◌⊎◌, ◌<◌, ◌≤◌, ℕ, arith, refl, get_or-set_same, get_or-set_other}
use Rattle.std.specs.Prelude.{Option, Some, None, IsSome}
use Rattle.vdb_pool.specs.Contents.{Contents, node_at, with_node, without_node}
use Rattle.vdb_pool.proofs.Lives.{some_below}
use Rattle.vdb_tree.proofs.Levels.{Puts}

is_some_of : {N : Type 0} (o : Option N) (n : N) → o ≡ Some n → IsSome o
is_some_of o n e = rw e refl

-- a node replaced by another
pub node_puts : {N : Type 0} (pool : Contents N) (s : ℕ) (n m : N) → node_at pool s ≡ Some n → Puts pool (with_node pool s m) s (Some m)
node_puts pool s n m was = record {
  here = get_or-set_same pool.nodes s (Some m) None (some_below pool.nodes s (is_some_of (node_at pool s) n was));
  others = λ r d. get_or-set_other pool.nodes s r (Some m) None d;
}

-- a node removed
pub taken_puts : {N : Type 0} (pool : Contents N) (s : ℕ) (n : N) → node_at pool s ≡ Some n → Puts pool (without_node pool s) s None
taken_puts pool s n was = record {
  here = get_or-set_same pool.nodes s None None (some_below pool.nodes s (is_some_of (node_at pool s) n was));
  others = λ r d. get_or-set_other pool.nodes s r None None d;
}

-- a node removed, by what `take` leaves
pub take_puts : {N : Type 0} (old new : Contents N) (s : ℕ) (n : N) → node_at old s ≡ Some n → new ≡ without_node old s → Puts old new s None
take_puts old new s n was after = rw after (taken_puts old s n was)

pub below_or : (a b : ℕ) → (a < b) ⊎ (b ≤ a)
below_or a b = grind arith
