-- What a pool ends as, once a `&mut` to one of its nodes has ended.
use Rattle.std.specs.Prelude.{ℕ}
use Rattle.std.specs.Borrow.{Fml, RattleType, MutBor, Lends}
use Rattle.vdb_pool.specs.Contents.{Contents, with_node}
use Rattle.vdb_pool.specs.contracts.pool.Pool.{the_row}

-- the slot ends with the last node written through r, and nothing else changes
abbrev pub lends_node : (R : RattleType) → MutBor (Contents R.Denot) → ℕ → MutBor R.Denot → Fml
lends_node R pool slot r = Lends (the_row R) R pool r (with_node pool.now slot)
