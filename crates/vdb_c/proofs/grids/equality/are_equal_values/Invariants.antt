use Rattle.vdb_c.proofs.Common.{◌≡◌, ◌<◌, ℕ, get_or}
use Rattle.vdb_c.proofs.grids.equality.are_equal_values.Given as goal

abbrev pub invariant-values : goal.invariant-values
invariant-values g l = (j : ℕ) → j < l.i → (d : g.row.V.Denot) → get_or l.a j d ≡ get_or l.b j d
