use Rattle.vdb_node.proofs.Common.{◌+◌, ◌<◌, ◌≤◌, ℕ, ◌∙◌, arith, sym, entry_count}
use Rattle.vdb_node.proofs.Listed.{get_or-listed}
use Rattle.vdb_node.proofs.leaf.Leaf.copy_values.Goals as goal

below : (from i len n : ℕ) → from + len ≤ n → i < len → from + i < n
below from i len n h k = omega (arith, h, k)

pub returns-clause-values : goal.returns-clause-values
returns-clause-values g c =
    rw (← c.self.view_is)
    (λ d i e h.
    c.copy_values.ensures.values i e h
    ∙ sym (get_or-listed (g.V.Stored.value_in c.self.inside.row) (entry_count g.row.LOG2) (c.args.from + i) d.value (below _ i _ _ c.requires h)))
