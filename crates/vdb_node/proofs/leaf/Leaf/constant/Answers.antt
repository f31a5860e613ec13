use Rattle.vdb_node.specs.Nodes.{entry_count}
use Rattle.vdb_node.proofs.Leaves.{constant_alike, constant_mixed}
use Rattle.vdb_node.proofs.Listed.{entry_count-pos}
use Rattle.vdb_node.proofs.leaf.Leaf.constant.Goals as goal
use Rattle.vdb_node.proofs.leaf.Leaf.constant.Goals.{else-is_uniform-via-then-is_uniform+else-are_alike, else-is_uniform-via-else-is_uniform}

pub returns-then-are_alike : goal.returns-then-are_alike
returns-then-are_alike g c =
    let here = (rw (← c.self.view_is) at c.entry.ensures) in
    rw (← c.self.view_is)
    (constant_alike (g.V.Stored.value_in c.self.inside.row) (entry_count g.row.LOG2) c.self.inside.states (entry_count-pos g.row.LOG2) c.entry.result
    (rw c.entries-count.ensures at (c.is_uniform.ensures.0 c.if-is_uniform.true))
    (rw c.entries-count.ensures at (c.are_alike.ensures.0 c.if-are_alike.true))
    (here c.entry.result))

pub returns-else-is_uniform : goal.returns-else-is_uniform
returns-else-is_uniform g c =
    rw (← c.self.view_is)
    (constant_mixed (g.V.Stored.value_in c.self.inside.row) (entry_count g.row.LOG2) c.self.inside.states (entry_count-pos g.row.LOG2)
    (λ on values.
    elim c.else-is_uniform.branch [
      | else-is_uniform-via-then-is_uniform+else-are_alike w ↦
          let yes = w.are_alike.ensures.1 (rw (← c.entries-count.ensures) at values) in
          let no = w.if-are_alike.false in
          cc (yes, no)
      | else-is_uniform-via-else-is_uniform w ↦
          let yes = c.is_uniform.ensures.1 (rw (← c.entries-count.ensures) at on) in
          let no = w.if-is_uniform.false in
          cc (yes, no)
    ]))
