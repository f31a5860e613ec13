use Rattle.vdb_node.proofs.Common.{cases_lt, inl, inr, entry_count}
use Rattle.vdb_node.proofs.Entries.{constant_alike, constant_mixed}
use Rattle.vdb_node.proofs.Listed.{entry_count-pos}
use Rattle.vdb_node.proofs.internal.Internal.constant.Goals as goal
use Rattle.vdb_node.proofs.internal.Internal.constant.Goals.{else-all_off-via-then-all_off+then-is_uniform+else-are_alike, else-all_off-via-then-all_off+else-is_uniform, else-all_off-via-else-all_off}

pub returns-then-are_alike : goal.returns-then-are_alike
returns-then-are_alike g c =
    rw (← c.self.view_is)
    (constant_alike g.V.Stored.slot_of c.self.inside.children c.self.inside.states (g.V.Stored.value_in c.self.inside.values) c.self.inside.slots.items
    (entry_count g.row.LOG2) (entry_count-pos g.row.LOG2) (record { value = c.value_at.result; on = c.test.result })
    (c.all_off.ensures.0 c.if-all_off.true)
    (rw c.entries-count.ensures at (c.is_uniform.ensures.0 c.if-is_uniform.true))
    (rw c.entries-count.ensures at (c.are_alike.ensures.0 c.if-are_alike.true))
    c.value_at.ensures c.test.ensures)

pub returns-else-all_off : goal.returns-else-all_off
returns-else-all_off g c =
    rw (← c.self.view_is)
    (constant_mixed g.V.Stored.slot_of c.self.inside.children c.self.inside.states (g.V.Stored.value_in c.self.inside.values) c.self.inside.slots.items
    (entry_count g.row.LOG2) (entry_count-pos g.row.LOG2)
    (λ off on values.
    elim c.else-all_off.branch [
      | else-all_off-via-then-all_off+then-is_uniform+else-are_alike w ↦
          let yes = w.are_alike.ensures.1 (rw (← c.entries-count.ensures) at values) in
          let no = w.if-are_alike.false in
          cc (yes, no)
      | else-all_off-via-then-all_off+else-is_uniform w ↦
          let yes = w.is_uniform.ensures.1 (rw (← c.entries-count.ensures) at on) in
          let no = w.if-is_uniform.false in
          cc (yes, no)
      | else-all_off-via-else-all_off w ↦
          let yes =
          c.all_off.ensures.1
          (λ i.
          elim (cases_lt i (entry_count g.row.LOG2)) [
            | inl h ↦ off i h
            | inr past ↦ c.self.invariant.no_child_past i past
          ]) in
          let no = w.if-all_off.false in
          cc (yes, no)
    ]))
