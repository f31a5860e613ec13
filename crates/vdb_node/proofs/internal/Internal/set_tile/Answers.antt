use Rattle.vdb_node.proofs.Common.{◌∙◌, arith, refl, entry_of, entry_count}
use Rattle.vdb_node.proofs.Entries.{entry_of-tile, SetsEntry-listed}
use Rattle.vdb_node.proofs.internal.Internal.set_tile.Goals as goal

pub returns : goal.returns
returns g c =
    rw (← c.self.view_is)
    (SetsEntry-listed (entry_of g.V.Stored.slot_of c.self.inside.children c.self.inside.states (g.V.Stored.value_in c.self.inside.values) c.self.inside.slots.items)
    (entry_of g.V.Stored.slot_of c.clear.new.self c.put.new.mask (g.V.Stored.value_in c.set_value.new.row) c.self.inside.slots.items) (entry_count g.row.LOG2) c.args.i _
    c.requires
    (entry_of-tile g.V.Stored.slot_of c.clear.new.self c.put.new.mask (g.V.Stored.value_in c.set_value.new.row) c.self.inside.slots.items c.args.i c.clear.ensures.here
    ∙ rw (c.set_value.ensures.here, c.put.ensures.here) refl)
    (λ j other. rw (c.clear.ensures.others j other, c.set_value.ensures.others j other, c.put.ensures.others j other) refl))

pub invariant_of-self : goal.invariant_of-self
invariant_of-self g c =
    record {
      few_bits = c.self.invariant.few_bits;
      few_words = c.self.invariant.few_words;
      mask_capacity = c.self.invariant.mask_capacity;
      row_capacity = omega (arith, c.self.invariant.row_capacity, c.set_value.ensures.capacity);
      numbers_capacity = c.self.invariant.numbers_capacity;
      no_child_past = λ j past.
          c.clear.ensures.others j (λ same. omega (arith, past, same, c.requires)) ∙ c.self.invariant.no_child_past j past;
      no_state_past = λ j past.
          c.put.ensures.others j (λ same. omega (arith, past, same, c.requires)) ∙ c.self.invariant.no_state_past j past;
    }
