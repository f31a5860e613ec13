use Rattle.vdb_tree.proofs.Common.{◌*◌, ◌+◌, ◌∙◌, ap, arith, refl, sym, Child, up_le}
use Rattle.vdb_tree.proofs.LeafWrites.{elsewhere, leaf_sound, states_alone, states_field, states_here, whole_after}
use Rattle.vdb_tree.proofs.Sizes.{leaf_small}
use Rattle.vdb_tree.proofs.SweptTables.{not_known}
use Rattle.vdb_tree.proofs.tree.TreeOf.set_leaf_states.Goals as goal

pub set_states-requires : goal.set_states-requires
set_states-requires g c =
    let small = g.met.V.Stored-3.row_small in
    let few = c.self.invariant.0.few_leaf_words in
    (leaf_small _ _ g.row.WF _ few small.1 small.1 small.0, omega (arith, few, up_le 8 (0 + g.row.WF * 8)))

pub invariant_of-self : goal.invariant_of-self
invariant_of-self g c = (c.self.invariant.0, leaf_sound _ _ _ _ _ c.at_mut.ensures.node c.self.invariant.1, not_known)

pub returns-clause-field : goal.returns-clause-field
returns-clause-field g c =
    rw (← c.self.view_is)
    (states_field _ _ _ _ _ c.at_mut.ensures.node c.args.p
    ((rw (← c.self.view_is) at c.requires) ∙ ap Child (sym c.held_place-place.ensures.slot))
    _ c.set_states.ensures.values c.set_states.ensures.states c.self.invariant.1)

pub returns-clause-paths : goal.returns-clause-paths
returns-clause-paths g c = rw (← c.self.view_is) (λ path q h. whole_after _ _ _ _ _ c.at_mut.ensures.node path q h)

pub returns-clause-alone : goal.returns-clause-alone
returns-clause-alone g c =
    rw (← c.self.view_is)
    (states_alone _ _ _ _ _ c.at_mut.ensures.node c.args.p
    ((rw (← c.self.view_is) at c.requires) ∙ ap Child (sym c.held_place-place.ensures.slot))
    _ c.set_states.ensures.values c.set_states.ensures.states)

pub returns-clause-sets : goal.returns-clause-sets
returns-clause-sets g c =
    let child = (rw (← c.self.view_is) at c.requires) ∙ ap Child (sym c.held_place-place.ensures.slot) in
    rw (← c.self.view_is)
    record {
      here = states_here _ _ _ _ _ c.at_mut.ensures.node c.args.p child _ c.set_states.ensures.values c.set_states.ensures.states;
      there = elsewhere _ _ _ _ _ c.at_mut.ensures.node c.args.p child c.self.invariant.1;
      lowers = refl;
    }
