use Rattle.vdb_tree.proofs.Common.{refl, sym, ap, ◌∙◌, Leaf, Child}
use Rattle.vdb_tree.proofs.MadeNodes.{but_elsewhere}
use Rattle.vdb_tree.proofs.Pools.{node_puts}
use Rattle.vdb_tree.proofs.Splits.{capacity_but, capacity_keeps, capacity_sound, with_leaf_but, with_leaf_field, with_leaf_sound}
use Rattle.vdb_tree.proofs.SweptTables.{kept_swept, not_known}
use Rattle.vdb_tree.proofs.tree.TreeOf.add_leaf.Goals as goal

pub invariant_of-self : goal.invariant_of-self
invariant_of-self g c =
    (c.self.invariant.0, capacity_sound _ _ _ refl refl refl refl c.in_err-slot.ensures.err refl c.self.invariant.1, λ known. kept_swept _ _ _ (λ k h. h) (capacity_keeps _ _ _ refl refl refl refl c.in_err-slot.ensures.err refl) (c.self.invariant.2 known))

pub returns-in_err-slot-clause-kept : goal.returns-in_err-slot-clause-kept
returns-in_err-slot-clause-kept g c = λ failed.
    rw (← c.self.view_is) (capacity_keeps _ _ _ refl refl refl refl c.in_err-slot.ensures.err refl)

pub invariant_of-self-2 : goal.invariant_of-self-2
invariant_of-self-2 g c = (
  c.self.invariant.0,
  with_leaf_sound _ _ c.self.invariant.1 c.args.p _ _ _ _ _ _ _ _
      ((rw (← c.self.view_is) at c.requires.node) ∙ ap Child (sym c.held_place-place.ensures.slot)) (rw (← c.self.view_is) at c.requires.tiled)
      c.at_mut.ensures.node (rw c.offset-offset.ensures.value at c.set_child.ensures) (node_puts _ _ _ _ c.at_mut.ensures.node)
      c.in_ok-slot.ensures.vacant (record { here = c.in_ok-slot.ensures.node; others = c.in_ok-slot.ensures.others }),
  not_known,
)

pub returns-clause-field : goal.returns-clause-field
returns-clause-field g c =
    rw (← c.self.view_is, ← c.in_ok-node.ensures.same)
    (with_leaf_field _ _ c.self.invariant.1 c.args.p _ _ _ _ _ _ _ _
    ((rw (← c.self.view_is) at c.requires.node) ∙ ap Child (sym c.held_place-place.ensures.slot)) (rw (← c.self.view_is) at c.requires.tiled)
    c.at_mut.ensures.node (rw c.offset-offset.ensures.value at c.set_child.ensures) (node_puts _ _ _ _ c.at_mut.ensures.node)
    c.in_ok-slot.ensures.vacant (record { here = c.in_ok-slot.ensures.node; others = c.in_ok-slot.ensures.others }))

pub held_place-place-requires : goal.held_place-place-requires
held_place-place-requires g c = c.self.invariant.1.lowers.held c.args.p c.args.lower (rw (← c.self.view_is) at c.requires.node)

pub returns-in_err-slot-clause-elsewhere : goal.returns-in_err-slot-clause-elsewhere
returns-in_err-slot-clause-elsewhere g c =
    rw (← c.self.view_is) (but_elsewhere _ Leaf _ _ c.args.p (capacity_but _ _ _ refl refl refl refl c.in_err-slot.ensures.err refl Leaf c.args.p))

pub returns-clause-elsewhere : goal.returns-clause-elsewhere
returns-clause-elsewhere g c =
    rw (← c.self.view_is)
    (but_elsewhere _ Leaf _ _ c.args.p
    (with_leaf_but _ _ c.self.invariant.1 c.args.p _ _ _ _ _ _ _ _
    ((rw (← c.self.view_is) at c.requires.node) ∙ ap Child (sym c.held_place-place.ensures.slot)) (rw (← c.self.view_is) at c.requires.tiled)
    c.at_mut.ensures.node (rw c.offset-offset.ensures.value at c.set_child.ensures) (node_puts _ _ _ _ c.at_mut.ensures.node)
    c.in_ok-slot.ensures.vacant (record { here = c.in_ok-slot.ensures.node; others = c.in_ok-slot.ensures.others })))
