use Rattle.vdb_tree.proofs.Common.{refl, sym, ap, ◌∙◌, Leaf, Child}
use Rattle.vdb_tree.proofs.Pools.{node_puts}
use Rattle.vdb_tree.proofs.Splits.{capacity_adds, capacity_but, capacity_keeps, capacity_sound, with_leaf_at, with_leaf_but, with_leaf_keeps, with_leaf_adds, with_leaf_sound}
use Rattle.vdb_tree.proofs.SweptTables.{kept_swept}
use Rattle.vdb_tree.proofs.tree.TreeOf.split_lower.Goals as goal

pub invariant_of-self : goal.invariant_of-self
invariant_of-self g c =
    (c.self.invariant.0, capacity_sound _ _ _ refl refl refl refl c.in_err-slot.ensures.err refl c.self.invariant.1, λ known. kept_swept _ _ _ (λ k h. h) (capacity_keeps _ _ _ refl refl refl refl c.in_err-slot.ensures.err refl) (c.self.invariant.2 known))

pub returns-in_err-slot-clause-keeps : goal.returns-in_err-slot-clause-keeps
returns-in_err-slot-clause-keeps g c =
    rw (← c.self.view_is) (capacity_keeps _ _ _ refl refl refl refl c.in_err-slot.ensures.err refl)

pub invariant_of-self-2 : goal.invariant_of-self-2
invariant_of-self-2 g c = (
  c.self.invariant.0,
  with_leaf_sound _ _ c.self.invariant.1 c.args.p _ _ _ _ _ _ _ _
      ((rw (← c.self.view_is) at c.requires.node) ∙ ap Child (sym c.held_place-place.ensures.slot)) (rw (← c.self.view_is) at c.requires.tiled)
      c.at_mut.ensures.node (rw c.offset-offset.ensures.value at c.set_child.ensures) (node_puts _ _ _ _ c.at_mut.ensures.node)
      c.in_ok-slot.ensures.vacant (record { here = c.in_ok-slot.ensures.node; others = c.in_ok-slot.ensures.others }),
  λ known. kept_swept _ _ _ (λ k h. h)
      (with_leaf_keeps _ _ c.self.invariant.1 c.args.p _ _ _ _ _ _ _ _
      ((rw (← c.self.view_is) at c.requires.node) ∙ ap Child (sym c.held_place-place.ensures.slot)) (rw (← c.self.view_is) at c.requires.tiled)
      c.at_mut.ensures.node (rw c.offset-offset.ensures.value at c.set_child.ensures) (node_puts _ _ _ _ c.at_mut.ensures.node)
      c.in_ok-slot.ensures.vacant (record { here = c.in_ok-slot.ensures.node; others = c.in_ok-slot.ensures.others }) c.in_ok-node.ensures.cells)
      (c.self.invariant.2 known),
)

pub returns-clause-keeps : goal.returns-clause-keeps
returns-clause-keeps g c =
    rw (← c.self.view_is)
    (with_leaf_keeps _ _ c.self.invariant.1 c.args.p _ _ _ _ _ _ _ _
    ((rw (← c.self.view_is) at c.requires.node) ∙ ap Child (sym c.held_place-place.ensures.slot)) (rw (← c.self.view_is) at c.requires.tiled)
    c.at_mut.ensures.node (rw c.offset-offset.ensures.value at c.set_child.ensures) (node_puts _ _ _ _ c.at_mut.ensures.node)
    c.in_ok-slot.ensures.vacant (record { here = c.in_ok-slot.ensures.node; others = c.in_ok-slot.ensures.others }) c.in_ok-node.ensures.cells)

pub returns-clause-ok : goal.returns-clause-ok
returns-clause-ok g c =
    with_leaf_at _ _ c.self.invariant.1 c.args.p _ _ _ _ _ _ _ c.insert_node.new.pool
    ((rw (← c.self.view_is) at c.requires.node) ∙ ap Child (sym c.held_place-place.ensures.slot)) (rw (← c.self.view_is) at c.requires.tiled)
    c.at_mut.ensures.node (rw c.offset-offset.ensures.value at c.set_child.ensures) (node_puts _ _ _ _ c.at_mut.ensures.node)
    c.in_ok-slot.ensures.vacant (record { here = c.in_ok-slot.ensures.node; others = c.in_ok-slot.ensures.others })

pub held_place-place-requires : goal.held_place-place-requires
held_place-place-requires g c = c.self.invariant.1.lowers.held c.args.p c.args.lower (rw (← c.self.view_is) at c.requires.node)

pub returns-in_err-slot-clause-adds : goal.returns-in_err-slot-clause-adds
returns-in_err-slot-clause-adds g c =
    rw (← c.self.view_is) (capacity_adds _ _ _ refl refl refl refl c.in_err-slot.ensures.err refl)

pub returns-clause-adds : goal.returns-clause-adds
returns-clause-adds g c =
    rw (← c.self.view_is)
    (with_leaf_adds _ _ c.self.invariant.1 c.args.p _ _ _ _ _ _ _ _
    ((rw (← c.self.view_is) at c.requires.node) ∙ ap Child (sym c.held_place-place.ensures.slot)) (rw (← c.self.view_is) at c.requires.tiled)
    c.at_mut.ensures.node (rw c.offset-offset.ensures.value at c.set_child.ensures) (node_puts _ _ _ _ c.at_mut.ensures.node)
    c.in_ok-slot.ensures.vacant (record { here = c.in_ok-slot.ensures.node; others = c.in_ok-slot.ensures.others }))

pub returns-in_err-slot-clause-but : goal.returns-in_err-slot-clause-but
returns-in_err-slot-clause-but g c =
    rw (← c.self.view_is) (capacity_but _ _ _ refl refl refl refl c.in_err-slot.ensures.err refl Leaf c.args.p)

pub returns-clause-but : goal.returns-clause-but
returns-clause-but g c =
    rw (← c.self.view_is)
    (with_leaf_but _ _ c.self.invariant.1 c.args.p _ _ _ _ _ _ _ _
    ((rw (← c.self.view_is) at c.requires.node) ∙ ap Child (sym c.held_place-place.ensures.slot)) (rw (← c.self.view_is) at c.requires.tiled)
    c.at_mut.ensures.node (rw c.offset-offset.ensures.value at c.set_child.ensures) (node_puts _ _ _ _ c.at_mut.ensures.node)
    c.in_ok-slot.ensures.vacant (record { here = c.in_ok-slot.ensures.node; others = c.in_ok-slot.ensures.others }))
