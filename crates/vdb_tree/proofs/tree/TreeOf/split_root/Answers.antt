use Rattle.vdb_tree.proofs.Common.{refl, Some, key, Upper, Child, bits_of}
use Rattle.vdb_tree.proofs.Splits.{capacity_adds, capacity_but, capacity_keeps, capacity_sound, with_upper_at, with_upper_but, with_upper_keeps, with_upper_adds, with_upper_sound}
use Rattle.vdb_tree.proofs.RootSweeps.{other_key}
use Rattle.vdb_tree.proofs.SweptTables.{kept_swept, updated_held}
use Rattle.vdb_tree.proofs.tree.TreeOf.split_root.Goals as goal

pub invariant_of-self : goal.invariant_of-self
invariant_of-self g c =
    (c.self.invariant.0, capacity_sound _ _ _ refl refl c.in_err-slot.ensures.err refl refl refl c.self.invariant.1, λ known. kept_swept _ _ _ (λ k h. h) (capacity_keeps _ _ _ refl refl c.in_err-slot.ensures.err refl refl refl) (c.self.invariant.2 known))

pub returns-in_err-slot-clause-keeps : goal.returns-in_err-slot-clause-keeps
returns-in_err-slot-clause-keeps g c =
    rw (← c.self.view_is) (capacity_keeps _ _ _ refl refl c.in_err-slot.ensures.err refl refl refl)

pub invariant_of-self-2 : goal.invariant_of-self-2
invariant_of-self-2 g c = (
  c.self.invariant.0,
  with_upper_sound _ _ c.self.invariant.1 c.args.p _ _ _ _ _
      (rw (← c.self.view_is) at c.requires.tiled) (rw c.key-key.ensures.value at c.set.ensures.updates)
      c.in_ok-slot.ensures.vacant c.in_ok-node.ensures (record { here = c.in_ok-slot.ensures.node; others = c.in_ok-slot.ensures.others })
      (rw (← c.self.view_is) at c.requires.entered) c.set.ensures.size c.set.ensures.apart,
  λ known. kept_swept _ _ _ (updated_held _ _ _ _ (rw c.key-key.ensures.value at c.set.ensures.updates) (λ put. rw (← c.self.view_is) at c.requires.entered))
      (with_upper_keeps _ _ c.self.invariant.1 c.args.p _ _ _ _ _
      (rw (← c.self.view_is) at c.requires.tiled) (rw c.key-key.ensures.value at c.set.ensures.updates)
      c.in_ok-slot.ensures.vacant c.in_ok-node.ensures (record { here = c.in_ok-slot.ensures.node; others = c.in_ok-slot.ensures.others }))
      (c.self.invariant.2 known),
)

pub returns-clause-keeps : goal.returns-clause-keeps
returns-clause-keeps g c =
    rw (← c.self.view_is)
    (with_upper_keeps _ _ c.self.invariant.1 c.args.p _ _ _ _ _
    (rw (← c.self.view_is) at c.requires.tiled) (rw c.key-key.ensures.value at c.set.ensures.updates)
    c.in_ok-slot.ensures.vacant c.in_ok-node.ensures (record { here = c.in_ok-slot.ensures.node; others = c.in_ok-slot.ensures.others }))

pub returns-clause-ok : goal.returns-clause-ok
returns-clause-ok g c =
    with_upper_at _ _ c.self.invariant.1 c.args.p _ _ _ _ c.insert_node.new.pool
    (rw (← c.self.view_is) at c.requires.tiled) (rw c.key-key.ensures.value at c.set.ensures.updates)
    c.in_ok-slot.ensures.vacant c.in_ok-node.ensures (record { here = c.in_ok-slot.ensures.node; others = c.in_ok-slot.ensures.others })

pub returns-in_err-slot-clause-adds : goal.returns-in_err-slot-clause-adds
returns-in_err-slot-clause-adds g c =
    rw (← c.self.view_is) (capacity_adds _ _ _ refl refl c.in_err-slot.ensures.err refl refl refl)

pub returns-clause-adds : goal.returns-clause-adds
returns-clause-adds g c =
    rw (← c.self.view_is)
    (with_upper_adds _ _ c.self.invariant.1 c.args.p _ _ _ _ _
    (rw (← c.self.view_is) at c.requires.tiled) (rw c.key-key.ensures.value at c.set.ensures.updates)
    c.in_ok-slot.ensures.vacant c.in_ok-node.ensures (record { here = c.in_ok-slot.ensures.node; others = c.in_ok-slot.ensures.others }))

pub returns-clause-table : goal.returns-clause-table
returns-clause-table g c =
    rw (← c.self.view_is) (λ k d. other_key c.self.inside.root c.set.new.self (key (bits_of g.row.U g.row.L g.row.F) c.args.p) k (Some (Child c.in_ok-slot.slot)) (rw c.key-key.ensures.value at c.set.ensures.updates) d)

pub returns-in_err-slot-clause-but : goal.returns-in_err-slot-clause-but
returns-in_err-slot-clause-but g c =
    rw (← c.self.view_is) (capacity_but _ _ _ refl refl c.in_err-slot.ensures.err refl refl refl Upper c.args.p)

pub returns-clause-but : goal.returns-clause-but
returns-clause-but g c =
    rw (← c.self.view_is)
    (with_upper_but _ _ c.self.invariant.1 c.args.p _ _ _ _ _
    (rw (← c.self.view_is) at c.requires.tiled) (rw c.key-key.ensures.value at c.set.ensures.updates)
    c.in_ok-slot.ensures.vacant c.in_ok-node.ensures (record { here = c.in_ok-slot.ensures.node; others = c.in_ok-slot.ensures.others }))
