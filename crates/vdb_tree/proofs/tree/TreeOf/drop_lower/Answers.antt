use Rattle.vdb_tree.proofs.Common.{sym, ap, ◌∙◌, Child}
use Rattle.vdb_tree.proofs.Pools.{node_puts, take_puts}
use Rattle.vdb_tree.proofs.Tiled.{lower_fills, lower_uppers, lower_lowers, lower_sound}
use Rattle.vdb_tree.proofs.SweptTables.{not_known}
use Rattle.vdb_tree.proofs.tree.TreeOf.drop_lower.Goals as goal

pub invariant_of-self : goal.invariant_of-self
invariant_of-self g c = (
  c.self.invariant.0,
  lower_sound _ _ c.self.invariant.1 c.args.p _ _ c.args.cell _ _ _ _
      ((rw (← c.self.view_is) at c.requires.upper) ∙ ap Child (sym c.held_place-place.ensures.slot))
      ((rw (← c.self.view_is) at c.requires.lower) ∙ ap Child (sym c.held_place-from.ensures.slot))
      (rw (← c.self.view_is) at c.requires.childless)
      c.at_mut.ensures.node (rw c.offset-offset.ensures.value at c.set_tile.ensures) (node_puts _ _ _ _ c.at_mut.ensures.node) (take_puts _ _ _ _ c.take.ensures.node c.take.ensures.after),
  not_known,
)

pub returns-clause-fills : goal.returns-clause-fills
returns-clause-fills g c =
    rw (← c.self.view_is)
    (lower_fills _ _ c.self.invariant.1 c.args.p _ _ c.args.cell _ _ _ _
    ((rw (← c.self.view_is) at c.requires.upper) ∙ ap Child (sym c.held_place-place.ensures.slot))
    ((rw (← c.self.view_is) at c.requires.lower) ∙ ap Child (sym c.held_place-from.ensures.slot))
    (rw (← c.self.view_is) at c.requires.childless)
    c.at_mut.ensures.node (rw c.offset-offset.ensures.value at c.set_tile.ensures) (node_puts _ _ _ _ c.at_mut.ensures.node) (take_puts _ _ _ _ c.take.ensures.node c.take.ensures.after))

pub returns-clause-uppers : goal.returns-clause-uppers
returns-clause-uppers g c =
    rw (← c.self.view_is)
    (lower_uppers _ _ c.self.invariant.1 c.args.p _ _ c.args.cell _ _ _ _
    ((rw (← c.self.view_is) at c.requires.upper) ∙ ap Child (sym c.held_place-place.ensures.slot))
    ((rw (← c.self.view_is) at c.requires.lower) ∙ ap Child (sym c.held_place-from.ensures.slot))
    (rw (← c.self.view_is) at c.requires.childless)
    c.at_mut.ensures.node (rw c.offset-offset.ensures.value at c.set_tile.ensures) (node_puts _ _ _ _ c.at_mut.ensures.node) (take_puts _ _ _ _ c.take.ensures.node c.take.ensures.after))

pub returns-clause-lowers : goal.returns-clause-lowers
returns-clause-lowers g c =
    rw (← c.self.view_is)
    (lower_lowers _ _ c.self.invariant.1 c.args.p _ _ c.args.cell _ _ _ _
    ((rw (← c.self.view_is) at c.requires.upper) ∙ ap Child (sym c.held_place-place.ensures.slot))
    ((rw (← c.self.view_is) at c.requires.lower) ∙ ap Child (sym c.held_place-from.ensures.slot))
    (rw (← c.self.view_is) at c.requires.childless)
    c.at_mut.ensures.node (rw c.offset-offset.ensures.value at c.set_tile.ensures) (node_puts _ _ _ _ c.at_mut.ensures.node) (take_puts _ _ _ _ c.take.ensures.node c.take.ensures.after))
