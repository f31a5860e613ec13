use Rattle.vdb_tree.proofs.Common.{◌≡◌, ◌≤◌, ℕ, arith, sym, ap, ◌∙◌, Child}
use Rattle.vdb_tree.proofs.Pools.{take_puts}
use Rattle.vdb_tree.proofs.Tiled.{root_present, upper_fills, upper_lowers, upper_sound, upper_uppers}
use Rattle.vdb_tree.proofs.SweptTables.{not_known}
use Rattle.vdb_tree.proofs.tree.TreeOf.drop_upper.Goals as goal

at_most : (a b : ℕ) → a ≡ b → a ≤ b
at_most a b e = omega (arith, e)

pub set-requires : goal.set-requires
set-requires g c =
    let had = root_present _ c.args.self.now c.args.p _ c.requires.upper in
    rw (c.key_in-key.ensures.key, c.bits.ensures.value) (rw (← c.self.view_is) at had)

pub invariant_of-self : goal.invariant_of-self
invariant_of-self g c = (
  c.self.invariant.0,
  upper_sound _ _ c.self.invariant.1 c.args.p _ c.args.cell _ _
      ((rw (← c.self.view_is) at c.requires.upper) ∙ ap Child (sym c.held_place-from.ensures.slot))
      (rw (← c.self.view_is) at c.requires.childless)
      (rw (c.key_in-key.ensures.key, c.bits.ensures.value) at c.set.ensures.updates) (at_most _ _ c.set.ensures.size) c.set.ensures.apart (take_puts _ _ _ _ c.take.ensures.node c.take.ensures.after),
  not_known,
)

pub returns-clause-table : goal.returns-clause-table
returns-clause-table g c = rw (← c.self.view_is) (rw (c.key_in-key.ensures.key, c.bits.ensures.value) at c.set.ensures.updates)

pub returns-clause-fills : goal.returns-clause-fills
returns-clause-fills g c =
    rw (← c.self.view_is)
    (upper_fills _ _ c.self.invariant.1 c.args.p _ c.args.cell _ _
    ((rw (← c.self.view_is) at c.requires.upper) ∙ ap Child (sym c.held_place-from.ensures.slot))
    (rw (← c.self.view_is) at c.requires.childless)
    (rw (c.key_in-key.ensures.key, c.bits.ensures.value) at c.set.ensures.updates) (at_most _ _ c.set.ensures.size) c.set.ensures.apart (take_puts _ _ _ _ c.take.ensures.node c.take.ensures.after))

pub returns-clause-uppers : goal.returns-clause-uppers
returns-clause-uppers g c =
    rw (← c.self.view_is)
    (upper_uppers _ _ c.self.invariant.1 c.args.p _ c.args.cell _ _
    ((rw (← c.self.view_is) at c.requires.upper) ∙ ap Child (sym c.held_place-from.ensures.slot))
    (rw (← c.self.view_is) at c.requires.childless)
    (rw (c.key_in-key.ensures.key, c.bits.ensures.value) at c.set.ensures.updates) (at_most _ _ c.set.ensures.size) c.set.ensures.apart (take_puts _ _ _ _ c.take.ensures.node c.take.ensures.after))

pub returns-clause-lowers : goal.returns-clause-lowers
returns-clause-lowers g c =
    rw (← c.self.view_is)
    (upper_lowers _ _ c.self.invariant.1 c.args.p _ c.args.cell _ _
    ((rw (← c.self.view_is) at c.requires.upper) ∙ ap Child (sym c.held_place-from.ensures.slot))
    (rw (← c.self.view_is) at c.requires.childless)
    (rw (c.key_in-key.ensures.key, c.bits.ensures.value) at c.set.ensures.updates) (at_most _ _ c.set.ensures.size) c.set.ensures.apart (take_puts _ _ _ _ c.take.ensures.node c.take.ensures.after))
