use Rattle.vdb_tree.proofs.Common.{◌∙◌, ap, refl, sym, Child}
use Rattle.vdb_tree.proofs.LeafWrites.{leaf_field, leaf_sound}
use Rattle.vdb_tree.proofs.Passes.{descent_by}
use Rattle.vdb_tree.proofs.SweptTables.{not_known}
use Rattle.vdb_tree.proofs.tree.TreeOf.copy_leaf.Goals as goal

pub invariant_of-self : goal.invariant_of-self
invariant_of-self g c = (c.self.invariant.0, leaf_sound _ _ _ _ _ c.at_mut.ensures.node c.self.invariant.1, not_known)

pub returns-clause-field : goal.returns-clause-field
returns-clause-field g c =
    rw (← c.self.view_is, ← c.copy_from.ensures)
    (leaf_field _ _ _ _ _ c.at_mut.ensures.node c.args.p
    ((rw (← c.self.view_is) at c.requires) ∙ ap Child (sym c.held_place-place.ensures.slot)) c.self.invariant.1)

pub returns-clause-same : goal.returns-clause-same
returns-clause-same g c = rw (← c.self.view_is) (λ q. descent_by _ _ _ q refl refl refl)
