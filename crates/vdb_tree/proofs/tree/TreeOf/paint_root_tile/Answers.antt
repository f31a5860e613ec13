use Rattle.vdb_tree.proofs.Common.{refl}
use Rattle.vdb_tree.proofs.Tiled.{root_tile_fills, root_tile_lowers, root_tile_sound, root_tile_uppers}
use Rattle.vdb_tree.proofs.SweptTables.{not_known}
use Rattle.vdb_tree.proofs.tree.TreeOf.paint_root_tile.Goals as goal

pub invariant_of-self : goal.invariant_of-self
invariant_of-self g c = rw (c.in-Child.ensures.child _ refl) c.self.invariant

pub invariant_of-self-2 : goal.invariant_of-self-2
invariant_of-self-2 g c = (
  c.self.invariant.0,
  root_tile_sound _ _ c.self.invariant.1 c.args.p _ c.args.cell _ (rw c.key-key.ensures.value at c.in_default.ensures.was)
      (rw c.key-key.ensures.value at (c.in_default.ensures.tile _ refl)) c.in_default.ensures.size c.in_default.ensures.apart,
  not_known,
)

pub returns-clause-fills : goal.returns-clause-fills
returns-clause-fills g c = λ _ _.
    rw (← c.self.view_is)
    (root_tile_fills _ _ c.self.invariant.1 c.args.p _ c.args.cell _ (rw c.key-key.ensures.value at c.in_default.ensures.was)
    (rw c.key-key.ensures.value at (c.in_default.ensures.tile _ refl)) c.in_default.ensures.size c.in_default.ensures.apart)

pub returns-clause-table : goal.returns-clause-table
returns-clause-table g c = λ _ _. rw (← c.self.view_is) (rw c.key-key.ensures.value at (c.in_default.ensures.tile _ refl))

pub returns-clause-uppers : goal.returns-clause-uppers
returns-clause-uppers g c = λ _ _.
    rw (← c.self.view_is)
    (root_tile_uppers _ _ c.self.invariant.1 c.args.p _ c.args.cell _ (rw c.key-key.ensures.value at c.in_default.ensures.was)
    (rw c.key-key.ensures.value at (c.in_default.ensures.tile _ refl)) c.in_default.ensures.size c.in_default.ensures.apart)

pub returns-clause-lowers : goal.returns-clause-lowers
returns-clause-lowers g c = λ _ _.
    rw (← c.self.view_is)
    (root_tile_lowers _ _ c.self.invariant.1 c.args.p _ c.args.cell _ (rw c.key-key.ensures.value at c.in_default.ensures.was)
    (rw c.key-key.ensures.value at (c.in_default.ensures.tile _ refl)) c.in_default.ensures.size c.in_default.ensures.apart)
