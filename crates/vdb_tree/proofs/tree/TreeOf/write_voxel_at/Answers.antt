use Rattle.std.proofs.Common.{◌∙◌, ap, not, refl, sym}
use Rattle.vdb_tree.proofs.LeafWrites.{leaf_sound, whole_after, write_alone, write_changes, write_gives}
use Rattle.vdb_tree.proofs.Passes.{descent_by}
use Rattle.vdb_tree.proofs.Blocks.{never}
use Rattle.vdb_tree.proofs.SweptTables.{changed_swept}
use Rattle.vdb_tree.proofs.Uniform.{cell_same, exact_by}
use Rattle.vdb_tree.proofs.tree.TreeOf.write_voxel_at.Goals.{then-self, else-self}
use Rattle.vdb_tree.proofs.tree.TreeOf.write_voxel_at.Goals as goal

pub invariant_of-self : goal.invariant_of-self
invariant_of-self g c =
    let exact = exact_by g.V.PartialEq.eq g.V.Ord.cmp g.met.V.Ord.matches_eq g.met.V.Voxel.exact in (
      c.self.invariant.0,
      leaf_sound _ _ _ _ _ c.at_mut-leaf.ensures.node c.self.invariant.1,
      -- a changed tree is the tuple of its fields, of which `swept` is the sixth
      λ known. elim c.if-self.branch [
        | then-self w ↦
            changed_swept _ _ _ (λ k h. h) c.args.p _
            (write_gives _ _ _ _ _ c.at_mut-leaf.ensures.node c.args.p
            (rw (← c.self.view_is) at c.requires.child)
            _ c.offset-offset.ensures.value c.args.change _ _ c.entry.ensures c.applied-cell.ensures c.set.ensures c.self.invariant.1)
            (λ same. never (w.ne-self-inside.ensures ∙ ap not (cell_same g.V.PartialEq.eq exact g.met.V.Eq.laws.refl _ _ same)) (sym (ap (λ t. t.1.1.1.1.1.0) w.self-inside-is) ∙ known))
            (c.self.invariant.2 w.if-self.true)
        | else-self w ↦ absurd (never (ap (λ t. t.1.1.1.1.1.0) w.self-inside-is ∙ w.if-self.false) known)
      ],
    )

pub returns-clause-changes : goal.returns-clause-changes
returns-clause-changes g c =
    rw (← c.self.view_is)
    (write_changes _ _ _ _ _ c.at_mut-leaf.ensures.node c.args.p
    (rw (← c.self.view_is) at c.requires.child)
    _ c.offset-offset.ensures.value c.args.change _ _ c.entry.ensures c.applied-cell.ensures c.set.ensures c.self.invariant.1)

pub returns-clause-alone : goal.returns-clause-alone
returns-clause-alone g c =
    rw (← c.self.view_is)
    (write_alone _ _ _ _ _ c.at_mut-leaf.ensures.node c.args.p
    (rw (← c.self.view_is) at c.requires.child)
    _ c.offset-offset.ensures.value c.args.change _ _ c.entry.ensures c.applied-cell.ensures c.set.ensures)

pub returns-clause-paths : goal.returns-clause-paths
returns-clause-paths g c = rw (← c.self.view_is) (λ path q h. whole_after _ _ _ _ _ c.at_mut-leaf.ensures.node path q h)

pub returns-clause-same : goal.returns-clause-same
returns-clause-same g c = rw (← c.self.view_is) (λ q. descent_by _ _ _ q refl refl refl)
