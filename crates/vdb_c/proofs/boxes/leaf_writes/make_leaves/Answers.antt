use Rattle.vdb_c.proofs.Common.{◌∙◌, inl, inr, refl, subst, vdb, IsBlockBefore, Leaf, both, min_inside, none_before, change_of_voxel}
use Rattle.vdb_c.proofs.LeafFields.{ready_kept}
use Rattle.vdb_c.proofs.boxes.leaf_writes.make_leaves.Goals as goal

pub leaves-init : goal.leaves-init
leaves-init g c =
    let at_min = c.min-p.ensures.corner in
    record {
      inside = rw at_min (min_inside c.args.bounds (both _ _ c.min-p.ensures.bounds).0);
      field = refl;
      limit = refl;
      ready = λ q i h. absurd (none_before vdb Leaf c.args.bounds q i (subst (IsBlockBefore vdb Leaf q) at_min h));
    }

pub leaves-preserved : goal.leaves-preserved
leaves-preserved g c =
    let inv = c.leaves.invariant in
    let change = change_of_voxel g.V.Voxel.KIND c.args.bounds c.args.strides.now c.args.values.now c.args.states.now in
    record {
      inside = c.in-Some.ensures.next.0;
      field = c.make_leaf.ensures.field ∙ inv.field;
      limit = c.make_leaf.ensures.limit ∙ inv.limit;
      ready = λ q i h. elim (c.in-Some.ensures.next.2 q i h) [
        | inl k ↦ ready_kept g.V.GridValue.as_scalar change _ _ c.make_leaf.ensures.field c.make_leaf.ensures.leaves q (inv.ready q i k)
        | inr e ↦ c.make_leaf.ensures.ready c.if-not-make_leaf.false q (i, e)
      ];
    }

pub returns-in-None-clause-ready : goal.returns-in-None-clause-ready
returns-in-None-clause-ready g c = λ _ q i.
    let inv = c.leaves.invariant in
    let change = change_of_voxel g.V.Voxel.KIND c.args.bounds c.args.strides.now c.args.values.now c.args.states.now in
    elim (c.in-None.ensures.next q i) [
      | inl k ↦ ready_kept g.V.GridValue.as_scalar change _ _ c.make_leaf.ensures.field c.make_leaf.ensures.leaves q (inv.ready q i k)
      | inr e ↦ c.make_leaf.ensures.ready c.if-not-make_leaf.false q (i, e)
    ]
