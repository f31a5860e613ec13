use Rattle.vdb_c.proofs.Common.{◌∙◌, ap, inl, inr, refl, subst, sym, Coord, both, min_inside, change_of_voxel, IsWritten, change_at}
use Rattle.vdb_tree.proofs.Uniform.{cell_exact, exact_by}
use Rattle.vdb_c.proofs.LeafFields.{kept_by, not_unlike}
use Rattle.vdb_c.proofs.Laid.{false_true}
use Rattle.vdb_c.proofs.NextVoxels.{none, up_to_min}
use Rattle.vdb_c.proofs.boxes.leaf_writes.is_kept.Goals as goal

pub voxels-init : goal.voxels-init
voxels-init g c =
    let at_min = c.min-p.ensures.corner in
    record {
      inside = rw at_min (min_inside c.args.part (both _ _ c.min-p.ensures.bounds).0);
      kept = λ q i h. absurd (false_true (none q) refl ((up_to_min c.args.part c.min-p.result at_min).all q i h));
    }

pub voxels-preserved : goal.voxels-preserved
voxels-preserved g c =
    let inv = c.voxels.invariant in
    let make = g.V.GridValue.as_scalar in
    let change = change_of_voxel g.V.Voxel.KIND c.args.bounds c.args.strides.now c.args.values.now c.args.states.now in
    let exact = exact_by g.V.PartialEq.eq g.V.Ord.cmp g.met.V.Ord.matches_eq g.met.V.Voxel.exact in
    let same = cell_exact g.V.PartialEq.eq exact g.met.V.Eq.laws.refl c.applied.result c.args.cell (not_unlike _ (sym c.ne.ensures ∙ c.if-ne.false)) in
    let given = c.in-Some.ensures ∙ ap (change_at g.V.Voxel.KIND c.args.values.now c.args.states.now) c.place-index.ensures in
    let here : IsWritten make (change c.voxels.p) c.args.cell c.args.cell = kept_by make change (change c.voxels.p) c.in-Some.change c.args.cell given (sym c.applied.ensures ∙ same) in
    record {
      inside = c.in-Some-next_voxel.ensures.next.0;
      kept = λ q i h. elim (c.in-Some-next_voxel.ensures.next.2 q i h) [
        | inl k ↦ inv.kept q i k
        | inr e ↦ subst (λ (r : Coord). IsWritten make (change r) c.args.cell c.args.cell) (sym e) here
      ];
    }

pub returns-in-None : goal.returns-in-None
returns-in-None g c = λ _ q i.
    let inv = c.voxels.invariant in
    let make = g.V.GridValue.as_scalar in
    let change = change_of_voxel g.V.Voxel.KIND c.args.bounds c.args.strides.now c.args.values.now c.args.states.now in
    let exact = exact_by g.V.PartialEq.eq g.V.Ord.cmp g.met.V.Ord.matches_eq g.met.V.Voxel.exact in
    let same = cell_exact g.V.PartialEq.eq exact g.met.V.Eq.laws.refl c.applied.result c.args.cell (not_unlike _ (sym c.ne.ensures ∙ c.if-ne.false)) in
    let given = c.in-Some.ensures ∙ ap (change_at g.V.Voxel.KIND c.args.values.now c.args.states.now) c.place-index.ensures in
    let here : IsWritten make (change c.voxels.p) c.args.cell c.args.cell = kept_by make change (change c.voxels.p) c.in-Some.change c.args.cell given (sym c.applied.ensures ∙ same) in
    elim (c.in-None.ensures.next q i) [
      | inl k ↦ inv.kept q i k
      | inr e ↦ subst (λ (r : Coord). IsWritten make (change r) c.args.cell c.args.cell) (sym e) here
    ]
