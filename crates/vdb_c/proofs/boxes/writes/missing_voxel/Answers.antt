use Rattle.vdb_c.proofs.Common.{◌≡◌, inl, inr, sym, ap, ◌∙◌, subst, not, IsTrue, arith, IsSome, Coord, both, min_inside, Kind, change_of_voxel, place, change_at}
use Rattle.vdb_c.proofs.NextVoxels.{none, up_to_min}
use Rattle.vdb_c.proofs.ElementWrites.{any_number, any_state}
use Rattle.vdb_c.proofs.Places.{max_inside, place_at_most}
use Rattle.vdb_c.proofs.boxes.writes.missing_voxel.Goals as goal

pub place-last-requires-clause-inside : goal.place-last-requires-clause-inside
place-last-requires-clause-inside c = rw c.max.ensures.corner (max_inside c.args.bounds c.max.ensures.bounds)

pub voxels-init : goal.voxels-init
voxels-init c =
    let at_min = c.min-p.ensures.corner in
    record {
      inside = rw at_min (min_inside c.args.bounds (both _ _ c.min-p.ensures.bounds).0);
      given = λ q i h. let never : IsTrue (none q) = (up_to_min c.args.bounds c.min-p.result at_min).all q i h in absurd cc;
    }

pub voxels-preserved : goal.voxels-preserved
voxels-preserved c =
    let inv = c.voxels.invariant in
    let all = change_at c.args.kind c.args.values.now c.args.states.now in
    let here : IsSome (change_of_voxel c.args.kind c.args.bounds c.args.strides.now c.args.values.now c.args.states.now c.voxels.p) = subst IsSome (c.change_at.ensures.write ∙ ap all c.place-index.ensures) (c.is_none.ensures ∙ ap not c.if-is_none.false) in
    record {
      inside = c.in-Some.ensures.next.0;
      given = λ q i h. elim (c.in-Some.ensures.next.2 q i h) [
        | inl k ↦ inv.given q i k
        | inr e ↦ subst (λ (r : Coord). IsSome (change_of_voxel c.args.kind c.args.bounds c.args.strides.now c.args.values.now c.args.states.now r)) (sym e) here
      ];
    }

pub returns-in-None-clause-none : goal.returns-in-None-clause-none
returns-in-None-clause-none c = λ _ q i.
    let inv = c.voxels.invariant in
    let all = change_at c.args.kind c.args.values.now c.args.states.now in
    let here : IsSome (change_of_voxel c.args.kind c.args.bounds c.args.strides.now c.args.values.now c.args.states.now c.voxels.p) = subst IsSome (c.change_at.ensures.write ∙ ap all c.place-index.ensures) (c.is_none.ensures ∙ ap not c.if-is_none.false) in
    elim (c.in-None.ensures.next q i) [
      | inl k ↦ inv.given q i k
      | inr e ↦ subst (λ (r : Coord). IsSome (change_of_voxel c.args.kind c.args.bounds c.args.strides.now c.args.values.now c.args.states.now r)) (sym e) here
    ]

pub returns-then-last-states-clause-none : goal.returns-then-last-states-clause-none
returns-then-last-states-clause-none c = λ _ q i.
    let b = c.args.bounds in
    let s = c.args.strides.now in
    let values = c.args.values.now in
    let states = c.args.states.now in
    let last : c.place-last.result ≡ place b s b.max = c.place-last.ensures ∙ ap (place b s) c.max.ensures.corner in
    let most = place_at_most b s q i in
    let kind = c.has_all_numbers.ensures c.if-has_all_numbers.true in
    subst (λ (k : Kind). IsSome (change_at k values states (place b s q))) (sym kind) (elim c.if-last-states.either [
      | inl l ↦ any_number values states (place b s q) (omega (arith, last, most, l))
      | inr l ↦ any_state values states (place b s q) (omega (arith, last, most, l))
    ])
