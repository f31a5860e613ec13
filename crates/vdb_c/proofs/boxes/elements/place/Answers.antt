use Rattle.vdb_c.proofs.Common.{◌∙◌, ap, subst, sym, IsTrue, int_le, arith, int_gap, Coord}
use Rattle.vdb_c.proofs.Places.{above, parts}
use Rattle.vdb_c.proofs.boxes.elements.place.Goals as goal

pub gaps-dx-requires : goal.gaps-dx-requires
gaps-dx-requires c =
    let p = c.args.p in
    let h = above c.args.bounds c.args.strides.now p c.requires.inside in
    record {
      x = subst (λ (m : Coord). IsTrue (int_le m.x p.x)) (sym c.min.ensures.corner) h.0;
      y = subst (λ (m : Coord). IsTrue (int_le m.y p.y)) (sym c.min.ensures.corner) h.1;
      z = subst (λ (m : Coord). IsTrue (int_le m.z p.z)) (sym c.min.ensures.corner) h.2;
    }

pub overflow_mul-result : goal.overflow_mul-result
overflow_mul-result c =
    let all = parts c.args.bounds c.args.strides.now c.args.p c.requires.inside c.requires.reach c.gaps-dx.result.0 c.gaps-dx.result.1 c.gaps-dx.result.2
    (c.gaps-dx.ensures.x ∙ ap (λ (m : Coord). int_gap m.x c.args.p.x) c.min.ensures.corner)
    (c.gaps-dx.ensures.y ∙ ap (λ (m : Coord). int_gap m.y c.args.p.y) c.min.ensures.corner)
    (c.gaps-dx.ensures.z ∙ ap (λ (m : Coord). int_gap m.z c.args.p.z) c.min.ensures.corner) in
    omega (arith, all.0)

pub overflow_mul-result-2 : goal.overflow_mul-result-2
overflow_mul-result-2 c =
    let all = parts c.args.bounds c.args.strides.now c.args.p c.requires.inside c.requires.reach c.gaps-dx.result.0 c.gaps-dx.result.1 c.gaps-dx.result.2
    (c.gaps-dx.ensures.x ∙ ap (λ (m : Coord). int_gap m.x c.args.p.x) c.min.ensures.corner)
    (c.gaps-dx.ensures.y ∙ ap (λ (m : Coord). int_gap m.y c.args.p.y) c.min.ensures.corner)
    (c.gaps-dx.ensures.z ∙ ap (λ (m : Coord). int_gap m.z c.args.p.z) c.min.ensures.corner) in
    omega (arith, all.1)

pub overflow_mul-result-3 : goal.overflow_mul-result-3
overflow_mul-result-3 c =
    let all = parts c.args.bounds c.args.strides.now c.args.p c.requires.inside c.requires.reach c.gaps-dx.result.0 c.gaps-dx.result.1 c.gaps-dx.result.2
    (c.gaps-dx.ensures.x ∙ ap (λ (m : Coord). int_gap m.x c.args.p.x) c.min.ensures.corner)
    (c.gaps-dx.ensures.y ∙ ap (λ (m : Coord). int_gap m.y c.args.p.y) c.min.ensures.corner)
    (c.gaps-dx.ensures.z ∙ ap (λ (m : Coord). int_gap m.z c.args.p.z) c.min.ensures.corner) in
    omega (arith, all.2)

pub overflow_add-result : goal.overflow_add-result
overflow_add-result c =
    let all = parts c.args.bounds c.args.strides.now c.args.p c.requires.inside c.requires.reach c.gaps-dx.result.0 c.gaps-dx.result.1 c.gaps-dx.result.2
    (c.gaps-dx.ensures.x ∙ ap (λ (m : Coord). int_gap m.x c.args.p.x) c.min.ensures.corner)
    (c.gaps-dx.ensures.y ∙ ap (λ (m : Coord). int_gap m.y c.args.p.y) c.min.ensures.corner)
    (c.gaps-dx.ensures.z ∙ ap (λ (m : Coord). int_gap m.z c.args.p.z) c.min.ensures.corner) in
    omega (arith, all.3)

pub overflow_add-result-2 : goal.overflow_add-result-2
overflow_add-result-2 c =
    let all = parts c.args.bounds c.args.strides.now c.args.p c.requires.inside c.requires.reach c.gaps-dx.result.0 c.gaps-dx.result.1 c.gaps-dx.result.2
    (c.gaps-dx.ensures.x ∙ ap (λ (m : Coord). int_gap m.x c.args.p.x) c.min.ensures.corner)
    (c.gaps-dx.ensures.y ∙ ap (λ (m : Coord). int_gap m.y c.args.p.y) c.min.ensures.corner)
    (c.gaps-dx.ensures.z ∙ ap (λ (m : Coord). int_gap m.z c.args.p.z) c.min.ensures.corner) in
    omega (arith, all.4)

pub returns : goal.returns
returns c =
    let all = parts c.args.bounds c.args.strides.now c.args.p c.requires.inside c.requires.reach c.gaps-dx.result.0 c.gaps-dx.result.1 c.gaps-dx.result.2
    (c.gaps-dx.ensures.x ∙ ap (λ (m : Coord). int_gap m.x c.args.p.x) c.min.ensures.corner)
    (c.gaps-dx.ensures.y ∙ ap (λ (m : Coord). int_gap m.y c.args.p.y) c.min.ensures.corner)
    (c.gaps-dx.ensures.z ∙ ap (λ (m : Coord). int_gap m.z c.args.p.z) c.min.ensures.corner) in
    all.5
