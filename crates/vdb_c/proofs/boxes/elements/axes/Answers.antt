use Rattle.vdb_c.proofs.Common.{◌∙◌, ℕ, ap, subst, sym, IsTrue, int_le, int_gap, Coord}
use Rattle.vdb_c.proofs.Places.{ordered}
use Rattle.vdb_c.proofs.boxes.elements.axes.Goals as goal

pub gaps-dx-requires : goal.gaps-dx-requires
gaps-dx-requires c =
    let h = ordered c.args.bounds c.min-min.ensures.bounds in
    let low = sym c.min-min.ensures.corner in
    let high = sym c.max.ensures.corner in
    record {
      x = subst (λ (m : Coord). IsTrue (int_le m.x c.max.result.x)) low (subst (λ (m : Coord). IsTrue (int_le c.args.bounds.min.x m.x)) high h.0);
      y = subst (λ (m : Coord). IsTrue (int_le m.y c.max.result.y)) low (subst (λ (m : Coord). IsTrue (int_le c.args.bounds.min.y m.y)) high h.1);
      z = subst (λ (m : Coord). IsTrue (int_le m.z c.max.result.z)) low (subst (λ (m : Coord). IsTrue (int_le c.args.bounds.min.z m.z)) high h.2);
    }

pub returns-clause-x : goal.returns-clause-x
returns-clause-x c =
    ap (λ (n : ℕ). record { gap = n; stride = c.args.strides.now.x }) (c.gaps-dx.ensures.x ∙ ap (λ (m : Coord). int_gap m.x c.max.result.x) c.min-min.ensures.corner ∙ ap (λ (m : Coord). int_gap c.args.bounds.min.x m.x) c.max.ensures.corner)

pub returns-clause-y : goal.returns-clause-y
returns-clause-y c =
    ap (λ (n : ℕ). record { gap = n; stride = c.args.strides.now.y }) (c.gaps-dx.ensures.y ∙ ap (λ (m : Coord). int_gap m.y c.max.result.y) c.min-min.ensures.corner ∙ ap (λ (m : Coord). int_gap c.args.bounds.min.y m.y) c.max.ensures.corner)

pub returns-clause-z : goal.returns-clause-z
returns-clause-z c =
    ap (λ (n : ℕ). record { gap = n; stride = c.args.strides.now.z }) (c.gaps-dx.ensures.z ∙ ap (λ (m : Coord). int_gap m.z c.max.result.z) c.min-min.ensures.corner ∙ ap (λ (m : Coord). int_gap c.args.bounds.min.z m.z) c.max.ensures.corner)
