use Rattle.vdb_c.proofs.Common.{subst, sym, IsTrue, int_le, Coord}
use Rattle.vdb_c.proofs.Places.{ordered}
use Rattle.vdb_c.proofs.boxes.voxels.is_wide.Goals as goal

pub gaps-dx-requires : goal.gaps-dx-requires
gaps-dx-requires c =
    let h = ordered c.args.bounds c.min-min.ensures.bounds in
    let low = sym c.min-min.ensures.corner in
    let high = sym c.max.ensures.corner in
    record {
      x = subst (λ (m : Coord). IsTrue (int_le m.x c.max.result.x)) low (subst (λ (m : Coord). IsTrue (int_le c.args.bounds.min.x m.x)) high h.0);
      y = subst (λ (m : Coord). IsTrue (int_le m.y c.max.result.y)) low (subst (λ (m : Coord). IsTrue (int_le c.args.bounds.min.y m.y)) high h.1);
      z = subst (λ (m : Coord). IsTrue (int_le m.z c.max.result.z)) low (subst (λ (m : Coord). IsTrue (int_le c.args.bounds.min.z m.z)) high h.2);
    }
