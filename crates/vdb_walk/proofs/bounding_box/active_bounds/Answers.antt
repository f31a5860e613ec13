use Rattle.vdb_walk.proofs.Common.{◌≡◌, ap, refl, subst, sym, true, ◌∙◌, None, Some, Box, everywhere, is_inside, Coord, bits_of, field_of, IsFoundTo}
use Rattle.vdb_walk.proofs.Surrounds.{active_bounds, found_first}
use Rattle.vdb_walk.proofs.bounding_box.active_bounds.Goals as goal

pub starts-init : goal.starts-init
starts-init g c =
    let bits = bits_of g.row.U g.row.L g.row.F in
    let at : everywhere.min ≡ c.min.result = sym (c.min.ensures.corner ∙ ap (λ (b : Box). b.min) c.all.ensures) in
    record {
      start = subst (λ (p : Coord). is_inside everywhere p ≡ true) at refl;
      found = subst (λ (p : Coord). IsFoundTo bits (field_of bits c.args.tree.now) (Some p) None) at (found_first bits c.args.tree.now);
    }

pub returns : goal.returns
returns g c = active_bounds (bits_of g.row.U g.row.L g.row.F) c.args.tree.now c.starts.found c.starts.at c.in_default.not-Some c.starts.invariant.found
