use Rattle.vdb_c.proofs.Common.{◌+◌, ◌∙◌, ℕ, ap, subst, sym, rules, IsTrue, SFits, w32, int_le, int_gap, to_z-of_z, Coord}
use Rattle.vdb_c.proofs.Places.{not_past_z}
use Rattle.vdb_c.proofs.boxes.voxels.row_size.Goals as goal

pub gap-requires : goal.gap-requires
gap-requires c =
    let fits : SFits w32 c.args.p.z = search rules in
    let top : SFits w32 c.max-max.result.z = search rules in
    rw (to_z-of_z w32 c.args.p.z fits, to_z-of_z w32 c.max-max.result.z top)
    (subst (λ (m : Coord). IsTrue (int_le c.args.p.z m.z)) (sym c.max-max.ensures.corner) (not_past_z c.args.bounds c.args.p c.requires))

pub returns-clause-value : goal.returns-clause-value
returns-clause-value c =
    let fits : SFits w32 c.args.p.z = search rules in
    let top : SFits w32 c.max-max.result.z = search rules in
    let size = (rw (to_z-of_z w32 c.args.p.z fits, to_z-of_z w32 c.max-max.result.z top) at c.gap.ensures.value) in
    ap (λ (n : ℕ). n + 1) (size ∙ ap (λ (m : Coord). int_gap c.args.p.z m.z) c.max-max.ensures.corner)
