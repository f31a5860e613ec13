use Rattle.vdb_region.proofs.Common.{◌∙◌, ◌≤◌, ap, arith, ℕ, vdb, faces, everywhere, Leaf, Lower, Upper, Field, clip, off, cell_at, field_of, roots, clear, hull}
use Rattle.vdb_tree.proofs.Uniform.{exact_by}
use Rattle.vdb_region.proofs.Clearing.{clear_all, clip_within}
use Rattle.vdb_region.proofs.clip_box.clip.Goals as goal

least : (a b c : ℕ) → a ≤ b → b ≤ c → a ≤ c
least a b c h k = omega (arith, h, k)

pub returns-in-Err-clause-outcome : goal.returns-in-Err-clause-outcome
returns-in-Err-clause-outcome g c =
    let old = c.args.tree.now in
    let eq = g.V.PartialEq.eq in
    let exact = exact_by eq g.V.Ord.cmp g.met.V.Ord.matches_eq g.met.V.Voxel.exact in
    let few = least (roots eq vdb (clip c.args.bounds (field_of vdb old))) (roots eq vdb (field_of vdb old)) old.limit
    (clip_within eq exact g.met.V.Eq.laws.refl vdb c.args.bounds old.background (cell_at vdb old)) (rw c.limit.ensures.value at c.limit.ensures.kept) in
    let memory = c.in-Err.ensures.background_cell (ap off c.background.ensures) in
    rw memory (c.prune.ensures.field ∙ c.in-Err.ensures.field, few)

pub returns-in-Ok-clause-outcome : goal.returns-in-Ok-clause-outcome
returns-in-Ok-clause-outcome g c =
    let old = c.args.tree.now in
    let b = c.args.bounds in
    let eq = g.V.PartialEq.eq in
    let exact = exact_by eq g.V.Ord.cmp g.met.V.Ord.matches_eq g.met.V.Voxel.exact in
    let few = least (roots eq vdb (clip b (field_of vdb old))) (roots eq vdb (field_of vdb old)) old.limit
    (clip_within eq exact g.met.V.Eq.laws.refl vdb b old.background (cell_at vdb old)) (rw c.limit.ensures.value at c.limit.ensures.kept) in
    let around = c.clear_ring.ensures.field ∙ ap (λ (h : Field g.row.V.Denot). clear everywhere (hull vdb Upper b) faces h) c.in-Ok.ensures.field in
    let roots_left = c.clear_ring-in-Ok.ensures.field ∙ ap (λ (h : Field g.row.V.Denot). clear (hull vdb Upper b) (hull vdb Lower b) faces h) around in
    let lowers_left = c.clear_ring-in-Ok-2.ensures.field ∙ ap (λ (h : Field g.row.V.Denot). clear (hull vdb Lower b) (hull vdb Leaf b) faces h) roots_left in
    let all = c.clear_ring-in-Ok-3.ensures.field ∙ ap (λ (h : Field g.row.V.Denot). clear (hull vdb Leaf b) b faces h) lowers_left in
    (all ∙ clear_all old.background (cell_at vdb old) vdb b, few)
