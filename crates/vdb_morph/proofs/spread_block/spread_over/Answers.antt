-- The voxels over a face, by the mask of the block behind the opposite face.
use Rattle.vdb_morph.proofs.Common.{ap, ◌∙◌, refl, sym, fun_ext, vdb, cell_at, field_of, with_active}
use Rattle.vdb_morph.proofs.Activating.{active_nowhere}
use Rattle.vdb_morph.proofs.Spreads.{over_beyond, over_is}
use Rattle.vdb_morph.proofs.spread_block.spread_over.Goals as goal

pub returns-in-Some : goal.returns-in-Some
returns-in-Some c = λ ok.
    let there = rw c.opposite.ensures at c.in-Some.ensures.there in
    c.mark.ensures ok
    ∙ ap (λ t. with_active t (field_of vdb c.args.states.now)) (fun_ext (over_is vdb c.args.p c.args.marks.now c.off.result c.beside-over.result c.args.face c.off.ensures c.beside-over.ensures c.in-Some.r there))

pub returns-in-None : goal.returns-in-None
returns-in-None c = λ _.
    let t = c.args.states.now in
    let out = rw c.opposite.ensures at (c.in-None.ensures.nowhere refl) in
    sym (active_nowhere t.background (cell_at vdb t) _
    (over_beyond vdb c.args.p c.args.marks.now c.off.result c.beside-over.result c.args.face c.off.ensures c.beside-over.ensures out))
