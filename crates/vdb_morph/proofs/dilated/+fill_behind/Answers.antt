-- The first face's slab becomes active after those of the other faces.
use Rattle.vdb_morph.proofs.Common.{◌∙◌, ap, refl, sym, Bool, List, vdb, Face, Field, fill, cell_at, field_of, is_behind_any, with_active}
use Rattle.vdb_morph.proofs.Marks.{changed_if_ok}
use Rattle.vdb_morph.proofs.SpreadBoxes.{active, behind_next, behind_skip}
use Rattle.vdb_morph.proofs.dilated.+fill_behind.Goals as goal

pub returns-in-Some-behind : goal.returns-in-Some-behind
returns-in-Some-behind t c = λ ok.
    let old = c.args.states.now in
    let b = c.args.bounds in
    let face = c.in-Some.face.now in
    let rest = c.in-Some.rest.now in
    let slab = c.in-Some-behind.slab in
    changed_if_ok (field_of vdb c.fill_behind.new.states) (fill slab active (field_of vdb c.fill_behind.new.states)) (field_of vdb c.fill.new.tree) c.fill.result ok c.fill.ensures.outcome.0
    ∙ ap (λ (h : Field Bool). fill slab active h) (c.in_ok-fill_behind-in-Some.ensures refl)
    ∙ behind_next old.background (cell_at vdb old) b face rest slab c.in-Some-behind.ensures.there c.requires
    ∙ ap (λ (fs : List Face). with_active (is_behind_any fs b) (field_of vdb old)) (sym c.in-Some.ensures.cases.0)

pub returns-in-None-behind : goal.returns-in-None-behind
returns-in-None-behind t c = λ _.
    let old = c.args.states.now in
    let b = c.args.bounds in
    c.in_ok-fill_behind-in-Some.ensures refl
    ∙ behind_skip old.background (cell_at vdb old) b c.in-Some.face.now c.in-Some.rest.now (c.in-None-behind.ensures.nowhere refl)
    ∙ ap (λ (fs : List Face). with_active (is_behind_any fs b) (field_of vdb old)) (sym c.in-Some.ensures.cases.0)
