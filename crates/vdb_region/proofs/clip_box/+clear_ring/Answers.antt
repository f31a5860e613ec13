use Rattle.vdb_region.proofs.Common.{◌∙◌, ap, sym, List, vdb, Face, Field, fill, off, cell_at, field_of, clear, inner, outer}
use Rattle.vdb_region.proofs.Clearing.{clear_next, clear_none, clear_skip}
use Rattle.vdb_region.proofs.clip_box.+clear_ring.Goals as goal

pub returns-in-None-clause-field : goal.returns-in-None-clause-field
returns-in-None-clause-field g t c =
    let old = c.args.tree.now in
    clear_none old.background (cell_at vdb old) (outer vdb c.args.bounds c.args.ring) (inner vdb c.args.bounds c.args.ring) c.args.faces.now c.in-None.ensures.cases

pub returns-in-Some-split_side-clause-field : goal.returns-in-Some-split_side-clause-field
returns-in-Some-split_side-clause-field g t c =
    let old = c.args.tree.now in
    let f : Field g.row.V.Denot = field_of vdb old in
    let out = outer vdb c.args.bounds c.args.ring in
    let inn = inner vdb c.args.bounds c.args.ring in
    let face = c.in-Some.face.now in
    let rest = c.in-Some.rest.now in
    let side = c.in-Some-split_side.side in
    let same = c.background.ensures ∙ ap (λ (h : Field g.row.V.Denot). h.background) c.clear_ring.ensures.field in
    c.paint.ensures.field
    ∙ ap (λ (h : Field g.row.V.Denot). fill side (off c.background.result) h) c.clear_ring.ensures.field
    ∙ ap (λ (v : g.row.V.Denot). fill side (off v) (clear out inn rest f)) same
    ∙ clear_next old.background (cell_at vdb old) out inn face rest side c.in-Some-split_side.ensures.some
    ∙ ap (λ (fs : List Face). clear out inn fs f) (sym c.in-Some.ensures.cases.0)

pub returns-in-None-split_side-clause-field : goal.returns-in-None-split_side-clause-field
returns-in-None-split_side-clause-field g t c =
    let old = c.args.tree.now in
    let out = outer vdb c.args.bounds c.args.ring in
    let inn = inner vdb c.args.bounds c.args.ring in
    c.clear_ring.ensures.field
    ∙ clear_skip old.background (cell_at vdb old) out inn c.in-Some.face.now c.in-Some.rest.now c.in-None-split_side.ensures.none
    ∙ ap (λ (fs : List Face). clear out inn fs (field_of vdb old)) (sym c.in-Some.ensures.cases.0)
