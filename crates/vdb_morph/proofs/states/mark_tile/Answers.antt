-- An active tile stays, and an inactive one becomes a leaf with the marks.
use Rattle.vdb_morph.proofs.Common.{◌∙◌, sym, vdb, cell_at, field_of, with_leaf}
use Rattle.vdb_morph.proofs.Marks.{changed_if_ok, marked_active, marked_inactive}
use Rattle.vdb_morph.proofs.states.mark_tile.Goals as goal

pub returns-then-cell : goal.returns-then-cell
returns-then-cell c = λ _.
    let old = c.args.states.now in
    marked_active vdb c.args.p c.args.marks.now old.background (cell_at vdb old) c.get-cell.result (λ q inside same. c.requires q inside same ∙ sym c.get-cell.ensures.cell) c.if-cell.true

pub returns : goal.returns
returns c = λ ok.
    let old = c.args.states.now in
    let leaf = c.set_states.new.self in
    changed_if_ok (field_of vdb old) (with_leaf vdb c.args.p leaf (field_of vdb old)) (field_of vdb c.write_leaf.new.self) c.write_leaf.result ok c.write_leaf.ensures.outcome.0
    ∙ marked_inactive vdb c.args.p c.args.marks.now old.background (cell_at vdb old) c.get-cell.result (λ q inside same. c.requires q inside same ∙ sym c.get-cell.ensures.cell) c.if-cell.false
    c.in_ok-leaf.leaf leaf c.in_ok-leaf.ensures.cells c.set_states.ensures.values c.set_states.ensures.states
