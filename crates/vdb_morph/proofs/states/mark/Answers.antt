-- The marks join the states of a leaf, unless all are on before.
use Rattle.vdb_morph.proofs.Common.{◌∙◌, ◌||◌, ◌&&◌, Bool, List, ap, not, sym, vdb, is_on, cell_at}
use Rattle.std.proofs.Common.{is_some}
use Rattle.vdb_morph.proofs.Marks.{marked_before, marked_leaf}
use Rattle.vdb_morph.proofs.states.mark.Goals as goal

pub returns-then-all_off-2 : goal.returns-then-all_off-2
returns-then-all_off-2 c = λ _.
    let old = c.args.states.now in
    let marks = c.args.marks.now in
    let leaf = c.in-Some.leaf.now in
    let off = c.all_off-in-Some.ensures.0 c.if-all_off-2.true in
    marked_before vdb c.args.p marks old.background (cell_at vdb old) leaf c.in-Some.ensures.leaf
    (λ i. ap (λ (m : List Bool). is_on m i && not (is_on leaf.states i)) (sym c.copied-added.ensures.same) ∙ ap (λ (m : List Bool). is_on c.copied-added.result i && not (is_on m i)) (sym c.states.ensures.same) ∙ sym (c.minus.ensures i) ∙ off i)

pub returns-else-all_off-2 : goal.returns-else-all_off-2
returns-else-all_off-2 c = λ _.
    let old = c.args.states.now in
    let marks = c.args.marks.now in
    let held = c.copied-joined.ensures.same ∙ c.states-in-Some.ensures.same in
    c.set_states.ensures.field (c.set_states.ensures.answer ∙ sym c.leaf.ensures.there ∙ ap is_some c.in-Some.is)
    ∙ marked_leaf vdb c.args.p marks old.background (cell_at vdb old) c.in-Some.leaf.now c.union.new.self c.in-Some.ensures.leaf
    (λ i. c.union.ensures i ∙ ap (λ (m : List Bool). is_on m i || is_on marks i) held)
