-- The block itself, and then each face.
use Rattle.vdb_morph.proofs.Common.{◌≡◌, ap, ◌∙◌, refl, sym, ℕ, take, arith, rules, list_any, vdb, faces, MinusX, fits_everywhere, cell_at, field_of, is_over, with_active}
use Rattle.vdb_morph.proofs.Activating.{active_further, active_nowhere}
use Rattle.vdb_morph.proofs.Crossings.{vdb_bits}
use Rattle.vdb_morph.proofs.Spreads.{words_spread}
use Rattle.vdb_morph.proofs.spread_block.spread_block.Goals as goal

pub loop-face-init : goal.loop-face-init
loop-face-init c =
    let t = c.mark.new.states in
    sym (active_nowhere t.background (cell_at vdb t) _ (λ q _. refl))

pub loop-face-preserved : goal.loop-face-preserved
loop-face-preserved c =
    c.in_ok-spread_over.ensures refl
    ∙ ap (with_active (is_over vdb c.args.p c.args.marks.now _)) c.loop-face.invariant
    ∙ active_further (field_of vdb c.mark.new.states) (is_over vdb c.args.p c.args.marks.now) c.loop-face.face-index MinusX c.loop-face-test.true

pub returns : goal.returns
returns c = λ _.
    let all : c.loop-face.face-index ≡ 6 = omega arith in
    c.loop-face.invariant
    ∙ ap (λ (n : ℕ). with_active (λ q. list_any (λ face. is_over vdb c.args.p c.args.marks.now face q) (take n faces)) (field_of vdb c.mark.new.states)) all
    ∙ ap (with_active (λ q. list_any (λ face. is_over vdb c.args.p c.args.marks.now face q) faces)) (c.in_ok-mark.ensures refl)
    ∙ words_spread vdb c.args.p c.args.marks.now c.beside_any.result c.beside_any.ensures (field_of vdb c.args.states.now) vdb_bits
    (fits_everywhere c.args.p (search rules) (search rules) (search rules))
