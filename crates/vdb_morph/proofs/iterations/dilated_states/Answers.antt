use Rattle.vdb_morph.proofs.Common.{◌≡◌, ◌∙◌, ap, arith, ℕ, Bool, vdb, dilate, iterations, Layout, field_of, topology}
use Rattle.vdb_morph.proofs.IterationLaws.{dilated_more, of_ok}
use Rattle.vdb_morph.proofs.iterations.dilated_states.Goals as goal

pub loop-init : goal.loop-init
loop-init g c =
    of_ok (λ (states : Layout Bool). field_of vdb states ≡ topology (dilate (field_of vdb c.args.tree.now))) c.dilated.result c.in_ok-states.states c.in_ok-states.ensures.value c.dilated.ensures

pub loop-preserved : goal.loop-preserved
loop-preserved g c =
    dilated_more (field_of vdb c.args.tree.now) c.loop.counter (field_of vdb c.loop.states) c.loop.invariant (field_of vdb c.in_ok-states-2.states)
    (of_ok (λ (states : Layout Bool). field_of vdb states ≡ topology (dilate (field_of vdb c.loop.states))) c.dilated-in-loop.result c.in_ok-states-2.states c.in_ok-states-2.ensures.value c.dilated-in-loop.ensures)

pub returns : goal.returns
returns g c = λ some.
    let all : c.loop.counter ≡ c.args.iterations = omega arith in
    c.loop.invariant ∙ ap (λ (n : ℕ). topology (iterations n dilate (field_of vdb c.args.tree.now))) all
