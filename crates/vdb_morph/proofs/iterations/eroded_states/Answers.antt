use Rattle.vdb_morph.proofs.Common.{◌≡◌, ◌∙◌, ap, arith, ℕ, Bool, vdb, erode, iterations, Layout, field_of, topology}
use Rattle.vdb_morph.proofs.IterationLaws.{eroded_more, of_ok}
use Rattle.vdb_morph.proofs.iterations.eroded_states.Goals as goal

pub loop-init : goal.loop-init
loop-init g c =
    of_ok (λ (states : Layout Bool). field_of vdb states ≡ topology (erode (field_of vdb c.args.tree.now))) c.eroded.result c.in_ok-states.states c.in_ok-states.ensures.value c.eroded.ensures

pub loop-preserved : goal.loop-preserved
loop-preserved g c =
    eroded_more (field_of vdb c.args.tree.now) c.loop.counter (field_of vdb c.loop.states) c.loop.invariant (field_of vdb c.in_ok-states-2.states)
    (of_ok (λ (states : Layout Bool). field_of vdb states ≡ topology (erode (field_of vdb c.loop.states))) c.eroded-in-loop.result c.in_ok-states-2.states c.in_ok-states-2.ensures.value c.eroded-in-loop.ensures)

pub returns : goal.returns
returns g c = λ some.
    let all : c.loop.counter ≡ c.args.iterations = omega arith in
    c.loop.invariant ∙ ap (λ (n : ℕ). topology (iterations n erode (field_of vdb c.args.tree.now))) all
