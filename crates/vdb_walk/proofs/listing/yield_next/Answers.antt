use Rattle.vdb_walk.proofs.Common.{◌∙◌, arith, None, Option, Some, subst, sym, IfSome, bits_of, field_of, IsListing, Held}
use Rattle.vdb_walk.proofs.InOrder.{first_found}
use Rattle.vdb_walk.proofs.ListingSizes.{run_small}
use Rattle.vdb_walk.proofs.PartSeeks.{found_in_part, listing_after, listing_past}
use Rattle.vdb_walk.proofs.Runs.{follows, not_ahead, step_fits}
use Rattle.vdb_walk.proofs.listing.yield_next.Goals as goal
use Rattle.vdb_walk.proofs.listing.yield_next.Goals.{in-Some+else-is_some, in_default}

pub step-requires : goal.step-requires
step-requires g c =
    let small = g.met.V.Voxel.small in
    let fits = step_fits (bits_of g.row.U g.row.L g.row.F) c.args.tree.now c.in_ok-p.p c.args.walk.now c.args.run.now c.if-run.true c.args.last c.args.part.now c.in_ok-p.was c.requires.run in
    (run_small _ _ small.1 small.0, (c.if-run.true, fits))

pub returns-then-run-clause-next : goal.returns-then-run-clause-next
returns-then-run-clause-next g c =
    let bits = bits_of g.row.U g.row.L g.row.F in
    let t = c.args.tree.now in
    let f = follows bits t c.in_ok-p.p c.args.walk.now c.args.run.now c.if-run.true c.args.last c.args.part.now c.in_ok-p.was c.requires.run c.requires.listing c.step.result c.step.ensures.voxel c.step.ensures.value c.step.new.self c.step.ensures.rest in
    first_found bits (field_of bits t) c.args.walk.now.box c.args.last (Some c.step.result) f.first f.value

pub returns-then-run-clause-some : goal.returns-then-run-clause-some
returns-then-run-clause-some g c =
    let bits = bits_of g.row.U g.row.L g.row.F in
    (follows bits c.args.tree.now c.in_ok-p.p c.args.walk.now c.args.run.now c.if-run.true c.args.last c.args.part.now c.in_ok-p.was c.requires.run c.requires.listing c.step.result c.step.ensures.voxel c.step.ensures.value c.step.new.self c.step.ensures.rest).listing

pub returns-then-run-clause-run : goal.returns-then-run-clause-run
returns-then-run-clause-run g c =
    let bits = bits_of g.row.U g.row.L g.row.F in
    (follows bits c.args.tree.now c.in_ok-p.p c.args.walk.now c.args.run.now c.if-run.true c.args.last c.args.part.now c.in_ok-p.was c.requires.run c.requires.listing c.step.result c.step.ensures.voxel c.step.ensures.value c.step.new.self c.step.ensures.rest).ahead

pub returns-then-is_some-clause-next : goal.returns-then-is_some-clause-next
returns-then-is_some-clause-next g c =
    let bits = bits_of g.row.U g.row.L g.row.F in
    let t = c.args.tree.now in
    let listing = subst (λ (o : Option (Held g.row.V.Denot)). IsListing bits t c.args.last c.args.walk.now o) c.in-Some.is c.requires.listing in
    let first = c.first_held-found.ensures.first in
    first_found bits (field_of bits t) c.args.walk.now.box c.args.last c.first_held-found.result (found_in_part bits t c.args.last c.args.walk.now c.in-Some.held listing c.first_held-found.result (sym c.is_some.ensures ∙ c.if-is_some.true) first) c.first_held-found.ensures.value

pub returns-then-is_some-clause-some : goal.returns-then-is_some-clause-some
returns-then-is_some-clause-some g c =
    let bits = bits_of g.row.U g.row.L g.row.F in
    let t = c.args.tree.now in
    let listing = subst (λ (o : Option (Held g.row.V.Denot)). IsListing bits t c.args.last c.args.walk.now o) c.in-Some.is c.requires.listing in
    let first = c.first_held-found.ensures.first in
    subst (λ (o : Option (Held g.row.V.Denot)). IfSome c.first_held-found.result (λ item. IsListing bits t (Some item.0) c.args.walk.now o)) (sym c.in-Some.is) (listing_after bits t c.args.last c.args.walk.now c.in-Some.held listing c.first_held-found.result first)

pub returns-in-Some-next_found-clause-next : goal.returns-in-Some-next_found-clause-next
returns-in-Some-next_found-clause-next g c =
    let bits = bits_of g.row.U g.row.L g.row.F in
    first_found bits (field_of bits c.args.tree.now) c.args.walk.now.box c.args.last (Some c.in-Some-next_found.found.1) c.in-Some-next_found.ensures.first c.in-Some-next_found.ensures.value

pub returns-in-Some-next_found-clause-some : goal.returns-in-Some-next_found-clause-some
returns-in-Some-next_found-clause-some g c =
    let bits = bits_of g.row.U g.row.L g.row.F in
    listing_past bits c.args.tree.now c.args.last c.next_found.new.walk c.in-Some-next_found.found.0 c.in-Some-next_found.ensures.some c.in-Some-next_found.found.1.0 c.in-Some-next_found.ensures.first.1.0

pub returns-in-None-clause-next : goal.returns-in-None-clause-next
returns-in-None-clause-next g c =
    let bits = bits_of g.row.U g.row.L g.row.F in
    first_found bits (field_of bits c.args.tree.now) c.args.walk.now.box c.args.last None c.in-None.ensures.first tt

pub returns-in-Some-next_found-clause-run : goal.returns-in-Some-next_found-clause-run
returns-in-Some-next_found-clause-run g c = λ some.
    let bits = bits_of g.row.U g.row.L g.row.F in
    let t = c.args.tree.now in
    elim c.match-part.branch [
      | in-Some+else-is_some w ↦ absurd (not_ahead bits t w.first_held-found.result (Some w.in-Some.held) c.match-part.run (sym w.is_some.ensures ∙ w.if-is_some.false) (rw (sym w.run-is) at w.first_held-found.ensures.run) some)
      | in_default w ↦ let none = c.if-run.false in let more = rw w.run-is at some in absurd (omega (arith, none, more))
    ]
