use Rattle.vdb_scene.proofs.Common.{◌≡◌, ◌∙◌, arith, false, inl, inr, subst, sym, vdb, Leaf, as_field_of, write, written, cell_at, field_of, IsOutcome, as_field_of_constant, as_outcome_of_write, scalar_eq, write_takes_memory}
use Rattle.vdb_coord.specs.Blocks.{block_around}
use Rattle.vdb_tree.proofs.AsFieldOf.{as_field_of_stands}
use Rattle.vdb_tree.proofs.Uniform.{cell_exact, exact_by}
use Rattle.vdb_scene.proofs.Writing.{no_memory}
use Rattle.vdb_scene.proofs.grid_tree.write.Goals as goal

pub returns-in-Some-clause-outcome : goal.returns-in-Some-clause-outcome
returns-in-Some-clause-outcome g c =
    let make = g.V.GridValue.as_scalar in
    let old = field_of vdb c.args.grid.now.tree in
    let new = field_of vdb c.write_by.new.self.tree in
    subst (λ w. IsOutcome scalar_eq vdb c.args.grid.now.tree.limit (as_field_of make old) (write c.args.at w (as_field_of make old)) (as_field_of make new) c.write_by.result) c.of_kind-change.ensures
    (as_outcome_of_write make g.V.PartialEq.eq scalar_eq g.met.V.GridValue.same_eq vdb c.args.grid.now.tree.limit c.args.at c.of_kind-change.result old new c.write_by.result c.write_by.ensures.outcome)

pub returns-in-Some-clause-memory : goal.returns-in-Some-clause-memory
returns-in-Some-clause-memory g c = λ free.
    let make = g.V.GridValue.as_scalar in
    let eq = g.V.PartialEq.eq in
    let same = g.met.V.GridValue.same_eq in
    let t = c.args.grid.now.tree in
    let old = (field_of vdb t).cell c.args.at in
    let exact = exact_by eq g.V.Ord.cmp g.met.V.Ord.matches_eq g.met.V.Voxel.exact in
    elim (no_memory _ _ (subst (λ w. write_takes_memory (as_field_of make (field_of vdb t)) c.args.at w ≡ false) (sym c.of_kind-change.ensures) free)) [
      | inl stands ↦
          c.write_by.ensures.unchanged (cell_exact eq exact g.met.V.Eq.laws.refl (written c.of_kind-change.result old) old (sym (as_field_of_stands make t.background (cell_at vdb t) eq scalar_eq same c.of_kind-change.result c.args.at) ∙ stands))
      | inr non_constant ↦
          c.write_by.ensures.non_constant (sym (as_field_of_constant make t.background (cell_at vdb t) eq scalar_eq same (block_around vdb Leaf c.args.at)) ∙ non_constant)
    ]

pub returns-in-None-clause-outcome : goal.returns-in-None-clause-outcome
returns-in-None-clause-outcome g c =
    let make = g.V.GridValue.as_scalar in
    let old = field_of vdb c.args.grid.now.tree in
    let new = field_of vdb c.set.new.self.tree in
    subst (λ w. IsOutcome scalar_eq vdb c.args.grid.now.tree.limit (as_field_of make old) (write c.args.at w (as_field_of make old)) (as_field_of make new) c.set.result) c.of_kind-change.ensures
    (as_outcome_of_write make g.V.PartialEq.eq scalar_eq g.met.V.GridValue.same_eq vdb c.args.grid.now.tree.limit c.args.at c.of_kind-change.result old new c.set.result c.set.ensures.outcome)

pub returns-in-None-clause-memory : goal.returns-in-None-clause-memory
returns-in-None-clause-memory g c = λ free.
    let make = g.V.GridValue.as_scalar in
    let eq = g.V.PartialEq.eq in
    let same = g.met.V.GridValue.same_eq in
    let t = c.args.grid.now.tree in
    let old = (field_of vdb t).cell c.args.at in
    let exact = exact_by eq g.V.Ord.cmp g.met.V.Ord.matches_eq g.met.V.Voxel.exact in
    elim (no_memory _ _ (subst (λ w. write_takes_memory (as_field_of make (field_of vdb t)) c.args.at w ≡ false) (sym c.of_kind-change.ensures) free)) [
      | inl stands ↦
          c.set.ensures.unchanged (cell_exact eq exact g.met.V.Eq.laws.refl (written c.of_kind-change.result old) old (sym (as_field_of_stands make t.background (cell_at vdb t) eq scalar_eq same c.of_kind-change.result c.args.at) ∙ stands))
      | inr non_constant ↦
          c.set.ensures.non_constant (sym (as_field_of_constant make t.background (cell_at vdb t) eq scalar_eq same (block_around vdb Leaf c.args.at)) ∙ non_constant)
    ]

pub returns-in-Some-clause-steps : goal.returns-in-Some-clause-steps
returns-in-Some-clause-steps g c = λ room. c.write_by.ensures.steps (inl room)

pub returns-in-None-clause-steps : goal.returns-in-None-clause-steps
returns-in-None-clause-steps g c = λ room. omega (arith, c.set.ensures.steps (inl room))

pub returns-in-Some-clause-near : goal.returns-in-Some-clause-near
returns-in-Some-clause-near g c = rw c.in-Some.is c.write_by.ensures.last_leaf

pub returns-in-None-clause-near : goal.returns-in-None-clause-near
returns-in-None-clause-near g c = rw c.in-None.is (λ near. absurd near)
