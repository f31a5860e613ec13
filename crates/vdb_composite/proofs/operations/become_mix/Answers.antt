use Rattle.vdb_composite.proofs.Common.{◌≤◌, ◌∙◌, subst, rules, ℕ, vdb, roots, Field, field_of, blended}
use Rattle.vdb_composite.proofs.MixWalks.{is_made}
use Rattle.vdb_composite.proofs.operations.become_mix.Goals as goal

pub returns-in-Some-clause-outcome : goal.returns-in-Some-clause-outcome
returns-in-Some-clause-outcome g c =
    let f : Field g.row.V.Denot = field_of vdb c.args.tree.now in
    let h : Field g.row.V.Denot = field_of vdb c.args.other.now in
    let made = is_made vdb (blended g.V.Voxel.greater g.V.Voxel.lesser g.V.Voxel.sum_of) c.args.mix f h c.args.background c.in-Some.made c.requires.background c.in-Some.ensures.background c.in-Some.ensures.cells in
    let few : roots g.V.PartialEq.eq vdb (field_of vdb c.in-Some.made) ≤ c.limit.result = c.limit.ensures.kept in
    let within = subst (λ (n : ℕ). roots g.V.PartialEq.eq vdb (field_of vdb c.in-Some.made) ≤ n) (c.limit.ensures.value ∙ c.in-Some.ensures.limit) few in
    (made, subst (λ (k : Field g.row.V.Denot). roots g.V.PartialEq.eq vdb k ≤ c.args.tree.now.limit) made within)

pub returns-in-None-clause-outcome : goal.returns-in-None-clause-outcome
returns-in-None-clause-outcome g c = search rules
