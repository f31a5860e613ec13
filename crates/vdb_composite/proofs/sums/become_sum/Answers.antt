use Rattle.vdb_composite.proofs.Common.{◌≤◌, ◌∙◌, ℕ, subst, vdb, roots, Field, field_of, blended, Values}
use Rattle.vdb_value.specs.declared.blend.Blend.TheVariants.{Sum}
use Rattle.vdb_composite.proofs.Mixed.{has_mix}
use Rattle.vdb_composite.proofs.MixSums.{lacks_none}
use Rattle.vdb_composite.proofs.MixWalks.{is_made}
use Rattle.vdb_composite.proofs.sums.become_sum.Goals as goal

pub returns-in-Some-clause-outcome : goal.returns-in-Some-clause-outcome
returns-in-Some-clause-outcome g c =
    let f : Field g.row.V.Denot = field_of vdb c.args.tree.now in
    let h : Field g.row.V.Denot = field_of vdb c.args.other.now in
    let made = is_made vdb (blended g.V.Voxel.greater g.V.Voxel.lesser g.V.Voxel.sum_of) (Values Sum) f h c.args.background c.in-Some.made c.requires c.in-Some.ensures.background c.in-Some.ensures.cells in
    let few : roots g.V.PartialEq.eq vdb (field_of vdb c.in-Some.made) ≤ c.limit.result = c.limit.ensures.kept in
    let within = subst (λ (n : ℕ). roots g.V.PartialEq.eq vdb (field_of vdb c.in-Some.made) ≤ n) (c.limit.ensures.value ∙ c.in-Some.ensures.limit) few in (
      lacks_none g.V.Voxel.sum_of f h (has_mix (blended g.V.Voxel.greater g.V.Voxel.lesser g.V.Voxel.sum_of) (Values Sum) f h (field_of vdb c.in-Some.made) c.in-Some.ensures.cells),
      subst (λ (k : Field g.row.V.Denot). roots g.V.PartialEq.eq vdb k ≤ c.args.tree.now.limit) made within,
      made,
    )
