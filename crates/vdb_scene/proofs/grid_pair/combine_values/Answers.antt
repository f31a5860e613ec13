use Rattle.vdb_scene.proofs.Common.{◌≡◌, true, rules, Ok, Err, err_from_is_err_and, vdb, as_field_of, combine, replace, cell_at, field_of, kind_of, scalar_eq, scalar_greater, scalar_lesser, scalar_sum}
use Rattle.vdb_scene.proofs.TwoGrids.{as_outcome_of_combine, as_outcome_of_replace, as_sum_outcome_err, as_sum_outcome_ok, one_kind, sums_of, sum_gives, sum_refused, values_give, values_refused}
use Rattle.vdb_scene.proofs.grid_pair.combine_values.Goals as goal

pub returns-in_err-maximum-in-Maximum-clause-outcome : goal.returns-in_err-maximum-in-Maximum-clause-outcome
returns-in_err-maximum-in-Maximum-clause-outcome g c =
    let make = g.V.GridValue.as_scalar in
    let old = field_of vdb c.args.grid.now.tree in
    let given = field_of vdb c.args.given.now in
    let new = field_of vdb c.maximum.new.self.tree in
    let f = as_field_of make old in
    let h = as_field_of make given in
    let kinds = one_kind (kind_of (make old.background)) (kind_of (make given.background)) g.V.Voxel.KIND (g.met.V.GridValue.same_kind old.background) (g.met.V.GridValue.same_kind given.background) in
    let exit = err_from_is_err_and c.from_residual.result c.from_residual.ensures.1 in
    rw (c.in-Maximum.is, exit.1, exit.2) (values_refused c.args.grid.now.tree.limit f h (combine scalar_greater f h) (as_field_of make new) kinds c.in_err-maximum-in-Maximum.field-0.0
    (as_outcome_of_combine make g.V.PartialEq.eq scalar_eq g.met.V.GridValue.same_eq vdb c.args.grid.now.tree.limit g.V.Voxel.greater scalar_greater g.met.V.GridValue.same_greater old new given (Err c.in_err-maximum-in-Maximum.field-0.0) c.in_err-maximum-in-Maximum.ensures.outcome))

pub returns-in_ok-maximum-in-Maximum-clause-outcome : goal.returns-in_ok-maximum-in-Maximum-clause-outcome
returns-in_ok-maximum-in-Maximum-clause-outcome g c =
    let make = g.V.GridValue.as_scalar in
    let old = field_of vdb c.args.grid.now.tree in
    let given = field_of vdb c.args.given.now in
    let new = field_of vdb c.maximum.new.self.tree in
    let f = as_field_of make old in
    let h = as_field_of make given in
    let kinds = one_kind (kind_of (make old.background)) (kind_of (make given.background)) g.V.Voxel.KIND (g.met.V.GridValue.same_kind old.background) (g.met.V.GridValue.same_kind given.background) in
    rw c.in-Maximum.is (values_give c.args.grid.now.tree.limit f h (combine scalar_greater f h) (as_field_of make new) kinds tt
    (as_outcome_of_combine make g.V.PartialEq.eq scalar_eq g.met.V.GridValue.same_eq vdb c.args.grid.now.tree.limit g.V.Voxel.greater scalar_greater g.met.V.GridValue.same_greater old new given (Ok tt) c.in_ok-maximum-in-Maximum.ensures.outcome))

pub returns-in_err-minimum-in-Minimum-clause-outcome : goal.returns-in_err-minimum-in-Minimum-clause-outcome
returns-in_err-minimum-in-Minimum-clause-outcome g c =
    let make = g.V.GridValue.as_scalar in
    let old = field_of vdb c.args.grid.now.tree in
    let given = field_of vdb c.args.given.now in
    let new = field_of vdb c.minimum.new.self.tree in
    let f = as_field_of make old in
    let h = as_field_of make given in
    let kinds = one_kind (kind_of (make old.background)) (kind_of (make given.background)) g.V.Voxel.KIND (g.met.V.GridValue.same_kind old.background) (g.met.V.GridValue.same_kind given.background) in
    let exit = err_from_is_err_and c.from_residual-in_err-minimum-in-Minimum.result c.from_residual-in_err-minimum-in-Minimum.ensures.1 in
    rw (c.in-Minimum.is, exit.1, exit.2) (values_refused c.args.grid.now.tree.limit f h (combine scalar_lesser f h) (as_field_of make new) kinds c.in_err-minimum-in-Minimum.field-0.0
    (as_outcome_of_combine make g.V.PartialEq.eq scalar_eq g.met.V.GridValue.same_eq vdb c.args.grid.now.tree.limit g.V.Voxel.lesser scalar_lesser g.met.V.GridValue.same_lesser old new given (Err c.in_err-minimum-in-Minimum.field-0.0) c.in_err-minimum-in-Minimum.ensures.outcome))

pub returns-in_ok-minimum-in-Minimum-clause-outcome : goal.returns-in_ok-minimum-in-Minimum-clause-outcome
returns-in_ok-minimum-in-Minimum-clause-outcome g c =
    let make = g.V.GridValue.as_scalar in
    let old = field_of vdb c.args.grid.now.tree in
    let given = field_of vdb c.args.given.now in
    let new = field_of vdb c.minimum.new.self.tree in
    let f = as_field_of make old in
    let h = as_field_of make given in
    let kinds = one_kind (kind_of (make old.background)) (kind_of (make given.background)) g.V.Voxel.KIND (g.met.V.GridValue.same_kind old.background) (g.met.V.GridValue.same_kind given.background) in
    rw c.in-Minimum.is (values_give c.args.grid.now.tree.limit f h (combine scalar_lesser f h) (as_field_of make new) kinds tt
    (as_outcome_of_combine make g.V.PartialEq.eq scalar_eq g.met.V.GridValue.same_eq vdb c.args.grid.now.tree.limit g.V.Voxel.lesser scalar_lesser g.met.V.GridValue.same_lesser old new given (Ok tt) c.in_ok-minimum-in-Minimum.ensures.outcome))

pub returns-in_err-replace-in-Replace-clause-outcome : goal.returns-in_err-replace-in-Replace-clause-outcome
returns-in_err-replace-in-Replace-clause-outcome g c =
    let make = g.V.GridValue.as_scalar in
    let old = field_of vdb c.args.grid.now.tree in
    let given = field_of vdb c.args.given.now in
    let new = field_of vdb c.replace.new.self.tree in
    let f = as_field_of make old in
    let h = as_field_of make given in
    let kinds = one_kind (kind_of (make old.background)) (kind_of (make given.background)) g.V.Voxel.KIND (g.met.V.GridValue.same_kind old.background) (g.met.V.GridValue.same_kind given.background) in
    let exit = err_from_is_err_and c.from_residual-in_err-replace-in-Replace.result c.from_residual-in_err-replace-in-Replace.ensures.1 in
    rw (c.in-Replace.is, exit.1, exit.2) (values_refused c.args.grid.now.tree.limit f h (replace f h) (as_field_of make new) kinds c.in_err-replace-in-Replace.field-0.0
    (as_outcome_of_replace make g.V.PartialEq.eq scalar_eq g.met.V.GridValue.same_eq vdb c.args.grid.now.tree.limit old new given (Err c.in_err-replace-in-Replace.field-0.0) c.in_err-replace-in-Replace.ensures.outcome))

pub returns-in_ok-replace-in-Replace-clause-outcome : goal.returns-in_ok-replace-in-Replace-clause-outcome
returns-in_ok-replace-in-Replace-clause-outcome g c =
    let make = g.V.GridValue.as_scalar in
    let old = field_of vdb c.args.grid.now.tree in
    let given = field_of vdb c.args.given.now in
    let new = field_of vdb c.replace.new.self.tree in
    let f = as_field_of make old in
    let h = as_field_of make given in
    let kinds = one_kind (kind_of (make old.background)) (kind_of (make given.background)) g.V.Voxel.KIND (g.met.V.GridValue.same_kind old.background) (g.met.V.GridValue.same_kind given.background) in
    rw c.in-Replace.is (values_give c.args.grid.now.tree.limit f h (replace f h) (as_field_of make new) kinds tt
    (as_outcome_of_replace make g.V.PartialEq.eq scalar_eq g.met.V.GridValue.same_eq vdb c.args.grid.now.tree.limit old new given (Ok tt) c.in_ok-replace-in-Replace.ensures.outcome))

pub returns-in_err-sum-in-Sum-clause-outcome : goal.returns-in_err-sum-in-Sum-clause-outcome
returns-in_err-sum-in-Sum-clause-outcome g c =
    let make = g.V.GridValue.as_scalar in
    let old = field_of vdb c.args.grid.now.tree in
    let given = field_of vdb c.args.given.now in
    let new = field_of vdb c.sum.new.self.tree in
    let f = as_field_of make old in
    let h = as_field_of make given in
    let kinds = one_kind (kind_of (make old.background)) (kind_of (make given.background)) g.V.Voxel.KIND (g.met.V.GridValue.same_kind old.background) (g.met.V.GridValue.same_kind given.background) in
    let has : g.V.Voxel.SUMS ≡ true = search rules in
    let there = sums_of (kind_of (make old.background)) g.V.Voxel.KIND g.V.Voxel.SUMS (g.met.V.GridValue.same_kind old.background) g.met.V.Voxel.sums_by_kind has in
    let exit = err_from_is_err_and c.from_residual-in_err-sum-in-Sum.result c.from_residual-in_err-sum-in-Sum.ensures.1 in
    rw (c.in-Sum.is, exit.1, exit.2) (sum_refused scalar_sum c.args.grid.now.tree.limit f h (as_field_of make new) kinds there c.in_err-sum-in-Sum.field-0.0
    (as_sum_outcome_err make g.V.PartialEq.eq scalar_eq g.met.V.GridValue.same_eq g.V.Voxel.sum_of scalar_sum g.met.V.GridValue.same_sum c.args.grid.now.tree.background c.args.given.now.background (cell_at vdb c.args.grid.now.tree) (cell_at vdb c.args.given.now) vdb c.args.grid.now.tree.limit new _ c.in_err-sum-in-Sum.ensures.outcome))

pub returns-in_ok-sum-in-Sum-clause-outcome : goal.returns-in_ok-sum-in-Sum-clause-outcome
returns-in_ok-sum-in-Sum-clause-outcome g c =
    let make = g.V.GridValue.as_scalar in
    let old = field_of vdb c.args.grid.now.tree in
    let given = field_of vdb c.args.given.now in
    let new = field_of vdb c.sum.new.self.tree in
    let f = as_field_of make old in
    let h = as_field_of make given in
    let kinds = one_kind (kind_of (make old.background)) (kind_of (make given.background)) g.V.Voxel.KIND (g.met.V.GridValue.same_kind old.background) (g.met.V.GridValue.same_kind given.background) in
    let has : g.V.Voxel.SUMS ≡ true = search rules in
    let there = sums_of (kind_of (make old.background)) g.V.Voxel.KIND g.V.Voxel.SUMS (g.met.V.GridValue.same_kind old.background) g.met.V.Voxel.sums_by_kind has in
    rw c.in-Sum.is (sum_gives scalar_sum c.args.grid.now.tree.limit f h (as_field_of make new) kinds there tt
    (as_sum_outcome_ok make g.V.PartialEq.eq scalar_eq g.met.V.GridValue.same_eq g.V.Voxel.sum_of scalar_sum g.met.V.GridValue.same_sum c.args.grid.now.tree.background c.args.given.now.background (cell_at vdb c.args.grid.now.tree) (cell_at vdb c.args.given.now) vdb c.args.grid.now.tree.limit new _ c.in_ok-sum-in-Sum.ensures.outcome))
