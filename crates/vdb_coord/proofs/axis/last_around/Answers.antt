-- The last number of the block fits as the component does.
use Rattle.vdb_coord.proofs.Common.{◌≤◌, SFits, w32, rules, arith, to_z-of_z, last_of, number_at}
use Rattle.vdb_coord.proofs.Digits.{last_fits}
use Rattle.vdb_coord.proofs.axis.last_around.Goals as goal

pub overflow_add-result : goal.overflow_add-result
overflow_add-result c =
    let component : SFits w32 c.args.component = c.ranges.component in
    let ff : SFits w32 c.first_around.result = search rules in
    let fr : SFits w32 c.reach.result = search rules in
    let f = simp to_z-of_z at c.first_around.ensures in
    let few : c.args.bits ≤ 31 = omega arith in
    simp to_z-of_z (rw (f, c.reach.ensures) (last_fits c.args.bits c.args.component few component))

pub returns : goal.returns
returns c =
    let component : SFits w32 c.args.component = c.ranges.component in
    let ff : SFits w32 c.first_around.result = search rules in
    let fr : SFits w32 c.reach.result = search rules in
    let f = simp to_z-of_z at c.first_around.ensures in
    let few : c.args.bits ≤ 31 = omega arith in
    let fits : SFits w32 (last_of c.args.bits (number_at c.args.bits c.args.component)) = last_fits c.args.bits c.args.component few component in
    simp to_z-of_z (rw (f, c.reach.ensures) (simp to_z-of_z))
