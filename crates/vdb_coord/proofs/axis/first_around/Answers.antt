-- The block's number times its length fits.
use Rattle.vdb_coord.proofs.Common.{◌≤◌, SFits, w32, rules, arith, to_z-of_z}
use Rattle.vdb_coord.proofs.Digits.{first_fits}
use Rattle.vdb_coord.proofs.axis.first_around.Goals as goal

pub overflow_mul-result : goal.overflow_mul-result
overflow_mul-result c =
    let component : SFits w32 c.args.component = c.ranges.component in
    let fn : SFits w32 c.number_at.result = search rules in
    let fp : SFits w32 c.power.result = search rules in
    let few : c.args.bits ≤ 31 = omega arith in
    let n = simp to_z-of_z at c.number_at.ensures in
    simp to_z-of_z (rw (n, c.power.ensures) (first_fits c.args.bits c.args.component few component))

pub returns : goal.returns
returns c =
    let component : SFits w32 c.args.component = c.ranges.component in
    let fn : SFits w32 c.number_at.result = search rules in
    let fp : SFits w32 c.power.result = search rules in
    let few : c.args.bits ≤ 31 = omega arith in
    let n = simp to_z-of_z at c.number_at.ensures in
    let fits = first_fits c.args.bits c.args.component few component in
    simp to_z-of_z (rw (n, c.power.ensures) (simp to_z-of_z))
