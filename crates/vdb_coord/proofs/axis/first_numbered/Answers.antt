-- The number times the block's length fits.
use Rattle.vdb_coord.proofs.Common.{SFits, w32, rules, to_z-of_z}
use Rattle.vdb_coord.proofs.Meeting.{numbered_fits}
use Rattle.vdb_coord.proofs.axis.first_numbered.Goals as goal

pub overflow_mul-result : goal.overflow_mul-result
overflow_mul-result c =
    let number : SFits w32 c.args.number = c.ranges.number in
    let fp : SFits w32 c.power.result = search rules in
    simp to_z-of_z (rw c.power.ensures (numbered_fits c.args.bits c.args.number c.requires.few c.requires.within).0)

pub returns : goal.returns
returns c =
    let number : SFits w32 c.args.number = c.ranges.number in
    let fp : SFits w32 c.power.result = search rules in
    let fits = (numbered_fits c.args.bits c.args.number c.requires.few c.requires.within).0 in
    simp to_z-of_z (rw c.power.ensures (simp to_z-of_z))
