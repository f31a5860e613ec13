-- The last number of the block fits.
use Rattle.vdb_coord.proofs.Common.{SFits, w32, rules, to_z-of_z}
use Rattle.vdb_coord.proofs.Meeting.{numbered_fits}
use Rattle.vdb_coord.proofs.axis.last_numbered.Goals as goal

pub overflow_add-result : goal.overflow_add-result
overflow_add-result c =
    let number : SFits w32 c.args.number = c.ranges.number in
    let ff : SFits w32 c.first_numbered.result = search rules in
    let fr : SFits w32 c.reach.result = search rules in
    let f = simp to_z-of_z at c.first_numbered.ensures in
    simp to_z-of_z (rw (f, c.reach.ensures) (numbered_fits c.args.bits c.args.number c.requires.few c.requires.within).1)

pub returns : goal.returns
returns c =
    let number : SFits w32 c.args.number = c.ranges.number in
    let ff : SFits w32 c.first_numbered.result = search rules in
    let fr : SFits w32 c.reach.result = search rules in
    let f = simp to_z-of_z at c.first_numbered.ensures in
    let fits = (numbered_fits c.args.bits c.args.number c.requires.few c.requires.within).1 in
    simp to_z-of_z (rw (f, c.reach.ensures) (simp to_z-of_z))
