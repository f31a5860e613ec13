-- The last number of the entry fits as its block does.
use Rattle.vdb_coord.proofs.Common.{◌+◌, ◌-◌, ◌*◌, ◌^◌, ◌+ℤ◌, pos, SFits, w32, rules, to_z-of_z, first_of, number_at}
use Rattle.vdb_coord.proofs.Digits.{entry_last_fits}
use Rattle.vdb_coord.proofs.axis.entry_last.Goals as goal

pub overflow_add-result : goal.overflow_add-result
overflow_add-result c =
    let component : SFits w32 c.args.component = c.ranges.component in
    let ff : SFits w32 c.entry_first.result = search rules in
    let fr : SFits w32 c.reach.result = search rules in
    let f = simp to_z-of_z at c.entry_first.ensures in
    simp to_z-of_z (rw (f, c.reach.ensures) (entry_last_fits c.args.low c.args.bits c.args.component c.args.position c.requires.low_fits c.requires.bits_fit c.requires.within component))

pub returns : goal.returns
returns c =
    let component : SFits w32 c.args.component = c.ranges.component in
    let ff : SFits w32 c.entry_first.result = search rules in
    let fr : SFits w32 c.reach.result = search rules in
    let f = simp to_z-of_z at c.entry_first.ensures in
    let fits : SFits w32 (first_of (c.args.low + c.args.bits) (number_at (c.args.low + c.args.bits) c.args.component) +ℤ pos (c.args.position * 2 ^ c.args.low) +ℤ pos (2 ^ c.args.low - 1)) = entry_last_fits c.args.low c.args.bits c.args.component c.args.position c.requires.low_fits c.requires.bits_fit c.requires.within component in
    simp to_z-of_z (rw (f, c.reach.ensures) (simp to_z-of_z))
