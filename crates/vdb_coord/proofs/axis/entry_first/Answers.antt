-- The first number of the entry fits as its block does.
use Rattle.vdb_coord.proofs.Common.{◌≡◌, ◌+◌, ◌*◌, ◌^◌, ◌%◌, ◌+ℤ◌, pos, SFits, w32, to_z, rules, arith, to_z-of_z, to_z_pos, first_of, number_at}
use Rattle.vdb_coord.proofs.Digits.{entry_first_fits}
use Rattle.vdb_coord.proofs.axis.entry_first.Goals as goal

kept : (c : goal.After-first_around) → c.args.position * 2 ^ c.args.low % 4294967296 ≡ c.args.position * 2 ^ c.args.low
kept c =
    let small = (entry_first_fits c.args.low c.args.bits c.args.component c.args.position c.requires.low_fits c.requires.bits_fit c.requires.within c.ranges.component).1 in
    omega (arith, small)

shifted : (c : goal.After-first_around) → to_z w32 (c.args.position * 2 ^ c.args.low) ≡ pos (c.args.position * 2 ^ c.args.low)
shifted c =
    let small = (entry_first_fits c.args.low c.args.bits c.args.component c.args.position c.requires.low_fits c.requires.bits_fit c.requires.within c.ranges.component).1 in
    to_z_pos w32 (c.args.position * 2 ^ c.args.low) (omega (arith, small))

pub overflow_cast-result : goal.overflow_cast-result
overflow_cast-result c =
    let small = (entry_first_fits c.args.low c.args.bits c.args.component c.args.position c.requires.low_fits c.requires.bits_fit c.requires.within c.ranges.component).1 in
    rw (kept c) (record { sfits = omega (arith, small) })

pub overflow_add-result : goal.overflow_add-result
overflow_add-result c =
    let component : SFits w32 c.args.component = c.ranges.component in
    let ff : SFits w32 c.first_around.result = search rules in
    let f = simp to_z-of_z at c.first_around.ensures in
    simp to_z-of_z (rw (f, kept c, shifted c) (entry_first_fits c.args.low c.args.bits c.args.component c.args.position c.requires.low_fits c.requires.bits_fit c.requires.within component).0)

pub returns : goal.returns
returns c =
    let component : SFits w32 c.args.component = c.ranges.component in
    let ff : SFits w32 c.first_around.result = search rules in
    let f = simp to_z-of_z at c.first_around.ensures in
    let fits : SFits w32 (first_of (c.args.low + c.args.bits) (number_at (c.args.low + c.args.bits) c.args.component) +ℤ pos (c.args.position * 2 ^ c.args.low))
    = (entry_first_fits c.args.low c.args.bits c.args.component c.args.position c.requires.low_fits c.requires.bits_fit c.requires.within component).0 in
    simp to_z-of_z (rw (f, kept c, shifted c) (simp to_z-of_z))
