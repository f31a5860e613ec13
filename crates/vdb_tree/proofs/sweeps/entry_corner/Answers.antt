use Rattle.std.proofs.Common.{◌<◌, ◌≤◌, ℕ, arith, rules}
use Rattle.vdb_tree.proofs.Constants.{entries_few}
use Rattle.vdb_tree.proofs.sweeps.entry_corner.Goals as goal

fits : (i n : ℕ) → i < n → n ≤ 32768 → i < 65536
fits i n h k = omega (arith, h, k)

pub overflow_cast-offset : goal.overflow_cast-offset
overflow_cast-offset c = let k = fits c.args.offset _ c.requires.within (entries_few c.args.bits c.args.level c.requires.configured) in search (rules, k)
