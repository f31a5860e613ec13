use Rattle.vdb_tree.proofs.Common.{◌<◌, ◌≤◌, ℕ, arith, entries, Lower, Upper, entries_is, bits_of}
use Rattle.vdb_tree.proofs.Clears.{after, fits}
use Rattle.vdb_tree.proofs.Constants.{entries_few}
use Rattle.vdb_tree.proofs.Ruled.{sets_entry, sets_nothing}
use Rattle.vdb_tree.proofs.tree.TreeOf.set_next_lower.Goals as goal

less : (i n : ℕ) → i < n → n ≤ 32768 → i < 32768
less i n h k = omega (arith, h, k)

pub overflow_add-result : goal.overflow_add-result
overflow_add-result g c =
    let bits = bits_of g.row.U g.row.L g.row.F in
    let h = fits c.in-Some.index (less c.in-Some.index (entries bits Upper) c.in-Some.ensures.next.within (entries_few bits Upper c.self.invariant.0.bits)) in
    omega (arith, h)

pub returns-clause-sets : goal.returns-clause-sets
returns-clause-sets g c =
    sets_entry (bits_of g.row.U g.row.L g.row.F) c.args.rule c.args.other.now Upper c.args.p Lower c.args.self.now c.set_lower_block.new.self c.args.from c.in-Some.index c.lower_corner-corner.result
    c.lower_corner-corner.ensures.block c.lower_corner-corner.ensures.entry (λ q s. s) (λ q s. s) c.in-Some.ensures.next c.set_lower_block.ensures.sets

pub returns-clause-further : goal.returns-clause-further
returns-clause-further g c =
    let next = c.in-Some.ensures.next in
    after c.args.from c.in-Some.index _ next.from_on (rw (entries_is (bits_of g.row.U g.row.L g.row.F) Upper) at next.within)

pub returns-in_default-clause-sets : goal.returns-in_default-clause-sets
returns-in_default-clause-sets g c = sets_nothing (bits_of g.row.U g.row.L g.row.F) c.args.rule c.args.other.now _ c.args.self.now c.in_default.ensures.next
