use Rattle.vdb_tree.proofs.Common.{◌≡◌, ◌+◌, ◌<◌, ℕ, ap, arith, sym, subst, None, Some, entries, Bits, Lower, entries_is, node_at, bits_of, Background}
use Rattle.vdb_tree.proofs.EntryCounts.{next_fits}
use Rattle.vdb_tree.proofs.Jumps.{lower_unlike, part_at}
use Rattle.vdb_tree.proofs.tree.TreeOf.next_unlike_in_lower.Goals as goal

pub overflow_add-from : goal.overflow_add-from
overflow_add-from g c = let h = next_fits c.offset-from.result g.row.L c.self.invariant.0.bits.1.1 c.offset-from.ensures.within in omega (arith, h)

pub entry_block_in-requires-clause-within : goal.entry_block_in-requires-clause-within
entry_block_in-requires-clause-within g c =
    let bits = bits_of g.row.U g.row.L g.row.F in
    subst (λ (b : Bits). c.in-Some.index < entries b Lower) (sym c.bits.ensures.value)
    (subst (λ (n : ℕ). c.in-Some.index < n) (sym (entries_is bits Lower)) c.in-Some.ensures.within)

pub returns-in-Some : goal.returns-in-Some
returns-in-Some g c =
    let bits = bits_of g.row.U g.row.L g.row.F in
    let t = c.args.self.now in
    let was : node_at t.lowers c.args.lower.slot ≡ Some c.at.result.now = rw (← c.self.view_is) c.at.ensures.node in
    let next = lower_unlike bits t c.args.p c.args.lower.slot c.at.result.now (c.offset-from.result + 1) (Some c.in-Some.index) c.requires.child was
    (ap (λ (n : ℕ). n + 1) c.offset-from.ensures.value) c.background_cell.result c.background_cell.ensures c.in-Some.ensures in
    part_at bits t Background Lower c.args.p c.in-Some.index next c.bits.result c.bits.ensures.value c.entry_block_in.result c.entry_block_in.ensures

pub returns-in-None : goal.returns-in-None
returns-in-None g c =
    let bits = bits_of g.row.U g.row.L g.row.F in
    let t = c.args.self.now in
    let was : node_at t.lowers c.args.lower.slot ≡ Some c.at.result.now = rw (← c.self.view_is) c.at.ensures.node in
    lower_unlike bits t c.args.p c.args.lower.slot c.at.result.now (c.offset-from.result + 1) None c.requires.child was
    (ap (λ (n : ℕ). n + 1) c.offset-from.ensures.value) c.background_cell.result c.background_cell.ensures c.in-None.ensures
