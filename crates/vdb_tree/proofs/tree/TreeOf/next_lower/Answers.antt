use Rattle.vdb_tree.proofs.Common.{rules, ◌≡◌, ◌∙◌, ◌<◌, ℕ, ap, sym, subst, Some, block_around, entries, sub_block, Box, Bits, Upper, entries_is, Child, node_at, bits_of, IsNextLower}
use Rattle.vdb_tree.proofs.NextChild.{next_lower_none, next_lower_some}
use Rattle.vdb_tree.proofs.tree.TreeOf.next_lower.Goals as goal

pub returns-in_err-index : goal.returns-in_err-index
returns-in_err-index g c =
    let t = c.args.self.now in
    let was : node_at t.uppers c.held_place-place.result.slot ≡ Some c.at.result.now = rw (← c.self.view_is) c.at.ensures.node in
    let bits = bits_of g.row.U g.row.L g.row.F in
    let none = next_lower_none bits t c.args.p c.held_place-place.result.slot c.args.from c.at.result.now (c.requires.child ∙ ap Child (sym c.held_place-place.ensures.slot)) was c.in_err-index.ensures in
    subst (IsNextLower bits t c.args.p c.args.from) (sym c.from_residual.ensures) none

pub entry_block_in-requires-clause-within : goal.entry_block_in-requires-clause-within
entry_block_in-requires-clause-within g c =
    let bits = bits_of g.row.U g.row.L g.row.F in
    let k = c.in_ok-index.was in
    let h = c.next_child.ensures in
    subst (λ (b : Bits). c.in_ok-index.index < entries b Upper) (sym c.bits.ensures.value)
    (subst (λ (n : ℕ). c.in_ok-index.index < n) (sym (entries_is bits Upper)) (rw k at h).within)

pub returns : goal.returns
returns g c =
    let t = c.args.self.now in
    let bits = bits_of g.row.U g.row.L g.row.F in
    let was : node_at t.uppers c.held_place-place.result.slot ≡ Some c.at.result.now = rw (← c.self.view_is) c.at.ensures.node in
    let k = c.in_ok-index.was in
    let h = c.next_child.ensures in
    next_lower_some bits t c.args.p c.held_place-place.result.slot c.args.from c.in_ok-index.index c.at.result.now (c.requires.child ∙ ap Child (sym c.held_place-place.ensures.slot)) was
    (rw k at h) c.min.result (search rules)
    (c.min.ensures.corner ∙ ap (λ (b : Box). b.min) c.entry_block_in.ensures ∙ ap (λ (b : Bits). (sub_block b Upper (block_around b Upper c.args.p) c.in_ok-index.index).min) c.bits.ensures.value)
