use Rattle.vdb_tree.proofs.Common.{rules, ◌≡◌, ◌∙◌, ◌<◌, ℕ, ap, sym, subst, Some, block_around, entries, sub_block, Box, Bits, Lower, entries_is, Child, node_at, bits_of, IsFirstLeaf, IsFrom}
use Rattle.vdb_tree.proofs.NextChild.{next_leaf_none, next_leaf_some, no_leaf_root, no_leaf_upper}
use Rattle.vdb_tree.proofs.tree.TreeOf.next_leaf_of_lower.Goals as goal

pub returns-in-Tile : goal.returns-in-Tile
returns-in-Tile g c = no_leaf_root (bits_of g.row.U g.row.L g.row.F) c.args.self.now c.args.p c.args.from _ c.in-Tile.ensures

pub returns-in-Tile-upper_entry : goal.returns-in-Tile-upper_entry
returns-in-Tile-upper_entry g c = no_leaf_upper (bits_of g.row.U g.row.L g.row.F) c.args.self.now c.args.p c.args.from _ c.in-Tile-upper_entry.ensures.value

pub returns-in_err-index : goal.returns-in_err-index
returns-in_err-index g c =
    let t = c.args.self.now in
    let bits = bits_of g.row.U g.row.L g.row.F in
    let was : node_at t.lowers c.held_place-place.result.slot ≡ Some c.at.result.now = rw (← c.self.view_is) c.at.ensures.node in
    let none = next_leaf_none bits t c.args.p c.held_place-place.result.slot c.args.from c.at.result.now (c.in-Child-upper_entry.ensures.value ∙ ap Child (sym c.held_place-place.ensures.slot)) was c.in_err-index.ensures in
    subst (IsFirstLeaf bits t (IsFrom bits Lower c.args.p c.args.from)) (sym c.from_residual.ensures) none

pub entry_block_in-requires-clause-within : goal.entry_block_in-requires-clause-within
entry_block_in-requires-clause-within g c =
    let bits = bits_of g.row.U g.row.L g.row.F in
    let k = c.in_ok-index.was in
    let h = c.next_child.ensures in
    subst (λ (b : Bits). c.in_ok-index.index < entries b Lower) (sym c.bits.ensures.value)
    (subst (λ (n : ℕ). c.in_ok-index.index < n) (sym (entries_is bits Lower)) (rw k at h).within)

pub returns : goal.returns
returns g c =
    let t = c.args.self.now in
    let bits = bits_of g.row.U g.row.L g.row.F in
    let was : node_at t.lowers c.held_place-place.result.slot ≡ Some c.at.result.now = rw (← c.self.view_is) c.at.ensures.node in
    let k = c.in_ok-index.was in
    let h = c.next_child.ensures in
    next_leaf_some bits t c.args.p c.held_place-place.result.slot c.args.from c.in_ok-index.index c.at.result.now (c.in-Child-upper_entry.ensures.value ∙ ap Child (sym c.held_place-place.ensures.slot)) was
    (rw k at h) c.min.result (search rules)
    (c.min.ensures.corner ∙ ap (λ (b : Box). b.min) c.entry_block_in.ensures ∙ ap (λ (b : Bits). (sub_block b Lower (block_around b Lower c.args.p) c.in_ok-index.index).min) c.bits.ensures.value)
