use Rattle.vdb_tree.proofs.Common.{◌≡◌, ◌<◌, ◌≤◌, ℕ, arith, ap, sym, ◌∙◌, Some, entries, Leaf, Lower, entries_is, Child, node_at, bits_of, background_cell, lower_entry}
use Rattle.vdb_tree.proofs.Constants.{entries_few, next_corner, no_corner}
use Rattle.vdb_tree.proofs.Descents.{upper_by_block, lower_node_entry}
use Rattle.vdb_tree.proofs.Passes.{corner_block}
use Rattle.vdb_tree.proofs.Sizes.{internal_small}
use Rattle.vdb_tree.proofs.tree.TreeOf.next_leaf_corner.Goals as goal

less : (i n : ℕ) → i < n → n ≤ 32768 → i < 32768
less i n h k = omega (arith, h, k)

pub next_child-requires : goal.next_child-requires
next_child-requires g c =
    let small = g.met.V.Stored-2.row_small in
    (internal_small _ _ g.row.WL _ c.self.invariant.0.few_lower_words small.1 small.1 small.0, c.requires.within)

pub entry_corner-requires-clause-within : goal.entry_corner-requires-clause-within
entry_corner-requires-clause-within g c = rw (c.bits-bits.ensures.value, entries_is (bits_of g.row.U g.row.L g.row.F) Lower) c.in-Some.ensures.within

pub returns-in-Some-clause-corner : goal.returns-in-Some-clause-corner
returns-in-Some-clause-corner g c =
    let t = c.args.self.now in
    let bits = bits_of g.row.U g.row.L g.row.F in
    let was : node_at t.lowers c.held_place-place.result.slot ≡ Some c.at.result.now = rw (← c.self.view_is) c.at.ensures.node in
    let is = c.entry_corner.ensures in
    let next = next_corner bits Lower c.args.p (lower_entry bits t) c.at.result.now (background_cell t) (lower_node_entry bits t c.args.p _ _ (c.requires.lower ∙ ap Child (sym c.held_place-place.ensures.slot)) was) c.args.from c.in-Some.offset c.in-Some.ensures c.entry_corner.result
    (rw c.bits-bits.ensures.value at is) in
    next

pub returns-in-Some-clause-inside : goal.returns-in-Some-clause-inside
returns-in-Some-clause-inside g c =
    let t = c.args.self.now in
    let bits = bits_of g.row.U g.row.L g.row.F in
    let was : node_at t.lowers c.held_place-place.result.slot ≡ Some c.at.result.now = rw (← c.self.view_is) c.at.ensures.node in
    let is = c.entry_corner.ensures in
    let next = next_corner bits Lower c.args.p (lower_entry bits t) c.at.result.now (background_cell t) (lower_node_entry bits t c.args.p _ _ (c.requires.lower ∙ ap Child (sym c.held_place-place.ensures.slot)) was) c.args.from c.in-Some.offset c.in-Some.ensures c.entry_corner.result
    (rw c.bits-bits.ensures.value at is) in
    upper_by_block bits t c.entry_corner.result c.args.p (corner_block bits Lower Leaf c.args.p (lower_entry bits t) c.args.from c.in-Some.offset c.entry_corner.result next) ∙ c.requires.lower

pub returns-in-Some-clause-few : goal.returns-in-Some-clause-few
returns-in-Some-clause-few g c =
    let bits = bits_of g.row.U g.row.L g.row.F in
    less c.in-Some.offset (entries bits Lower) (rw (entries_is bits Lower) c.in-Some.ensures.within) (entries_few bits Lower c.self.invariant.0.bits)

pub returns-in-None-clause-corner : goal.returns-in-None-clause-corner
returns-in-None-clause-corner g c =
    let t = c.args.self.now in
    let bits = bits_of g.row.U g.row.L g.row.F in
    let was : node_at t.lowers c.held_place-place.result.slot ≡ Some c.at.result.now = rw (← c.self.view_is) c.at.ensures.node in
    no_corner bits Lower c.args.p (lower_entry bits t) c.at.result.now (background_cell t) (lower_node_entry bits t c.args.p _ _ (c.requires.lower ∙ ap Child (sym c.held_place-place.ensures.slot)) was) c.args.from c.in-None.ensures
