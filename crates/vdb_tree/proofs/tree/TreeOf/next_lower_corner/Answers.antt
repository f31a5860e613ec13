use Rattle.vdb_tree.proofs.Common.{◌≡◌, ◌<◌, ◌≤◌, ℕ, arith, ap, sym, ◌∙◌, Some, entries, Lower, Upper, entries_is, Child, node_at, bits_of, background_cell, upper_entry}
use Rattle.vdb_tree.proofs.Constants.{entries_few, next_corner, no_corner}
use Rattle.vdb_tree.proofs.Descents.{root_by_block, upper_node_entry}
use Rattle.vdb_tree.proofs.Passes.{corner_block}
use Rattle.vdb_tree.proofs.Sizes.{internal_small}
use Rattle.vdb_tree.proofs.tree.TreeOf.next_lower_corner.Goals as goal

less : (i n : ℕ) → i < n → n ≤ 32768 → i < 32768
less i n h k = omega (arith, h, k)

pub next_child-requires : goal.next_child-requires
next_child-requires g c =
    let small = g.met.V.Stored-1.row_small in
    (internal_small _ _ g.row.WU _ c.self.invariant.0.few_upper_words small.1 small.1 small.0, c.requires.within)

pub entry_corner-requires-clause-within : goal.entry_corner-requires-clause-within
entry_corner-requires-clause-within g c = rw (c.bits-bits.ensures.value, entries_is (bits_of g.row.U g.row.L g.row.F) Upper) c.in-Some.ensures.within

pub returns-in-Some-clause-corner : goal.returns-in-Some-clause-corner
returns-in-Some-clause-corner g c =
    let t = c.args.self.now in
    let bits = bits_of g.row.U g.row.L g.row.F in
    let was : node_at t.uppers c.held_place-place.result.slot ≡ Some c.at.result.now = rw (← c.self.view_is) c.at.ensures.node in
    let is = c.entry_corner.ensures in
    let next = next_corner bits Upper c.args.p (upper_entry bits t) c.at.result.now (background_cell t) (upper_node_entry bits t c.args.p _ _ (c.requires.upper ∙ ap Child (sym c.held_place-place.ensures.slot)) was) c.args.from c.in-Some.offset c.in-Some.ensures c.entry_corner.result
    (rw c.bits-bits.ensures.value at is) in
    next

pub returns-in-Some-clause-inside : goal.returns-in-Some-clause-inside
returns-in-Some-clause-inside g c =
    let t = c.args.self.now in
    let bits = bits_of g.row.U g.row.L g.row.F in
    let was : node_at t.uppers c.held_place-place.result.slot ≡ Some c.at.result.now = rw (← c.self.view_is) c.at.ensures.node in
    let is = c.entry_corner.ensures in
    let next = next_corner bits Upper c.args.p (upper_entry bits t) c.at.result.now (background_cell t) (upper_node_entry bits t c.args.p _ _ (c.requires.upper ∙ ap Child (sym c.held_place-place.ensures.slot)) was) c.args.from c.in-Some.offset c.in-Some.ensures c.entry_corner.result
    (rw c.bits-bits.ensures.value at is) in
    root_by_block bits t c.entry_corner.result c.args.p (corner_block bits Upper Lower c.args.p (upper_entry bits t) c.args.from c.in-Some.offset c.entry_corner.result next) ∙ c.requires.upper

pub returns-in-Some-clause-few : goal.returns-in-Some-clause-few
returns-in-Some-clause-few g c =
    let bits = bits_of g.row.U g.row.L g.row.F in
    less c.in-Some.offset (entries bits Upper) (rw (entries_is bits Upper) c.in-Some.ensures.within) (entries_few bits Upper c.self.invariant.0.bits)

pub returns-in-None-clause-corner : goal.returns-in-None-clause-corner
returns-in-None-clause-corner g c =
    let t = c.args.self.now in
    let bits = bits_of g.row.U g.row.L g.row.F in
    let was : node_at t.uppers c.held_place-place.result.slot ≡ Some c.at.result.now = rw (← c.self.view_is) c.at.ensures.node in
    no_corner bits Upper c.args.p (upper_entry bits t) c.at.result.now (background_cell t) (upper_node_entry bits t c.args.p _ _ (c.requires.upper ∙ ap Child (sym c.held_place-place.ensures.slot)) was) c.args.from c.in-None.ensures
