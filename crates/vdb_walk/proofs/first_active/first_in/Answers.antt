use Rattle.vdb_walk.proofs.Common.{◌*◌, ◌≤◌, ap, subst, sym, None, Some, option_map, entries, Bits, Leaf, bits_of, field_of, leaf_small, IsInLeafBlock}
use Rattle.vdb_walk.proofs.PartSeeks.{IsTilePast, leaf_entry_value, leaf_first, tile_first, tile_value}
use Rattle.vdb_walk.proofs.first_active.first_in.Goals as goal

pub returns-in-Tile-clause-first : goal.returns-in-Tile-clause-first
returns-in-Tile-clause-first g c =
    let bits = bits_of g.row.U g.row.L g.row.F in
    let cells = rw c.in-Tile.is at c.requires.tile in
    tile_first bits (field_of bits c.args.tree.now) c.args.part.bounds c.in-Tile.cell cells c.args.after (option_map (λ item. item.0) c.first_in_tile.result) (rw c.bits-bits.ensures.value at c.first_in_tile.ensures.first)

pub returns-in-Tile-clause-value : goal.returns-in-Tile-clause-value
returns-in-Tile-clause-value g c =
    let bits = bits_of g.row.U g.row.L g.row.F in
    let cells = rw c.in-Tile.is at c.requires.tile in
    tile_value bits (field_of bits c.args.tree.now) c.args.part.bounds c.in-Tile.cell cells (IsTilePast bits c.args.after c.in-Tile.cell) c.first_in_tile.result (rw c.bits-bits.ensures.value at c.first_in_tile.ensures.first) c.first_in_tile.ensures.value

pub next_in_leaf-requires : goal.next_in_leaf-requires
next_in_leaf-requires g c =
    let small = g.met.V.Stored-3.row_small in
    let few = c.has_leaf_words.ensures.few in
    let is = rw c.in-Leaf.is at c.requires.leaf in
    let capacity = subst (λ (b : Bits). entries b Leaf ≤ 64 * g.row.WF) (sym c.bits-bits.ensures.value) c.has_leaf_words.ensures.capacity in
    let block = subst (λ (b : Bits). IsInLeafBlock b c.args.part.bounds) (sym c.bits-bits.ensures.value) is.block in
    (leaf_small _ _ g.row.WF _ few small.1 small.1 small.0, (c.bits-bits.ensures.configured, (ap (λ (b : Bits). b.leaf) c.bits-bits.ensures.value, (few, (capacity, block)))))

pub entry-requires : goal.entry-requires
entry-requires g c = let small = g.met.V.Stored-3.row_small in (leaf_small _ _ g.row.WF _ c.has_leaf_words.ensures.few small.1 small.1 small.0, c.in_ok-entry-in-Leaf.ensures.within)

pub returns-in_ok-entry-in-Leaf-clause-first : goal.returns-in_ok-entry-in-Leaf-clause-first
returns-in_ok-entry-in-Leaf-clause-first g c =
    let bits = bits_of g.row.U g.row.L g.row.F in
    let is = rw c.in-Leaf.is at c.requires.leaf in
    leaf_first bits (field_of bits c.args.tree.now) c.args.part.bounds c.in-Leaf.leaf.now is c.args.after (Some c.in_ok-entry-in-Leaf.p) (rw c.bits-bits.ensures.value at c.in_ok-entry-in-Leaf.ensures.first)

pub returns-in_ok-entry-in-Leaf-clause-value : goal.returns-in_ok-entry-in-Leaf-clause-value
returns-in_ok-entry-in-Leaf-clause-value g c =
    let bits = bits_of g.row.U g.row.L g.row.F in
    let is = rw c.in-Leaf.is at c.requires.leaf in
    let at = rw c.bits-bits.ensures.value at c.in_ok-entry-in-Leaf.ensures.at in
    leaf_entry_value bits (field_of bits c.args.tree.now) c.args.part.bounds c.in-Leaf.leaf.now is c.in_ok-entry-in-Leaf.p (rw c.bits-bits.ensures.value at c.in_ok-entry-in-Leaf.ensures.first).0 c.in_ok-entry-in-Leaf.entry at c.entry.result c.entry.ensures

pub returns-in_err-entry-in-Leaf-clause-first : goal.returns-in_err-entry-in-Leaf-clause-first
returns-in_err-entry-in-Leaf-clause-first g c =
    let bits = bits_of g.row.U g.row.L g.row.F in
    let is = rw c.in-Leaf.is at c.requires.leaf in
    rw c.from_residual.ensures
    (leaf_first bits (field_of bits c.args.tree.now) c.args.part.bounds c.in-Leaf.leaf.now is c.args.after None (rw c.bits-bits.ensures.value at c.in_err-entry-in-Leaf.ensures.first))
