use Rattle.vdb_walk.proofs.Common.{◌*◌, ◌≤◌, ℕ, refl, subst, option_map, None, Some, Leaf, entries_is, bits_of, field_of, leaf_small}
use Rattle.vdb_walk.proofs.PartSeeks.{IsTilePast, in_one_block, leaf_entry_value, leaf_first, part_of_cell, part_of_leaf, tile_first, tile_value}
use Rattle.vdb_walk.proofs.ListingSizes.{run_small}
use Rattle.vdb_walk.proofs.Runs.{leaf_run}
use Rattle.vdb_walk.proofs.first_active.first_held.Goals as goal

pub begin_run-requires : goal.begin_run-requires
begin_run-requires g c =
    let small = g.met.V.Stored-3.row_small in
    let few = c.has_leaf_words.ensures.few in
    let bits = bits_of g.row.U g.row.L g.row.F in
    let some = (rw c.bits-bits.ensures.value at c.bits-bits.ensures.configured).2.0 in
    let capacity = subst (λ (n : ℕ). n ≤ 64 * g.row.WF) (entries_is bits Leaf) c.has_leaf_words.ensures.capacity in
    let value = g.met.V.Voxel.small in
    (run_small _ _ value.1 value.0, (leaf_small _ _ g.row.WF _ few small.1 small.1 small.0, (some, (few, (capacity, (c.in_ok-entry-in-Some-leaf_of.ensures.within, c.requires.empty))))))

pub returns-in_ok-entry-in-Some-leaf_of-clause-first : goal.returns-in_ok-entry-in-Some-leaf_of-clause-first
returns-in_ok-entry-in-Some-leaf_of-clause-first g c =
    let bits = bits_of g.row.U g.row.L g.row.F in
    let block = in_one_block bits c.args.tree.now c.args.held c.requires.held c.in_default.not-Some in
    let is = part_of_leaf bits c.args.tree.now c.args.held.bounds c.in-Some-leaf_of.leaf.now c.min-corner.ensures.bounds block (rw c.min-corner.ensures.corner at c.in-Some-leaf_of.ensures.leaf) in
    leaf_first bits (field_of bits c.args.tree.now) c.args.held.bounds c.in-Some-leaf_of.leaf.now is c.args.after (Some c.in_ok-entry-in-Some-leaf_of.p) (rw c.bits-bits.ensures.value at c.in_ok-entry-in-Some-leaf_of.ensures.first)

pub returns-in_ok-entry-in-Some-leaf_of-clause-value : goal.returns-in_ok-entry-in-Some-leaf_of-clause-value
returns-in_ok-entry-in-Some-leaf_of-clause-value g c =
    let bits = bits_of g.row.U g.row.L g.row.F in
    let block = in_one_block bits c.args.tree.now c.args.held c.requires.held c.in_default.not-Some in
    let is = part_of_leaf bits c.args.tree.now c.args.held.bounds c.in-Some-leaf_of.leaf.now c.min-corner.ensures.bounds block (rw c.min-corner.ensures.corner at c.in-Some-leaf_of.ensures.leaf) in
    leaf_entry_value bits (field_of bits c.args.tree.now) c.args.held.bounds c.in-Some-leaf_of.leaf.now is c.in_ok-entry-in-Some-leaf_of.p (rw c.bits-bits.ensures.value at c.in_ok-entry-in-Some-leaf_of.ensures.first).0 c.in_ok-entry-in-Some-leaf_of.entry (rw c.bits-bits.ensures.value at c.in_ok-entry-in-Some-leaf_of.ensures.at) c.entry.result c.entry.ensures

pub returns-in_ok-entry-in-Some-leaf_of-clause-run : goal.returns-in_ok-entry-in-Some-leaf_of-clause-run
returns-in_ok-entry-in-Some-leaf_of-clause-run g c = λ some.
    let bits = bits_of g.row.U g.row.L g.row.F in
    let block = in_one_block bits c.args.tree.now c.args.held c.requires.held c.in_default.not-Some in
    let is = part_of_leaf bits c.args.tree.now c.args.held.bounds c.in-Some-leaf_of.leaf.now c.min-corner.ensures.bounds block (rw c.min-corner.ensures.corner at c.in-Some-leaf_of.ensures.leaf) in
    let first = rw c.bits-bits.ensures.value at c.in_ok-entry-in-Some-leaf_of.ensures.first in
    let at = rw c.bits-bits.ensures.value at c.in_ok-entry-in-Some-leaf_of.ensures.at in
    leaf_run bits c.args.tree.now c.args.held.bounds c.in-Some-leaf_of.leaf.now c.min-corner.ensures.bounds is c.in_ok-entry-in-Some-leaf_of.p c.in_ok-entry-in-Some-leaf_of.entry c.begin_run.new.run first.0 at (c.begin_run.ensures.run some)

pub returns-in_err-entry-in-Some-leaf_of-clause-first : goal.returns-in_err-entry-in-Some-leaf_of-clause-first
returns-in_err-entry-in-Some-leaf_of-clause-first g c =
    let bits = bits_of g.row.U g.row.L g.row.F in
    let block = in_one_block bits c.args.tree.now c.args.held c.requires.held c.in_default.not-Some in
    let is = part_of_leaf bits c.args.tree.now c.args.held.bounds c.in-Some-leaf_of.leaf.now c.min-corner.ensures.bounds block (rw c.min-corner.ensures.corner at c.in-Some-leaf_of.ensures.leaf) in
    rw c.from_residual.ensures
    (leaf_first bits (field_of bits c.args.tree.now) c.args.held.bounds c.in-Some-leaf_of.leaf.now is c.args.after None (rw c.bits-bits.ensures.value at c.in_err-entry-in-Some-leaf_of.ensures.first))

pub returns-in-None-clause-first : goal.returns-in-None-clause-first
returns-in-None-clause-first g c =
    let bits = bits_of g.row.U g.row.L g.row.F in
    let t = c.args.tree.now in
    let block = in_one_block bits t c.args.held c.requires.held c.in_default.not-Some in
    let cells = part_of_cell bits t c.args.held.bounds c.min-corner.result c.piece.result.cell c.min-corner.ensures.bounds block c.min-corner.ensures.corner (c.in-None.ensures.tile refl) (c.piece.ensures.cells c.min-corner.result c.piece.ensures.holds) in
    tile_first bits (field_of bits t) c.args.held.bounds c.piece.result.cell cells c.args.after (option_map (λ item. item.0) c.first_in_tile-in-None.result) (rw c.bits-bits.ensures.value at c.first_in_tile-in-None.ensures.first)

pub returns-in-None-clause-value : goal.returns-in-None-clause-value
returns-in-None-clause-value g c =
    let bits = bits_of g.row.U g.row.L g.row.F in
    let t = c.args.tree.now in
    let block = in_one_block bits t c.args.held c.requires.held c.in_default.not-Some in
    let cells = part_of_cell bits t c.args.held.bounds c.min-corner.result c.piece.result.cell c.min-corner.ensures.bounds block c.min-corner.ensures.corner (c.in-None.ensures.tile refl) (c.piece.ensures.cells c.min-corner.result c.piece.ensures.holds) in
    tile_value bits (field_of bits t) c.args.held.bounds c.piece.result.cell cells (IsTilePast bits c.args.after c.piece.result.cell) c.first_in_tile-in-None.result (rw c.bits-bits.ensures.value at c.first_in_tile-in-None.ensures.first) c.first_in_tile-in-None.ensures.value
