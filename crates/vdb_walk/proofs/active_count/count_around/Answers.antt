use Rattle.vdb_walk.proofs.Common.{sym, ◌∙◌, Upper, bits_of}
use Rattle.vdb_walk.proofs.BlockCounts.{around_covered, around_none, around_part}
use Rattle.vdb_walk.proofs.active_count.count_around.Goals as goal

pub returns-then-covers : goal.returns-then-covers
returns-then-covers g c =
    c.active_in_block.ensures.value
    ∙ around_covered (bits_of g.row.U g.row.L g.row.F) c.args.tree.now c.args.bounds Upper c.args.q (rw (c.block_in-block.ensures, c.bits.ensures.value) at (sym c.covers.ensures ∙ c.if-covers.true))

pub returns-in-Some : goal.returns-in-Some
returns-in-Some g c =
    c.count_in.ensures.value
    ∙ around_part (bits_of g.row.U g.row.L g.row.F) c.args.tree.now c.args.bounds Upper c.args.q c.in-Some.part (rw (c.block_in-block.ensures, c.bits.ensures.value) at c.in-Some.ensures.both)

pub returns-in-None : goal.returns-in-None
returns-in-None g c =
    around_none (bits_of g.row.U g.row.L g.row.F) c.args.tree.now c.args.bounds Upper c.args.q (rw (c.block_in-block.ensures, c.bits.ensures.value) at c.in-None.ensures.none)
