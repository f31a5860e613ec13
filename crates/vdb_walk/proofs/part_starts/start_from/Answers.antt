use Rattle.vdb_walk.proofs.Common.{sym, ◌∙◌, bits_of}
use Rattle.vdb_walk.proofs.SkippedParts.{skipped_all, skipped_here, skipped_there}
use Rattle.vdb_walk.proofs.part_starts.start_from.Goals as goal

pub returns-then-is_lt : goal.returns-then-is_lt
returns-then-is_lt g c = skipped_here (bits_of g.row.U g.row.L g.row.F) c.args.tree.now c.args.bounds c.args.skip c.args.p c.requires

pub returns-else-is_lt : goal.returns-else-is_lt
returns-else-is_lt g c =
    skipped_there (bits_of g.row.U g.row.L g.row.F) c.args.tree.now c.args.bounds c.args.skip c.args.p c.parts_from-walk.result c.parts_from-walk.ensures.bounds c.parts_from-walk.ensures.skip c.parts_from-walk.ensures.earlier
    c.in-Some.q c.in-Some.ensures (rw (c.block_cmp_in.ensures, c.bits-bits.ensures.value) at (sym c.is_lt.ensures ∙ c.if-is_lt.false))

pub returns-in-None : goal.returns-in-None
returns-in-None g c =
    skipped_all (bits_of g.row.U g.row.L g.row.F) c.args.tree.now c.args.bounds c.args.skip c.args.p c.parts_from-walk.result c.parts_from-walk.ensures.bounds c.parts_from-walk.ensures.skip c.parts_from-walk.ensures.earlier c.in-None.ensures
