use Rattle.vdb_walk.proofs.Common.{sym, ◌∙◌, Upper, Field, bits_of, field_of, exact_by}
use Rattle.vdb_walk.proofs.NonConstantBlocks.{covered_block, upper_whole}
use Rattle.vdb_walk.proofs.node_census.block_at.Goals as goal

pub returns-then-covers : goal.returns-then-covers
returns-then-covers g c =
    let exact = exact_by g.V.PartialEq.eq g.V.Ord.cmp g.met.V.Ord.matches_eq g.met.V.Voxel.exact in
    let bits = bits_of g.row.U g.row.L g.row.F in
    let f : Field g.row.V.Denot = field_of bits c.args.tree.now in
    covered_block g.V.PartialEq.eq exact g.met.V.Eq.laws.refl bits c.args.level Upper f c.args.q (upper_whole bits c.args.level) c.piece-piece.result.bounds c.piece-piece.result.cell c.piece-piece.ensures.cells
    (rw (c.block_in.ensures, c.bits-bits.ensures.value) at (sym c.covers.ensures ∙ c.if-covers.true))
