use Rattle.vdb_tree.specs.Layout.{bits_of}
use Rattle.vdb_tree.proofs.PairWalks.{least_if_equal, least_if_greater, least_if_less}
use Rattle.vdb_tree.proofs.tree.TreeOf.lesser.Goals as goal

pub returns-in-Less-clause-least : goal.returns-in-Less-clause-least
returns-in-Less-clause-least g c =
    least_if_less (bits_of g.row.U g.row.L g.row.F) c.bits.result c.bits.ensures.value c.args.p c.args.q c.block_cmp_in.result c.block_cmp_in.ensures c.in-Less.is

pub returns-in-Equal-clause-least : goal.returns-in-Equal-clause-least
returns-in-Equal-clause-least g c =
    least_if_equal (bits_of g.row.U g.row.L g.row.F) c.bits.result c.bits.ensures.value c.args.p c.args.q c.block_cmp_in.result c.block_cmp_in.ensures c.in-Equal.is

pub returns-in-Greater-clause-least : goal.returns-in-Greater-clause-least
returns-in-Greater-clause-least g c =
    least_if_greater (bits_of g.row.U g.row.L g.row.F) c.bits.result c.bits.ensures.value c.args.p c.args.q c.block_cmp_in.result c.block_cmp_in.ensures c.in-Greater.is
