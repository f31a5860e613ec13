use Rattle.vdb_tree.specs.Layout.{bits_of}
use Rattle.vdb_tree.proofs.PairWalks.{lesser_gone}
use Rattle.vdb_tree.proofs.tree.TreeOf.lesser_start.Goals as goal

pub returns-in-Some-Some-clause-least : goal.returns-in-Some-Some-clause-least
returns-in-Some-Some-clause-least g c =
    lesser_gone (bits_of g.row.U g.row.L g.row.F) c.args.a c.args.b c.in-Some-Some.p c.in-Some-Some.q c.lesser.result c.in-Some-Some.is-0 c.in-Some-Some.is-1 c.lesser.ensures.least
