use Rattle.vdb_tree.proofs.Common.{◌∙◌, subst, sym, bits_of, YieldsPair}
use Rattle.vdb_tree.proofs.PairWalks.{in_one_root}
use Rattle.vdb_tree.proofs.tree.TreeOf.take_pair.Goals as goal

pub returns-clause-block : goal.returns-clause-block
returns-clause-block g c =
    subst (YieldsPair (bits_of g.row.U g.row.L g.row.F) c.args.self.now c.args.other.now c.args.walk.now c.go_past_pair.new.walk) (sym c.pair_over.ensures.bounds) c.go_past_pair.ensures.yields

pub returns-clause-root : goal.returns-clause-root
returns-clause-root g c =
    in_one_root (bits_of g.row.U g.row.L g.row.F) c.pair_block-level.result.0 c.args.p c.pair_over.result.bounds (c.pair_over.ensures.bounds ∙ c.pair_block-level.ensures.block)
