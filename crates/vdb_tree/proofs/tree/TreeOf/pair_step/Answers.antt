use Rattle.vdb_tree.proofs.Common.{false, bits_of}
use Rattle.vdb_tree.proofs.PairWalks.{passes_from, yields_from}
use Rattle.vdb_tree.proofs.tree.TreeOf.pair_step.Goals as goal

pub returns-then-is_background_end-2-clause-passed : goal.returns-then-is_background_end-2-clause-passed
returns-then-is_background_end-2-clause-passed g c =
    passes_from (bits_of g.row.U g.row.L g.row.F) c.args.self.now c.args.other.now c.args.walk.now c.pair_ends.new.walk c.pass_background.new.walk c.pair_ends.ensures.at (λ q. false) c.pass_background.ensures.passed

pub returns-else-is_background_end-clause-block : goal.returns-else-is_background_end-clause-block
returns-else-is_background_end-clause-block g c =
    yields_from (bits_of g.row.U g.row.L g.row.F) c.args.self.now c.args.other.now c.args.walk.now c.pair_ends.new.walk c.take_pair.new.walk c.pair_ends.ensures.at c.take_pair.result.bounds c.take_pair.ensures.block
