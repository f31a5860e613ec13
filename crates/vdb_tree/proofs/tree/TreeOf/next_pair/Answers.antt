use Rattle.vdb_tree.proofs.Common.{◌∙◌, arith, false, sym, bits_of}
use Rattle.vdb_tree.proofs.PairWalks.{passes_on, some_on}
use Rattle.vdb_tree.proofs.PartWalks.{if_none}
use Rattle.vdb_tree.proofs.tree.TreeOf.next_pair.Goals as goal

pub returns-then-is_some-clause-block : goal.returns-then-is_some-clause-block
returns-then-is_some-clause-block g c =
    some_on (bits_of g.row.U g.row.L g.row.F) c.args.self.now c.args.other.now (λ pair. pair.bounds) c.args.walk.now c.starts.walk c.pair_step-pair.new.walk c.starts.invariant.passes
    c.pair_step-pair.result c.pair_step-pair.ensures.block

pub starts-preserved : goal.starts-preserved
starts-preserved g c =
    let passed = if_none c.pair_step-pair.result (sym c.is_some.ensures ∙ c.if-is_some.false) c.pair_step-pair.ensures.passed in
    record {
      walk = c.pair_step-pair.ensures.walk;
      passes = passes_on (bits_of g.row.U g.row.L g.row.F) c.args.self.now c.args.other.now c.args.walk.now c.starts.walk c.pair_step-pair.new.walk c.starts.invariant.passes (λ q. false) passed;
      few = omega (arith, c.pair_step-pair.ensures.nearer, c.starts.invariant.few);
    }
