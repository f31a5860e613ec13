use Rattle.vdb_tree.proofs.Common.{◌∙◌, arith, false, sym, bits_of}
use Rattle.vdb_tree.proofs.PartWalks.{if_none, passes_on, some_on}
use Rattle.vdb_tree.proofs.tree.TreeOf.next_part.Goals as goal

pub returns-then-is_some-clause-part : goal.returns-then-is_some-clause-part
returns-then-is_some-clause-part g c =
    some_on (bits_of g.row.U g.row.L g.row.F) c.args.self.now (λ part. part.bounds) c.args.walk.now c.starts.walk c.step-part.new.walk c.starts.invariant.passes c.step-part.result c.step-part.ensures.part

pub starts-preserved : goal.starts-preserved
starts-preserved g c =
    let passed = if_none c.step-part.result (sym c.is_some.ensures ∙ c.if-is_some.false) c.step-part.ensures.passed in
    record {
      walk = c.step-part.ensures.walk;
      passes = passes_on (bits_of g.row.U g.row.L g.row.F) c.args.self.now c.args.walk.now c.starts.walk c.step-part.new.walk c.starts.invariant.passes (λ q. false) passed;
      few = omega (arith, c.step-part.ensures.nearer, c.starts.invariant.few);
    }
