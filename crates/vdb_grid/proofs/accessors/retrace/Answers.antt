use Rattle.std.proofs.Common.{◌<◌, ◌∙◌, length, arith}
use Rattle.vdb_grid.proofs.EachAccessor.{none_next, set_length, unused_traced, whole_all, whole_next}
use Rattle.vdb_grid.proofs.accessors.retrace.Goals.{in-Some, in_default}
use Rattle.vdb_grid.proofs.accessors.retrace.Goals as goal

pub loop-k-preserved : goal.loop-k-preserved
loop-k-preserved g c =
    elim c.match-coords-k.branch [
      | in-Some w ↦
          let b : c.loop-k.k < length c.loop-k.paths = omega arith in
          record {
            whole = rw w.paths-is (whole_next _ _ _ _ _ _ b c.loop-k.invariant.whole w.in-Some.is w.trace.ensures.whole);
            unused = rw w.paths-is (unused_traced _ _ _ _ _ w.in-Some.is c.loop-k.invariant.unused);
            length = rw w.paths-is (set_length c.args.tree.now _ _ _ ∙ c.loop-k.invariant.length);
            steps = rw w.steps-is (omega (arith, c.loop-k.invariant.steps, w.trace.ensures.steps));
          }
      | in_default w ↦
          record {
            whole = rw w.paths-is (none_next _ _ _ _ c.loop-k.invariant.whole w.in_default.is);
            unused = rw w.paths-is c.loop-k.invariant.unused;
            length = rw w.paths-is c.loop-k.invariant.length;
            steps = rw w.steps-is (omega (arith, c.loop-k.invariant.steps));
          }
    ]

pub returns-clause-whole : goal.returns-clause-whole
returns-clause-whole g c = whole_all _ _ _ (λ k p l e. c.loop-k.invariant.whole k p (omega arith) e)
