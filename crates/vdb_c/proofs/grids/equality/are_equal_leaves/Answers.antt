use Rattle.vdb_c.proofs.Common.{◌≡◌, ◌*◌, arith, false, refl, subst, ℕ}
use Rattle.vdb_tree.proofs.Blocks.{never}
use Rattle.vdb_c.specs.Equality.{AreEqualRuns}
use Rattle.vdb_c.proofs.EqualCells.{more_runs, no_run, refuted, run_of}
use Rattle.vdb_c.proofs.grids.equality.are_equal_leaves.Goals as goal

pub loop-k-init : goal.loop-k-init
loop-k-init g c = λ d e. no_run d e c.args.a.now c.args.b.now

pub returns-then-not-are_equal_runs : goal.returns-then-not-are_equal_runs
returns-then-not-are_equal_runs g c = λ d e.
    refuted false refl (λ all. never c.if-not-are_equal_runs.true ((c.are_equal_runs.ensures d e).1 (run_of d e c.args.a.now c.args.b.now c.loop-k.k c.loop-k-test.true all)))

pub loop-k-preserved : goal.loop-k-preserved
loop-k-preserved g c = λ d e.
    more_runs d e c.args.a.now c.args.b.now c.loop-k.k (c.loop-k.invariant d e) ((c.are_equal_runs.ensures d e).0 c.if-not-are_equal_runs.false)

pub returns : goal.returns
returns g c = λ d e.
    let end : 64 * c.loop-k.k ≡ 512 = omega (arith, c.loop-k-test.false, c.loop-k.auto.k-end) in
    (λ _. subst (λ (n : ℕ). AreEqualRuns 0 n d e c.args.a.now c.args.b.now) end (c.loop-k.invariant d e), λ _. refl)
