use Rattle.vdb_file.proofs.Common.{◌++◌, ℕ, List, refl, arith, rules, counted}
use Rattle.vdb_file.proofs.Outputs.{puts_none}
use Rattle.vdb_file.proofs.Passing.{all_taken, member_at, taken_put}
use Rattle.vdb_file.proofs.saving.put_each_pair.Goals as goal

pub loop-i-init : goal.loop-i-init
loop-i-init g c = record { puts = puts_none _; failed = refl }

pub loop-i-preserved : goal.loop-i-preserved
loop-i-preserved g c =
    let less = c.loop-i-test.true in
    let len = c.len-i-end.ensures.pairs in
    let m = member_at c.args.metas.now c.loop-i.i (omega (arith, less, len)) in
    record {
      puts = taken_put (λ (pair : List ℕ × List ℕ). counted pair.0 ++ counted pair.1) c.args.metas.now c.loop-i.i m.0 m.1 _ _ _ c.loop-i.invariant.puts (c.in_ok-put_pair.ensures.puts m.0 m.1);
      failed = search rules;
    }

pub returns-clause-puts : goal.returns-clause-puts
returns-clause-puts g c =
    let past = c.loop-i-test.false in
    let len = c.len-i-end.ensures.pairs in
    all_taken (λ (pair : List ℕ × List ℕ). counted pair.0 ++ counted pair.1) c.args.metas.now c.loop-i.i (omega (arith, past, len)) _ _ c.loop-i.invariant.puts
