use Rattle.vdb_file.proofs.Common.{refl, arith, rules, scene_of, grid_bytes, head_bytes}
use Rattle.vdb_file.proofs.Outputs.{puts_none}
use Rattle.vdb_file.proofs.Passing.{all_taken, member_at, taken_put}
use Rattle.vdb_file.proofs.saving.put_grids.Goals as goal

pub loop-i-init : goal.loop-i-init
loop-i-init g c = record { puts = puts_none _; failed = refl }

pub loop-i-preserved : goal.loop-i-preserved
loop-i-preserved g c =
    let less = c.loop-i-test.true in
    let len = c.grid_count-i-end.ensures in
    let m = member_at (scene_of c.args.scene.now) c.loop-i.i (omega (arith, less, len)) in
    record {
      puts = taken_put (grid_bytes head_bytes) (scene_of c.args.scene.now) c.loop-i.i m.0 m.1 _ _ _ c.loop-i.invariant.puts (c.in_ok-put_nth.ensures.puts m.0 m.1);
      failed = search rules;
    }

pub returns-clause-puts : goal.returns-clause-puts
returns-clause-puts g c =
    let past = c.loop-i-test.false in
    let len = c.grid_count-i-end.ensures in
    all_taken (grid_bytes head_bytes) (scene_of c.args.scene.now) c.loop-i.i (omega (arith, past, len)) _ _ c.loop-i.invariant.puts
