use Rattle.vdb_script.proofs.Common.{◌≢◌, map, length, rules, length-map, iterations}
use Rattle.vdb_script.proofs.Forms.{whole_takes, iterations_takes}
use Rattle.vdb_script.proofs.iterations.name_and_iterations.Goals as goal

pub returns-in_default : goal.returns-in_default
returns-in_default c = λ make.
    let other : length c.args.tokens.now ≢ 2 = search rules in
    whole_takes 2 (iterations make) (map (λ t. t.now) c.args.tokens.now) (iterations_takes make) (simp length-map other)
