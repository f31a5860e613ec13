use Rattle.vdb_script.proofs.Common.{◌≢◌, map, length, rules, length-map, state}
use Rattle.vdb_script.proofs.Forms.{whole_takes, state_takes}
use Rattle.vdb_script.proofs.parsing.state_command.Goals as goal

pub returns-in_default : goal.returns-in_default
returns-in_default c =
    let other : length c.args.tokens.now ≢ 6 = search rules in
    whole_takes 6 state (map (λ t. t.now) c.args.tokens.now) state_takes (simp length-map other)
