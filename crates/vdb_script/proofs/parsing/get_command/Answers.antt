use Rattle.vdb_script.proofs.Common.{◌≢◌, map, length, rules, length-map, get}
use Rattle.vdb_script.proofs.Forms.{whole_takes, get_takes}
use Rattle.vdb_script.proofs.parsing.get_command.Goals as goal

pub returns-in_default : goal.returns-in_default
returns-in_default c =
    let other : length c.args.tokens.now ≢ 5 = search rules in
    whole_takes 5 get (map (λ t. t.now) c.args.tokens.now) get_takes (simp length-map other)
