use Rattle.vdb_script.proofs.Common.{◌≢◌, map, length, rules, length-map, copy}
use Rattle.vdb_script.proofs.Forms.{whole_takes, copy_takes}
use Rattle.vdb_script.proofs.parsing.copy_command.Goals as goal

pub returns-in_default : goal.returns-in_default
returns-in_default c =
    let other : length c.args.tokens.now ≢ 2 = search rules in
    whole_takes 2 copy (map (λ t. t.now) c.args.tokens.now) copy_takes (simp length-map other)
