use Rattle.vdb_script.proofs.Common.{◌≢◌, map, length, rules, length-map, metas}
use Rattle.vdb_script.proofs.Forms.{whole_takes, metas_takes}
use Rattle.vdb_script.proofs.metas.metas_command.Goals as goal

pub returns-in_default : goal.returns-in_default
returns-in_default c =
    let other : length c.args.tokens.now ≢ 1 = search rules in
    whole_takes 1 metas (map (λ t. t.now) c.args.tokens.now) metas_takes (simp length-map other)
