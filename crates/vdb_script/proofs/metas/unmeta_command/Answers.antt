use Rattle.vdb_script.proofs.Common.{◌≢◌, map, length, rules, length-map, unmeta}
use Rattle.vdb_script.proofs.Forms.{whole_takes, unmeta_takes}
use Rattle.vdb_script.proofs.metas.unmeta_command.Goals as goal

pub returns-in_default : goal.returns-in_default
returns-in_default c =
    let other : length c.args.tokens.now ≢ 2 = search rules in
    whole_takes 2 unmeta (map (λ t. t.now) c.args.tokens.now) unmeta_takes (simp length-map other)
