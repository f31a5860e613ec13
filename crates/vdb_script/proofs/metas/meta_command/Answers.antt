use Rattle.vdb_script.proofs.Common.{◌≢◌, map, length, rules, length-map, meta}
use Rattle.vdb_script.proofs.Forms.{whole_takes, meta_takes}
use Rattle.vdb_script.proofs.metas.meta_command.Goals as goal

pub returns-in_default : goal.returns-in_default
returns-in_default c =
    let other : length c.args.tokens.now ≢ 3 = search rules in
    whole_takes 3 meta (map (λ t. t.now) c.args.tokens.now) meta_takes (simp length-map other)
