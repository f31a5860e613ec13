use Rattle.vdb_script.proofs.Common.{◌≢◌, map, length, rules, length-map, slice}
use Rattle.vdb_script.proofs.Forms.{whole_takes, slice_takes}
use Rattle.vdb_script.proofs.parsing.slice_command.Goals as goal

pub returns-in_default : goal.returns-in_default
returns-in_default c =
    let other : length c.args.tokens.now ≢ 6 = search rules in
    whole_takes 6 slice (map (λ t. t.now) c.args.tokens.now) slice_takes (simp length-map other)
