use Rattle.vdb_script.proofs.Common.{◌≢◌, map, length, rules, length-map, voxel_value}
use Rattle.vdb_script.proofs.Forms.{whole_takes, voxel_value_takes}
use Rattle.vdb_script.proofs.parsing.voxel_value.Goals as goal

pub returns-in_default : goal.returns-in_default
returns-in_default c = λ make.
    let other : length c.args.tokens.now ≢ 6 = search rules in
    whole_takes 6 (voxel_value make) (map (λ t. t.now) c.args.tokens.now) (voxel_value_takes make) (simp length-map other)
