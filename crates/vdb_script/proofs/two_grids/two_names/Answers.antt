use Rattle.vdb_script.proofs.Common.{◌≢◌, map, length, rules, length-map, two_grids}
use Rattle.vdb_script.proofs.Forms.{whole_takes, two_grids_takes}
use Rattle.vdb_script.proofs.two_grids.two_names.Goals as goal

pub returns-in_default : goal.returns-in_default
returns-in_default c = λ make.
    let other : length c.args.tokens.now ≢ 2 = search rules in
    whole_takes 2 (two_grids make) (map (λ t. t.now) c.args.tokens.now) (two_grids_takes make) (simp length-map other)
