use Rattle.vdb_script.proofs.Common.{◌≡◌, ◌≢◌, [], ap, map, length, refl, rules, sym, length-map, voxelise, whole}
use Rattle.vdb_script.proofs.Forms.{seven, voxelise_takes, whole_takes}
use Rattle.vdb_script.proofs.parsing.voxelise_command.Goals as goal

pub returns-in_default : goal.returns-in_default
returns-in_default c =
    let other : length c.args.tokens.now ≢ 7 = search rules in
    whole_takes 7 voxelise (map (λ t. t.now) c.args.tokens.now) voxelise_takes (simp length-map other)

pub returns-in_ok-corners_of-in-len7 : goal.returns-in_ok-corners_of-in-len7
returns-in_ok-corners_of-in-len7 c =
    let count : length c.args.tokens.now ≡ 7 = search rules in
    let tokens = seven c.args.tokens.now (record { ref_ptr = (0, 0); now = [] }) count in
    rw (ap (λ ts. whole (voxelise (map (λ t. t.now) ts))) tokens, sym c.in_ok-name_of-in-len7.ensures, c.in_ok-corners_of-in-len7.ensures []) refl
