use Rattle.vdb_script.proofs.Common.{◌≢◌, map, length, rules, length-map}
use Rattle.vdb_script.proofs.Forms.{no_grid}
use Rattle.vdb_script.proofs.parsing.grid_command.Goals as goal
use Rattle.vdb_script.proofs.parsing.grid_command.Goals.{in_default-via-then-tokens-lt3, in_default-via-else-tokens-lt3+else-tokens-lt4+else-tokens-lt5}

pub returns-in_default : goal.returns-in_default
returns-in_default c =
    let apart : (length c.args.tokens.now ≢ 3) × (length c.args.tokens.now ≢ 4) = elim c.in_default.branch [
      | in_default-via-then-tokens-lt3 w ↦ (search rules, search rules)
      | in_default-via-else-tokens-lt3+else-tokens-lt4+else-tokens-lt5 w ↦ (search rules, search rules)
    ] in
    let three = apart.0 in
    let four = apart.1 in
    no_grid (map (λ t. t.now) c.args.tokens.now) (simp length-map three) (simp length-map four)
