use Rattle.vdb_script.proofs.Common.{◌≡◌, ◌≢◌, ◌∙◌, [], Ok, Some, ap, map, length, refl, rules, sym, length-map, count_box, whole}
use Rattle.vdb_scene.specs.declared.command.Command.TheVariants.{Count}
use Rattle.vdb_script.proofs.Forms.{count_of_seven, no_count, seven}
use Rattle.vdb_script.proofs.parsing.count_command.Goals as goal
use Rattle.vdb_script.proofs.parsing.count_command.Goals.{in_default-via-then-tokens-lt2, in_default-via-else-tokens-lt2+else-tokens-lt3+then-tokens-lt7, in_default-via-else-tokens-lt2+else-tokens-lt3+else-tokens-lt7+else-tokens-lt8}

pub returns-in_ok-corners_of-in-len7 : goal.returns-in_ok-corners_of-in-len7
returns-in_ok-corners_of-in-len7 c =
    let number : length c.args.tokens.now ≡ 7 = search rules in
    let tokens = seven c.args.tokens.now (record { ref_ptr = (0, 0); now = [] }) number in
    let boxed : Ok (Some (Count c.in_ok-name_of-in-len7.field-0 (Some c.in_ok-corners_of-in-len7.field-0))) ≡ whole (count_box (map (λ t. t.now) c.args.tokens.now)) =
    rw (ap (λ ts. whole (count_box (map (λ t. t.now) ts))) tokens, sym c.in_ok-name_of-in-len7.ensures, c.in_ok-corners_of-in-len7.ensures []) refl in
    boxed ∙ sym (count_of_seven (map (λ t. t.now) c.args.tokens.now) (simp length-map number))

pub returns-in_default : goal.returns-in_default
returns-in_default c =
    let apart : (length c.args.tokens.now ≢ 2) × (length c.args.tokens.now ≢ 7) = elim c.in_default.branch [
      | in_default-via-then-tokens-lt2 w ↦ (search rules, search rules)
      | in_default-via-else-tokens-lt2+else-tokens-lt3+then-tokens-lt7 w ↦ (search rules, search rules)
      | in_default-via-else-tokens-lt2+else-tokens-lt3+else-tokens-lt7+else-tokens-lt8 w ↦ (search rules, search rules)
    ] in
    let two = apart.0 in
    let seven = apart.1 in
    no_count (map (λ t. t.now) c.args.tokens.now) (simp length-map two) (simp length-map seven)
