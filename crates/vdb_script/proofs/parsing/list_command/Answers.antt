use Rattle.vdb_script.proofs.Common.{◌≡◌, ◌≢◌, ℕ, List, [], ◌∷◌, Bor, ap, get_or, map, length, refl, rules, sym, length-map, list, whole}
use Rattle.vdb_script.proofs.Forms.{eight, list_takes, whole_takes}
use Rattle.vdb_script.proofs.parsing.list_command.Goals as goal

pub returns-in_default : goal.returns-in_default
returns-in_default c =
    let other : length c.args.tokens.now ≢ 8 = search rules in
    whole_takes 8 list (map (λ t. t.now) c.args.tokens.now) list_takes (simp length-map other)

pub returns-in_ok-number_of-in-len8 : goal.returns-in_ok-number_of-in-len8
returns-in_ok-number_of-in-len8 c =
    let count : length c.args.tokens.now ≡ 8 = search rules in
    let other : Bor (List ℕ) = record { ref_ptr = (0, 0); now = [] } in
    let tokens = eight c.args.tokens.now other count in
    let last = (get_or c.args.tokens.now 7 other).now ∷ [] in
    rw (ap (λ ts. whole (list (map (λ t. t.now) ts))) tokens, sym c.in_ok-name_of-in-len8.ensures, c.in_ok-corners_of-in-len8.ensures last, sym c.in_ok-number_of-in-len8.ensures) refl
