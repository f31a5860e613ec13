use Rattle.vdb_script.proofs.Common.{◌≡◌, ◌≢◌, ℕ, List, [], ◌∷◌, Bor, ap, get_or, map, length, refl, rules, sym, length-map, fill, whole}
use Rattle.vdb_script.proofs.Forms.{nine, fill_takes, whole_takes}
use Rattle.vdb_script.proofs.parsing.fill_command.Goals as goal

pub returns-in_default : goal.returns-in_default
returns-in_default c =
    let other : length c.args.tokens.now ≢ 9 = search rules in
    whole_takes 9 fill (map (λ t. t.now) c.args.tokens.now) fill_takes (simp length-map other)

pub returns-in_ok-state_of-in-len9 : goal.returns-in_ok-state_of-in-len9
returns-in_ok-state_of-in-len9 c =
    let count : length c.args.tokens.now ≡ 9 = search rules in
    let other : Bor (List ℕ) = record { ref_ptr = (0, 0); now = [] } in
    let tokens = nine c.args.tokens.now other count in
    let last = (get_or c.args.tokens.now 7 other).now ∷ (get_or c.args.tokens.now 8 other).now ∷ [] in
    rw (ap (λ ts. whole (fill (map (λ t. t.now) ts))) tokens, sym c.in_ok-name_of-in-len9.ensures, c.in_ok-corners_of-in-len9.ensures last, sym c.in_ok-literal_of-in-len9.ensures, sym c.in_ok-state_of-in-len9.ensures) refl
