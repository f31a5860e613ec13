-- The first token of a line, and the bytes after it.
use Rattle.std.proofs.Common.{◌≡◌, ℕ, suc, ◌+◌, ◌-◌, ◌<◌, ◌≤◌, Bool, true, false, not, List, [], ◌∷◌, length, take, drop, get_or, refl, ap, sym, ◌∙◌, subst, arith, take_all, length-drop, slice_range}
use Rattle.std.specs.Prelude.{◌==◌}
use Rattle.std.specs.List.{prefix_len, take_while}
use Rattle.std.proofs.Math.Seq.{drop-cons}
use Rattle.std.proofs.lemmas.List.{drop_all}
use Rattle.std.proofs.lemmas.List.Folds.{length-prefix_len}
use Rattle.std.proofs.lemmas.List.Sums.{prefix_len_stops}
use Rattle.std.proofs.lemmas.Bool.Decides.{nat_tests}
use Rattle.vdb_script.specs.Lines.{is_separator, onto_first, tokens}

-- a byte of a token
abbrev is_inside : ℕ → Bool
is_inside b = not (is_separator b)

one_more : (n : ℕ) → 1 + n ≡ suc n
one_more n = omega arith

skipped_at : (b : ℕ) (bytes : List ℕ) (test : Bool) → is_separator b ≡ test → tokens (drop (prefix_len is_separator bytes) bytes) ≡ tokens bytes → tokens (drop (prefix_len is_separator (b ∷ bytes)) (b ∷ bytes)) ≡ tokens (b ∷ bytes)
skipped_at b bytes true e h = rw (e, one_more (prefix_len is_separator bytes)) h
skipped_at b bytes false e h =
    let none : drop (prefix_len is_separator (b ∷ bytes)) (b ∷ bytes) ≡ b ∷ bytes = rw e refl in
    ap tokens none

-- separators before the first token
skipped : (line : List ℕ) → tokens (drop (prefix_len is_separator line) line) ≡ tokens line
skipped [] = refl
skipped (b ∷ bytes) = skipped_at b bytes (is_separator b) refl (skipped bytes)

longer : (b c : ℕ) (bytes rest : List ℕ) (pieces : List (List ℕ)) → pieces ≡ (c ∷ bytes) ∷ tokens rest → onto_first b pieces ≡ (b ∷ c ∷ bytes) ∷ tokens rest
longer b c bytes rest pieces e = ap (onto_first b) e

token_first_at : (b c : ℕ) (bytes : List ℕ) (test : Bool) → is_separator c ≡ test → is_separator b ≡ false
    → (is_separator c ≡ false → tokens (c ∷ bytes) ≡ (c ∷ take (prefix_len is_inside bytes) bytes) ∷ tokens (drop (prefix_len is_inside bytes) bytes))
    → tokens (b ∷ c ∷ bytes) ≡ (b ∷ take (prefix_len is_inside (c ∷ bytes)) (c ∷ bytes)) ∷ tokens (drop (prefix_len is_inside (c ∷ bytes)) (c ∷ bytes))
token_first_at b c bytes true e f h = rw (f, e, e) refl
token_first_at b c bytes false e f h =
    let here = rw e at (h e) in
    rw (f, e, one_more (prefix_len is_inside bytes)) (longer b c (take (prefix_len is_inside bytes) bytes) (drop (prefix_len is_inside bytes) bytes) _ here)

-- the first token if a line begins with it
token_first : (b : ℕ) (bytes : List ℕ) → is_separator b ≡ false → tokens (b ∷ bytes) ≡ (b ∷ take (prefix_len is_inside bytes) bytes) ∷ tokens (drop (prefix_len is_inside bytes) bytes)
token_first b [] e = rw e refl
token_first b (c ∷ bytes) e = token_first_at b c bytes (is_separator c) refl e (token_first c bytes)

-- the rest of a line
rest_of : (line : List ℕ) (n : ℕ) → slice_range line n (length line) ≡ drop n line
rest_of line n = take_all (length line - n) (drop n line) (omega (arith, length-drop n line))

rest_none : (line : List ℕ) (n : ℕ) → (length (slice_range line n (length line)) == 0) ≡ true → length line ≤ n
rest_none line n e =
    let width : length (slice_range line n (length line)) ≡ length line - n = ap length (rest_of line n) ∙ length-drop n line in
    grind (arith, nat_tests)

rest_some : (line : List ℕ) (n : ℕ) → (length (slice_range line n (length line)) == 0) ≡ false → n < length line
rest_some line n e =
    let width : length (slice_range line n (length line)) ≡ length line - n = ap length (rest_of line n) ∙ length-drop n line in
    grind (arith, nat_tests)

-- a line of separators alone
pub no_token : (line : List ℕ) (n : ℕ) → n ≡ length (take_while is_separator line) → (length (slice_range line n (length line)) == 0) ≡ true → tokens line ≡ []
no_token line n e h =
    let all : length line ≤ n = rest_none line n h in
    let skip : n ≡ prefix_len is_separator line = e ∙ length-prefix_len is_separator line in
    sym (skipped line) ∙ ap tokens (drop_all (prefix_len is_separator line) line (omega arith))

token_whole : (b : ℕ) (bytes : List ℕ) → is_separator b ≡ false → tokens (b ∷ bytes) ≡ take (prefix_len is_inside (b ∷ bytes)) (b ∷ bytes) ∷ tokens (drop (prefix_len is_inside (b ∷ bytes)) (b ∷ bytes))
token_whole b bytes e = rw (e, one_more (prefix_len is_inside bytes)) (rw e at (token_first b bytes e))

token_at : (text : List ℕ) (b : ℕ) (bytes : List ℕ) → text ≡ b ∷ bytes → is_separator b ≡ false → tokens text ≡ take (prefix_len is_inside text) text ∷ tokens (drop (prefix_len is_inside text) text)
token_at text b bytes e f = rw e (token_whole b bytes f)

stops_at : (line : List ℕ) (n : ℕ) → n ≡ prefix_len is_separator line → n < length line → is_separator (get_or line n 0) ≡ false
stops_at line n e h = subst (λ m. m < length line → is_separator (get_or line m 0) ≡ false) (sym e) (prefix_len_stops is_separator line 0) h

-- the first token after the separators
pub some_token : (line : List ℕ) (n k : ℕ) → n ≡ length (take_while is_separator line) → (length (slice_range line n (length line)) == 0) ≡ false
    → k ≡ length (take_while is_inside (slice_range line n (length line)))
    → tokens line ≡ take k (slice_range line n (length line)) ∷ tokens (drop k (slice_range line n (length line)))
some_token line n k e h g =
    let text = slice_range line n (length line) in
    let some : n < length line = rest_some line n h in
    let skip : n ≡ prefix_len is_separator line = e ∙ length-prefix_len is_separator line in
    let width : k ≡ prefix_len is_inside text = g ∙ length-prefix_len is_inside text in
    let stops : is_separator (get_or line n 0) ≡ false = stops_at line n skip some in
    let at = token_at text (get_or line n 0) (drop (suc n) line) (rest_of line n ∙ drop-cons line n 0 some) stops in
    let whole : tokens text ≡ tokens line = ap tokens (rest_of line n ∙ ap (λ m. drop m line) skip) ∙ skipped line in
    sym whole ∙ at ∙ ap (λ m. take m text ∷ tokens (drop m text)) (sym width)
