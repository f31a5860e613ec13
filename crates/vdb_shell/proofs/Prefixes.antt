-- The lines of a script if a prefix of it was read.
use Rattle.std.proofs.Common.{◌≡◌, ◌≢◌, refl, sym, ap, ◌∙◌, ℕ, ◌+◌, ◌<◌, ◌≤◌, Bool, true, false, cond, List, [], ◌∷◌, ◌++◌, length, take, arith, append_assoc, append-nil, length-append, ◌-◌, ◌^◌}
use Rattle.std.specs.Prelude.{nat_le}
use Rattle.std.proofs.Math.Seq.{take-append_seam, take-append-add, take-length}
use Rattle.std.proofs.lemmas.Bool.{le-leb}
use Rattle.std.specs.List.{AllByRecursion}
use Rattle.std.proofs.lemmas.Bool.{ne_eqb}
use Rattle.std.proofs.lemmas.List.Elements.{recursion_from_All}
use Rattle.vdb_script.specs.Lines.{lines, script_lines, whole_lines}
use Rattle.vdb_script.specs.Reading.{NoNewline, line_end}

-- ---- one line

-- the bytes of a line at the start of the first piece
lines_within : (line rest : List ℕ) → AllByRecursion (λ b. b ≢ 10) line → lines (line ++ 10 ∷ rest) ≡ line ∷ lines rest
lines_within [] rest h = refl
lines_within (b ∷ bs) rest h = rw (ne_eqb b 10 h.0, lines_within bs rest h.1) refl

whole_lines_within : (line rest : List ℕ) → AllByRecursion (λ b. b ≢ 10) line → whole_lines (line ++ 10 ∷ rest) ≡ line ∷ whole_lines rest
whole_lines_within [] rest h = refl
whole_lines_within (b ∷ bs) rest h = rw (ne_eqb b 10 h.0, whole_lines_within bs rest h.1) refl

last_within : (b : ℕ) (line : List ℕ) → AllByRecursion (λ c. c ≢ 10) (b ∷ line) → lines (b ∷ line) ≡ (b ∷ line) ∷ []
last_within b [] h = rw (ne_eqb b 10 h.0) refl
last_within b (c ∷ cs) h = rw (ne_eqb b 10 h.0, last_within c cs h.1) refl

none_within : (part : List ℕ) → AllByRecursion (λ b. b ≢ 10) part → whole_lines part ≡ []
none_within [] h = refl
none_within (b ∷ bs) h = rw (ne_eqb b 10 h.0, none_within bs h.1) refl

-- a line and its newline
pub lines_newline : (line rest : List ℕ) → NoNewline line → lines (line ++ 10 ∷ rest) ≡ line ∷ lines rest
lines_newline line rest h = lines_within line rest (recursion_from_All (λ b. b ≢ 10) line h)

pub whole_lines_newline : (line rest : List ℕ) → NoNewline line → whole_lines (line ++ 10 ∷ rest) ≡ line ∷ whole_lines rest
whole_lines_newline line rest h = whole_lines_within line rest (recursion_from_All (λ b. b ≢ 10) line h)

-- a last line without newline
pub lines_last : (line : List ℕ) → NoNewline line → 0 < length line → lines line ≡ line ∷ []
lines_last [] h some = absurd (omega (arith, some))
lines_last (b ∷ bs) h some = last_within b bs (recursion_from_All (λ c. c ≢ 10) (b ∷ bs) h)

-- a line whose newline hasn't come is not a whole line
pub whole_lines_part : (part : List ℕ) → NoNewline part → whole_lines part ≡ []
whole_lines_part part h = none_within part (recursion_from_All (λ b. b ≢ 10) part h)

-- ---- the lines of a prefix

-- The lines of a prefix: with any rest after it, the rest's lines follow; or the prefix is all, and its last line has no
-- newline.
abbrev pub HasLines : Bool → List ℕ → List (List ℕ) → Type 0
HasLines false front ls = (rest : List ℕ) → (lines (front ++ rest) ≡ ls ++ lines rest) × (whole_lines (front ++ rest) ≡ ls ++ whole_lines rest)
HasLines true front ls = lines front ≡ ls

-- a prefix without lines
pub has_none : HasLines false [] []
has_none rest = (refl, refl)

-- a line more
pub has_more : (at_end : Bool) (front line : List ℕ) (ls : List (List ℕ)) → HasLines false front ls → NoNewline line → (at_end ≡ true → 0 < length line)
    → HasLines at_end (front ++ (line ++ line_end at_end)) (ls ++ line ∷ [])
has_more false front line ls h inside last = λ rest.
    let split : (front ++ (line ++ 10 ∷ [])) ++ rest ≡ front ++ (line ++ 10 ∷ rest) =
    append_assoc front (line ++ 10 ∷ []) rest ∙ ap (λ l. front ++ l) (append_assoc line (10 ∷ []) rest) in (
      ap lines split ∙ (h (line ++ 10 ∷ rest)).0 ∙ ap (λ l. ls ++ l) (lines_newline line rest inside) ∙ sym (append_assoc ls (line ∷ []) (lines rest)),
      ap whole_lines split ∙ (h (line ++ 10 ∷ rest)).1 ∙ ap (λ l. ls ++ l) (whole_lines_newline line rest inside) ∙ sym (append_assoc ls (line ∷ []) (whole_lines rest)),
    )
has_more true front line ls h inside last =
    ap (λ l. lines (front ++ l)) (append-nil line) ∙ (h line).0 ∙ ap (λ l. ls ++ l) (lines_last line inside (last refl))

-- the whole lines of a prefix and of a part of a line
pub has_whole : (front part : List ℕ) (ls : List (List ℕ)) → HasLines false front ls → NoNewline part → whole_lines (front ++ part) ≡ ls
has_whole front part ls h inside = (h part).1 ∙ ap (λ l. ls ++ l) (whole_lines_part part inside) ∙ append-nil ls

-- a prefix has no more lines than the prefix with its rest
pub has_at_least : (done : Bool) (front more : List ℕ) (ls : List (List ℕ)) → HasLines done front ls → (done ≡ true → more ≡ []) → length ls ≤ length (lines (front ++ more))
has_at_least false front more ls h last = omega (arith, ap length (h more).0, length-append ls (lines more))
has_at_least true front more ls h last = omega (arith, ap length (ap (λ l. lines (front ++ l)) (last refl) ∙ ap lines (append-nil front) ∙ h))

-- a prefix of a script within the limit has its first lines
pub begins_with : (done : Bool) (front rest : List ℕ) (ls : List (List ℕ)) → HasLines done front ls → length front ≤ 2 ^ 24 → (done ≡ true → rest ≡ [])
    → take (length ls) (script_lines (front ++ rest)) ≡ ls
begins_with false front rest ls h few last = either (nat_le (length (front ++ rest)) (2 ^ 24))
  where
    either : (b : Bool) → take (length ls) (cond b (lines (front ++ rest)) (whole_lines (take (2 ^ 24) (front ++ rest)))) ≡ ls
    either true = ap (take (length ls)) (h rest).0 ∙ take-append_seam ls (lines rest)
    either false =
        let over : length front + (2 ^ 24 - length front) ≡ 2 ^ 24 = omega (arith, few) in
        let cut : take (2 ^ 24) (front ++ rest) ≡ front ++ take (2 ^ 24 - length front) rest =
        ap (λ n. take n (front ++ rest)) (sym over) ∙ take-append-add front rest (2 ^ 24 - length front) in
        ap (take (length ls)) (ap whole_lines cut ∙ (h (take (2 ^ 24 - length front) rest)).1) ∙ take-append_seam ls (whole_lines (take (2 ^ 24 - length front) rest))
begins_with true front rest ls h few last =
    ap (λ l. take (length ls) (script_lines (front ++ l))) (last refl) ∙ ap (λ l. take (length ls) (script_lines l)) (append-nil front)
    ∙ ap (λ b. take (length ls) (cond b (lines front) (whole_lines (take (2 ^ 24) front)))) (le-leb (length front) (2 ^ 24) few)
    ∙ ap (take (length ls)) h ∙ take_whole ls
  where
    take_whole : (xs : List (List ℕ)) → take (length xs) xs ≡ xs
    take_whole xs = take-length xs
