use Rattle.vdb_script.proofs.Common.{◌≡◌, ◌+◌, ◌++◌, ◌∷◌, ℕ, List, sym, ◌∙◌, ap, map, length, arith, rules, append-nil, length-append, length-map, tokens}
use Rattle.vdb_script.proofs.Forms.{line_meant, line_refused}
use Rattle.vdb_script.proofs.parsing.parse.Goals as goal

-- what comes after the word
behind_word : (line word : List ℕ) (others rest : List (List ℕ)) → tokens line ≡ word ∷ others → tokens line ≡ word ∷ rest → others ≡ rest
behind_word line word others rest e h = let same : word ∷ others ≡ word ∷ rest = sym e ∙ h in cc

count_of : {A B : Type 0} (f : A → B) (xs : List A) (ys rest : List B) (y : B) → ys ≡ y ∷ rest → length (map f xs ++ ys) ≡ length xs + (length rest + 1)
count_of f xs ys rest y e = let all = length-append (map f xs) ys in let some = length-map xs f in let more = ap length e in omega (arith, all, some, more)

pub returns-then-len-eq-ARGUMENT_LIMIT : goal.returns-then-len-eq-ARGUMENT_LIMIT
returns-then-len-eq-ARGUMENT_LIMIT c =
    let l = c.loop-token in
    let found = map (λ t. t.now) l.tokens.items in
    let others = behind_word c.args.line.now c.in-Some.word.now (found ++ tokens l.left.now) (tokens c.in-Some.rest.now) l.invariant.told c.in-Some.ensures.some in
    let more = count_of (λ t. t.now) l.tokens.items (tokens l.left.now) (tokens c.in-Some-first_token.behind.now) c.in-Some-first_token.token.now c.in-Some-first_token.ensures.some in
    let nine : length l.tokens.items ≡ 9 = search rules in
    line_refused c.args.line.now c.in-Some.word.now c.in-Some.rest.now c.in-Some.ensures.some (sym c.is_comment.ensures ∙ c.if-is_comment.false)
    (let all = ap length others in omega (arith, all, more, nine))

pub returns-in-Some-command_of : goal.returns-in-Some-command_of
returns-in-Some-command_of c =
    let l = c.loop-token in
    let found = map (λ t. t.now) l.tokens.items in
    let others = behind_word c.args.line.now c.in-Some.word.now (found ++ tokens l.left.now) (tokens c.in-Some.rest.now) l.invariant.told c.in-Some.ensures.some in
    let meant = line_meant c.args.line.now c.in-Some.word.now c.in-Some.rest.now found c.in-Some.ensures.some (sym c.is_comment.ensures ∙ c.if-is_comment.false) (sym (append-nil found) ∙ ap (λ (ys : List (List ℕ)). found ++ ys) (sym c.in_default-first_token.ensures.none) ∙ others) in
    let given = ap (map (λ t. t.now)) c.as_slice.ensures in
    let made = rw c.in-Some-command_of.is at c.command_of.ensures in
    cc

pub returns : goal.returns
returns c =
    let l = c.loop-token in
    let found = map (λ t. t.now) l.tokens.items in
    let others = behind_word c.args.line.now c.in-Some.word.now (found ++ tokens l.left.now) (tokens c.in-Some.rest.now) l.invariant.told c.in-Some.ensures.some in
    let meant = line_meant c.args.line.now c.in-Some.word.now c.in-Some.rest.now found c.in-Some.ensures.some (sym c.is_comment.ensures ∙ c.if-is_comment.false) (sym (append-nil found) ∙ ap (λ (ys : List (List ℕ)). found ++ ys) (sym c.in_default-first_token.ensures.none) ∙ others) in
    let given = ap (map (λ t. t.now)) c.as_slice.ensures in
    let made = rw c.in-None.is at c.command_of.ensures in
    cc
