-- A script that is played line by line: the yielded part so far, and its outcome at each end.
use Rattle.vdb_shell.proofs.Common.{◌≡◌, refl, sym, ap, ◌∙◌, subst, ℕ, ◌+◌, ◌^◌, ◌<◌, ◌≤◌, Bool, true, false, ◌||◌, List, [], ◌∷◌, ◌++◌, length, take, Option, Some, None, arith, append_assoc, append-nil, length-append, list_any, Consumes, prepend_known, take-append_seam, Scene, Reply, lines, script_lines, whole_lines, YieldsLine, YieldsPart, YieldsTooMuch, Stock, budget, line_end, Run, TakesLine, read, answers_text, text, PlaysFrom, is_refused, Script, Answers}
use Rattle.std.specs.Io.KnownBytes.{IsAtEnd}
use Rattle.std.proofs.KnownBytes.{Consumes-trans}
use Rattle.vdb_script.specs.declared.source.ScriptFault.TheVariants as script_faults
use Rattle.vdb_shell.specs.Session.{IsPrefixOf}
use Rattle.vdb_shell.proofs.Prefixes.{HasLines, begins_with, has_at_least, has_more, has_none, has_whole}

-- ---- runs

-- one line more
pub run_more : (s mid next : Scene) (ls : List (List ℕ)) (line : List ℕ) (replies first : List Reply) → Run s ls replies mid → TakesLine mid (read line) first next
    → Run s (ls ++ line ∷ []) (replies ++ first) next
run_more s mid next [] line replies first r t =
    (first, [], next, ap (λ l. l ++ first) r.0 ∙ sym (append-nil first), subst (λ m. TakesLine m (read line) first next) r.1 t, (refl, refl))
run_more s mid next (l ∷ ls) line replies first r t =
    (r.0, r.1 ++ first, r.2, ap (λ x. x ++ first) r.3 ∙ append_assoc r.0 r.1 first, r.4, run_more r.2 mid next ls line r.1 first r.5 t)

any_append : {X : Type 0} (test : X → Bool) (xs ys : List X) → list_any test (xs ++ ys) ≡ (list_any test xs || list_any test ys)
any_append test [] ys = refl
any_append test (x ∷ xs) ys = ap (λ b. test x || b) (any_append test xs ys) ∙ regrouped (test x) (list_any test xs) (list_any test ys)
  where
    regrouped : (a b c : Bool) → (a || (b || c)) ≡ ((a || b) || c)
    regrouped true b c = refl
    regrouped false b c = refl

-- ---- the yielded part so far

-- From the scene s on: the prefix of the script that was yielded, its lines, their answers and the scene after them. `done`
-- says that the last of these lines ended with the script.
pub record Handed (s : Scene) (bytes : List ℕ) (known : Option (List ℕ)) (stock : Stock) (now : Scene) (any_refused : Bool) : Type 0 where
  pub front : List ℕ
  pub handed : List (List ℕ)
  pub replies : List Reply
  pub done : Bool
  pub consumed : Consumes (Some bytes) known front
  pub limit : length front + budget stock ≡ 2 ^ 24
  pub lines : HasLines done front handed
  pub at_end : done ≡ true → (stock.ended ≡ true) × IsAtEnd known
  pub run : Run s handed replies now
  pub refused : any_refused ≡ list_any is_refused replies

-- nothing yet
pub handed_none : (s : Scene) (bytes : List ℕ) (known : Option (List ℕ)) (stock : Stock) → known ≡ Some bytes → budget stock ≡ 2 ^ 24
    → (h : Handed s bytes known stock s false) × (h.replies ≡ [])
handed_none s bytes known stock is limit = (
  record {
    front = [];
    handed = [];
    replies = [];
    done = false;
    consumed = subst (λ k. Consumes (Some bytes) k []) (sym is) refl;
    limit = omega (arith, limit);
    lines = has_none;
    at_end = λ h. absurd (false_true h);
    run = (refl, refl);
    refused = refl;
  },
  refl,
)
  where
    false_true : false ≡ true → ⊥
    false_true h = cc

-- nothing more can be yielded at the end
nothing_left : (bytes front : List ℕ) (known new : Option (List ℕ)) (more : List ℕ) → Consumes (Some bytes) known front → IsAtEnd known → Consumes known new more → more ≡ []
nothing_left bytes front None new more c end next = absurd c
nothing_left bytes front (Some ys) None more c end next = absurd next
nothing_left bytes front (Some ys) (Some zs) [] c end next = refl
nothing_left bytes front (Some ys) (Some zs) (m ∷ ms) c end next = absurd (empty (sym end ∙ next))
  where
    empty : [] ≡ (m ∷ ms) ++ zs → ⊥
    empty h = cc

not_nothing : (at_end : Bool) (line : List ℕ) → (at_end ≡ true → 0 < length line) → line ++ line_end at_end ≡ [] → ⊥
not_nothing false [] last h = cc
not_nothing false (b ∷ bs) last h = cc
not_nothing true [] last h = let some : 0 < 0 = last refl in omega (arith, some)
not_nothing true (b ∷ bs) last h = cc

-- the bytes that the reader gave are the prefix and the unread ones
given_all : (bytes front unread : List ℕ) (new left : Option (List ℕ)) → Consumes (Some bytes) new front → new ≡ prepend_known unread left → Consumes (Some bytes) left (front ++ unread)
given_all bytes front unread new None c is = absurd (subst (λ k. Consumes (Some bytes) k front) is c)
given_all bytes front unread new (Some ys) c is =
    let all : bytes ≡ front ++ (unread ++ ys) = subst (λ k. Consumes (Some bytes) k front) is c in all ∙ sym (append_assoc front unread ys)

-- at the end no byte is unread
none_unread : (bytes front unread : List ℕ) (new left : Option (List ℕ)) → Consumes (Some bytes) new front → new ≡ prepend_known unread left → IsAtEnd new → unread ≡ []
none_unread bytes front unread new None c is end = absurd (subst (λ k. Consumes (Some bytes) k front) is c)
none_unread bytes front [] new (Some ys) c is end = refl
none_unread bytes front (u ∷ us) new (Some ys) c is end = absurd (some_bytes (subst IsAtEnd is end))
  where
    some_bytes : (u ∷ us) ++ ys ≡ [] → ⊥
    some_bytes h = cc

-- the bytes after the prefix
rest_of : (bytes front : List ℕ) (new : Option (List ℕ)) → Consumes (Some bytes) new front → (rest : List ℕ) × (bytes ≡ front ++ rest) × (IsAtEnd new → rest ≡ [])
rest_of bytes front None c = absurd c
rest_of bytes front (Some ys) c = (ys, c, λ end. end)

-- the first n bytes
take_front : (n : ℕ) (xs ys : List ℕ) → length xs ≡ n → take n (xs ++ ys) ≡ xs
take_front n xs ys e = ap (λ k. take k (xs ++ ys)) (sym e) ∙ take-append_seam xs ys

module _ (s : Scene) (bytes : List ℕ) (known : Option (List ℕ)) (stock : Stock) (now : Scene) (any_refused : Bool) (t : Handed s bytes known stock now any_refused) where
  -- of a prefix that is not the whole
  not_all : {P : Type 0} (done : Bool) → t.done ≡ done → (done ≡ true → ⊥) → (HasLines false t.front t.handed → P) → P
  not_all true is never f = absurd (never refl)
  not_all false is never f = f (subst (λ d. HasLines d t.front t.handed) is t.lines)

  -- if more is yielded, the prefix is not the whole
  lines_before : (more : List ℕ) (new : Option (List ℕ)) → Consumes known new more → (more ≡ [] → ⊥) → HasLines false t.front t.handed
  lines_before more new next some =
      let open_front : t.done ≡ true → ⊥ = λ h. some (nothing_left bytes t.front known new more t.consumed (t.at_end h).1 next) in not_all t.done refl open_front (λ h. h)

  -- one line more, with its step
  pub handed_line : (new : Option (List ℕ)) (after : Stock) (later : Scene) (line : List ℕ) (first : List Reply) (refused : Bool)
      → YieldsLine known new stock after line → TakesLine now (read line) first later → refused ≡ (any_refused || list_any is_refused first)
      → (h : Handed s bytes new after later refused) × (h.replies ≡ t.replies ++ first)
  handed_line new after later line first refused h step is =
      let more = line ++ line_end h.at_end in
      let last : h.at_end ≡ true → 0 < length line = λ e. (h.last e).0 in (
        record {
          front = t.front ++ more;
          handed = t.handed ++ line ∷ [];
          replies = t.replies ++ first;
          done = h.at_end;
          consumed = Consumes-trans (Some bytes) known new t.front more t.consumed h.bytes;
          limit = omega (arith, t.limit, h.budget, length-append t.front more);
          lines = has_more h.at_end t.front line t.handed (lines_before more new h.bytes (not_nothing h.at_end line last)) h.inside last;
          at_end = λ e. ((h.last e).1, (h.last e).2);
          run = run_more s now later t.handed line t.replies first t.run step;
          refused = is ∙ ap (λ b. b || list_any is_refused first) t.refused ∙ sym (any_append is_refused t.replies first);
        },
        refl,
      )

  -- the bytes that the reader gave so far
  pub handed_given : (left : Option (List ℕ)) → known ≡ prepend_known stock.unread left → Consumes (Some bytes) left (t.front ++ stock.unread)
  handed_given left is = given_all bytes t.front stock.unread known left t.consumed is

  -- the reader gave a byte past the limit
  pub played_too_long : (left : Option (List ℕ)) → YieldsTooMuch known left stock
      → (given : List ℕ) × Consumes (Some bytes) left given × PlaysFrom s bytes (Some (Script script_faults.TooLong)) any_refused given (answers_text t.replies) now
  played_too_long left h =
      let more = h.part ++ h.further ∷ [] in
      let given = t.front ++ more in
      let consumed : Consumes (Some bytes) left given = Consumes-trans (Some bytes) known left t.front more t.consumed h.bytes in
      let behind = rest_of bytes given left consumed in
      let whole : length (t.front ++ h.part) ≡ 2 ^ 24 = omega (arith, t.limit, h.budget, length-append t.front h.part) in
      let split : bytes ≡ (t.front ++ h.part) ++ (h.further ∷ behind.0) =
      behind.1 ∙ append_assoc t.front more behind.0 ∙ ap (λ l. t.front ++ l) (append_assoc h.part (h.further ∷ []) behind.0) ∙ sym (append_assoc t.front h.part (h.further ∷ behind.0)) in
      let part_lines = has_whole t.front h.part t.handed (lines_before more left h.bytes (some_further h.part h.further)) h.inside in (
        given,
        consumed,
        record {
          replies = t.replies;
          plays = (
            omega (arith, ap length split, whole, length-append (t.front ++ h.part) (h.further ∷ behind.0)),
            subst (λ ls. Run s ls t.replies now) (sym (ap whole_lines (ap (take (2 ^ 24)) split ∙ take_front (2 ^ 24) (t.front ++ h.part) (h.further ∷ behind.0) whole) ∙ part_lines)) t.run,
            refl,
          );
          few = omega (arith, whole, length-append t.front more, length-append h.part (h.further ∷ []), length-append t.front h.part);
          refused = t.refused;
        },
      )
    where
      some_further : (part : List ℕ) (b : ℕ) → part ++ b ∷ [] ≡ [] → ⊥
      some_further [] b h = cc
      some_further (p ∷ ps) b h = cc

  -- the reader failed before it reported its end
  pub played_part : (left : Option (List ℕ)) → YieldsPart known left stock → (stock.ended ≡ true → ⊥)
      → (given : List ℕ) × Consumes (Some bytes) left given × PlaysFrom s bytes (Some (Script script_faults.Read)) any_refused given (answers_text t.replies) now
  played_part left h open_reader =
      let given = t.front ++ h.part in
      let open_front : t.done ≡ true → ⊥ = λ e. open_reader (t.at_end e).0 in
      let part_lines = not_all t.done refl open_front (λ ls. has_whole t.front h.part t.handed ls h.inside) in
      let few : length given ≤ 2 ^ 24 = omega (arith, t.limit, h.budget, length-append t.front h.part) in (
        given,
        Consumes-trans (Some bytes) known left t.front h.part t.consumed h.bytes,
        record {
          replies = t.replies;
          plays = (few, subst (λ ls. Run s ls t.replies now) (sym part_lines) t.run, refl);
          few = omega (arith, few);
          refused = t.refused;
        },
      )

  -- the writer failed at the last answer
  pub played_cut : (left : Option (List ℕ)) (before : List Reply) (final : Reply) (part : List ℕ) → known ≡ prepend_known stock.unread left → t.replies ≡ before ++ final ∷ [] → IsPrefixOf part (text final)
      → (given : List ℕ) × Consumes (Some bytes) left given × PlaysFrom s bytes (Some Answers) any_refused given (answers_text before ++ part) now
  played_cut left before final part is last prefix =
      let behind = rest_of bytes t.front known t.consumed in
      let few : length t.front ≤ 2 ^ 24 = omega (arith, t.limit) in
      let unread_none : t.done ≡ true → stock.unread ≡ [] = λ e. none_unread bytes t.front stock.unread known left t.consumed is (t.at_end e).1 in
      let first_lines = begins_with t.done t.front behind.0 t.handed t.lines few (λ e. behind.2 (t.at_end e).1) in (
        t.front ++ stock.unread,
        handed_given left is,
        record {
          replies = t.replies;
          plays = (
            length t.handed,
            before,
            final,
            part,
            has_at_least t.done t.front stock.unread t.handed t.lines unread_none,
            subst (λ ls. Run s ls t.replies now) (sym (ap (λ b. take (length t.handed) (script_lines b)) behind.1 ∙ first_lines)) t.run,
            last,
            refl,
            prefix,
          );
          few = omega (arith, t.limit, length-append t.front stock.unread);
          refused = t.refused;
        },
      )
