-- Lemmas on a line that is read piece by piece.
use Rattle.std.proofs.Common.{◌≡◌, ◌≢◌, ℕ, ◌+◌, ◌<◌, ◌≤◌, ◌↔◌, Bool, true, false, if◌then◌else◌, IsTrue, List, [], ◌∷◌, ◌++◌, Option, None, Some, ap, sym, ◌∙◌, subst, length, take, drop, get_or, add-one, length-append, length-take, append-nil, append_assoc, drop-cons, take-append-drop, arith, rules}
use Rattle.std.specs.Io.KnownBytes.{Consumes, Keeps, prepend_known}
use Rattle.std.proofs.KnownBytes.{Consumes-kept, Consumes-trans}
use Rattle.std.proofs.lemmas.List.Elements.{All-append, All-from_get_or}
use Rattle.std.proofs.lemmas.List.{get_or-take}
use Rattle.std.proofs.lemmas.Bool.{eqb-true, eq-eqb}
use Rattle.memchr.specs.Find.{Nowhere, Passes, is_byte}
use Rattle.vdb_script.specs.Reading.{Stock, ahead, budget, NoNewline, KeepsText, YieldsUpTo}

-- These bytes of a line have come, and no newline yet.
pub record Takes (old new : Option (List ℕ)) (before after : Stock) (line : List ℕ) : Type 0 where
  pub bytes : Consumes old new line
  pub budget : length line + budget after ≡ budget before
  pub inside : NoNewline line

-- bytes of a line that come from the unread ones
pub Consumes-unread : (known : Option (List ℕ)) (old new front : List ℕ) → old ≡ front ++ new → Consumes (prepend_known old known) (prepend_known new known) front
Consumes-unread None old new front e = tt
Consumes-unread (Some rest) old new front e = ap (λ l. l ++ rest) e ∙ append_assoc front new rest

-- more came from the reader, but no byte of the line
pub Takes-kept : (a b c : Option (List ℕ)) (before mid after : Stock) (line : List ℕ) → Takes a b before mid line → Keeps b c → budget after ≡ budget mid → Takes a c before after line
Takes-kept a b c before mid after line t kept same = record {
  bytes = Consumes-kept a b c line t.bytes kept;
  budget = omega (arith, t.budget);
  inside = t.inside;
}

-- all unread bytes are of the line
pub Takes-all : (a known : Option (List ℕ)) (before mid after : Stock) (line part : List ℕ) → Takes a (ahead mid known) before mid line → mid.unread ≡ part → after.unread ≡ [] → after.left ≡ mid.left → NoNewline part → Takes a (ahead after known) before after (line ++ part)
Takes-all a known before mid after line part t is none same inside = record {
  bytes = Consumes-trans a (ahead mid known) (ahead after known) line part t.bytes (Consumes-unread known mid.unread after.unread part (is ∙ sym (ap (λ l. part ++ l) none ∙ append-nil part)));
  budget = omega (arith, length-append line part, t.budget, ap length is, ap length none);
  inside = All-append (λ y. y ≢ 10) line part t.inside inside;
}

-- the line's newline is unread too
pub Takes-newline : (a known : Option (List ℕ)) (before mid after : Stock) (line part : List ℕ) → Takes a (ahead mid known) before mid line → mid.unread ≡ part ++ 10 ∷ after.unread → after.left ≡ mid.left → NoNewline part → YieldsUpTo a (ahead after known) before after false (line ++ part)
Takes-newline a known before mid after line part t split same inside =
    let whole = part ++ 10 ∷ [] in
    let joined : (line ++ part) ++ 10 ∷ [] ≡ line ++ whole = append_assoc line part (10 ∷ []) in
    record {
      bytes = subst (Consumes a (ahead after known)) (sym joined) (Consumes-trans a (ahead mid known) (ahead after known) line whole t.bytes (Consumes-unread known mid.unread after.unread whole (split ∙ sym (append_assoc part (10 ∷ []) after.unread))));
      budget = omega (arith, length-append (line ++ part) (10 ∷ []), length-append line part, t.budget, ap length split, length-append part (10 ∷ after.unread));
      inside = All-append (λ y. y ≢ 10) line part t.inside inside;
      last = λ e. cc;
    }

-- no byte before a place is a newline
pub none_before : (bytes : List ℕ) (n : ℕ) → Nowhere (Passes (is_byte 10) bytes) 0 n → NoNewline (take n bytes)
none_before bytes n h = All-from_get_or (λ b. b ≢ 10) (take n bytes) 0 (λ i below is.
    let inside : i < n = omega (arith, length-take n bytes) in
    h i (omega arith) inside (eq-eqb (get_or bytes i 0) 10 (sym (get_or-take n bytes i 0 inside) ∙ is)))

-- no byte is a newline
pub none_at_all : (bytes : List ℕ) → Nowhere (Passes (is_byte 10) bytes) 0 (length bytes) → NoNewline bytes
none_at_all bytes h = All-from_get_or (λ b. b ≢ 10) bytes 0 (λ i below is. h i (omega arith) below (eq-eqb (get_or bytes i 0) 10 is))

-- the bytes before and after a newline
pub split_at : (bytes : List ℕ) (n : ℕ) → n < length bytes → Passes (is_byte 10) bytes n → bytes ≡ take n bytes ++ 10 ∷ drop (n + 1) bytes
split_at bytes n h passes =
    let found : get_or bytes n 0 ≡ 10 = eqb-true (get_or bytes n 0) 10 passes in
    let behind : drop n bytes ≡ get_or bytes n 0 ∷ drop (n + 1) bytes = rw (add-one n) (drop-cons bytes n 0 h) in
    sym (take-append-drop n bytes) ∙ ap (λ l. take n bytes ++ l) (behind ∙ ap (λ b. b ∷ drop (n + 1) bytes) found)

-- a line that doesn't fit doesn't fit with more bytes
pub KeepsText-long : (text line bytes : List ℕ) → KeepsText false text line → KeepsText false text (line ++ bytes)
KeepsText-long text line bytes h = omega (arith, length-append line bytes)

-- a line that fits takes more bytes if it has capacity
pub KeepsText-more : (capacity : Bool) (text line bytes : List ℕ) → KeepsText true text line → IsTrue capacity ↔ (length text + length bytes ≤ 256) → KeepsText capacity (if capacity then text ++ bytes else text) (line ++ bytes)
KeepsText-more true text line bytes h r = (ap (λ l. l ++ bytes) h.0, let q : length text + length bytes ≤ 256 = search rules in omega (arith, length-append line bytes, ap length h.0))
KeepsText-more false text line bytes h r = let q : length text + length bytes ≤ 256 → ⊥ = search rules in omega (arith, length-append line bytes, ap length h.0)
