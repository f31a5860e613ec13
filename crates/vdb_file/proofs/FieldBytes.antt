-- Fields of fixed lengths.
use Rattle.vdb_file.proofs.Common.{◌≡◌, ℕ, ◌+◌, ◌-◌, ◌≤◌, List, [], ◌++◌, length, take, drop, refl, sym, ap, subst, ◌∙◌, append_assoc, take-append-drop, length-drop, length-take, take-take, arith, common_steps, Bool, true, false, ◌^◌, min, nat_le, if◌then◌else◌, Option, Some, None, Consumes, IsAtEnd, Keeps, prepend_known, Position, Stock, Took, byte_total, position}
use Rattle.std.proofs.Common.{drop-drop}
use Rattle.std.specs.List.{slice_range}
use Rattle.std.proofs.lemmas.List.{drop-take}
use Rattle.std.proofs.KnownBytes.{Consumes-kept}
use Rattle.vdb_file.specs.Readers.{GaveAtMost}
use Rattle.vdb_file.specs.internal.Reading.{GaveWithin, given_count, passed}
use Rattle.vdb_file.proofs.Fronts.{took_both}

-- ---- pieces of a field

-- the position is unchanged if no byte was read
pub took_kept : (a b c : Position) (text : List ℕ) → Took a b text → Keeps b.known c.known → c.capacity ≡ b.capacity → Took a c text
took_kept a b c text took kept capacity = record { bytes = Consumes-kept a.known b.known c.known text took.bytes kept; fewer = omega (arith, took.fewer, capacity) }

-- no byte is unread, and the reader has ended
pub at_end : (unread : List ℕ) (known : Option (List ℕ)) → unread ≡ [] → IsAtEnd known → IsAtEnd (prepend_known unread known)
at_end unread None e end = tt
at_end unread (Some x) e end = ap (λ t. t ++ x) e ∙ end

-- the first of the unread bytes
front_taken : (known : Option (List ℕ)) (n : ℕ) (unread left : List ℕ) → left ≡ drop n unread → Consumes (prepend_known unread known) (prepend_known left known) (take n unread)
front_taken None n unread left e = tt
front_taken (Some x) n unread left e = ap (λ t. t ++ x) (sym (take-append-drop n unread)) ∙ append_assoc (take n unread) (drop n unread) x ∙ ap (λ t. take n unread ++ (t ++ x)) (sym e)

-- a field has the first of the unread bytes
pub front_read : (old new : Stock) (known : Option (List ℕ)) (text : List ℕ) (n : ℕ) → text ≡ take n old.unread → n ≤ length old.unread → n ≤ old.capacity → new.unread ≡ drop n old.unread → new.capacity ≡ old.capacity - n
    → Took (position old known) (position new known) text
front_read old new known text n same within fits left capacity =
    subst (Took (position old known) (position new known)) (sym same)
    (record { bytes = front_taken known n old.unread new.unread left; fewer = omega (arith, length-take n old.unread, within, fits, capacity) })

-- a part of the first of the unread bytes
pub part_read : (s : Stock) (known : Option (List ℕ)) (bytes : List ℕ) (at n : ℕ) → bytes ≡ take (length bytes) s.unread → length bytes ≤ s.capacity → at + n ≤ length bytes
    → Took (position (passed at s) known) (position (passed (at + n) s) known) (slice_range bytes at (at + n))
part_read s known bytes at n same fits less =
    let m = length bytes - at in
    let span : at + m ≡ length bytes = omega (arith, less) in
    let few : at + n - at ≡ n = omega arith in
    let long = ap length same in
    front_read (passed at s) (passed (at + n) s) known (slice_range bytes at (at + n)) n
    (ap (λ k. take k (drop at bytes)) few
    ∙ ap (λ l. take n (drop at l)) (same ∙ ap (λ k. take k s.unread) (sym span))
    ∙ ap (take n) (drop-take at m s.unread)
    ∙ take-take n m (drop at s.unread) (omega (arith, less)))
    (omega (arith, length-drop at s.unread, long, length-take (length bytes) s.unread, less))
    (omega (arith, fits, less))
    (sym (drop-drop n at s.unread ∙ ap (λ k. drop k s.unread) (omega arith)))
    (omega arith)

-- the position after some bytes were read
pub same_position : (old new : Stock) (known : Option (List ℕ)) (n m : ℕ) → m ≡ n → new.unread ≡ drop n old.unread → new.capacity ≡ old.capacity - n → position (passed m old) known ≡ position new known
same_position old new known n m e left capacity =
    let unread : drop m old.unread ≡ new.unread = ap (λ k. drop k old.unread) e ∙ sym left in
    let more : old.capacity - m ≡ new.capacity = omega (arith, e, capacity) in
    λ j. record { known = prepend_known (unread j) known; capacity = more j }

-- a field goes on with unread bytes
pub piece_taken : (old : Position) (mid new : Stock) (known : Option (List ℕ)) (field grown : List ℕ) (at n : ℕ) → Took old (position mid known) (take at field) → take (at + n) grown ≡ take at field ++ take n mid.unread
    → new.unread ≡ drop n mid.unread → new.capacity ≡ mid.capacity - n → n ≤ length mid.unread → n ≤ length field - at → at ≤ length field → length field ≤ old.capacity → Took old (position new known) (take (at + n) grown)
piece_taken old mid new known field grown at n took text left capacity some wanted within fits =
    let front : length (take at field) ≡ at = omega (arith, length-take at field) in
    let piece : length (take n mid.unread) ≡ n = omega (arith, length-take n mid.unread) in
    subst (Took old (position new known)) (sym text)
    (took_both old (position mid known) (position new known) (take at field) (take n mid.unread) took
    (record { bytes = front_taken known n mid.unread new.unread left; fewer = omega (arith, front, piece, took.fewer, capacity) }))

-- a later part of a part
pub later_part : (xs : List ℕ) (a b n : ℕ) → a + n ≤ b → slice_range xs (a + n) b ≡ drop n (slice_range xs a b)
later_part xs a b n h =
    let m = b - (a + n) in
    let span : n + m ≡ b - a = omega arith in
    let more : a + n ≡ n + a = omega arith in
    sym (ap (λ k. drop n (take k (drop a xs))) (sym span) ∙ drop-take n m (drop a xs) ∙ ap (take m) (drop-drop n a xs ∙ ap (λ k. drop k xs) (omega arith)))

-- ---- what the reader gave

-- the bytes that the reader gave since no byte was unread and no field was read
pub gave_few : (s : Stock) (before after : Option (List ℕ)) → ((n : ℕ) → byte_total (record { unread = []; capacity = 268435456; ended = false }) before ≡ Some n → byte_total s after ≡ Some n) → GaveAtMost 268435457 before after
gave_few s None after h = tt
gave_few s (Some x) None h = let zero_first : 0 + length x ≡ length x = omega arith in let e = h (length x) (ap Some zero_first) in absurd cc
gave_few s (Some x) (Some y) h = let zero_first : 0 + length x ≡ length x = omega arith in counted (nat_le (given_count s) 268435457) refl (h (length x) (ap Some zero_first))
  where
    counted : (b : Bool) → nat_le (given_count s) 268435457 ≡ b → (if b then Some (given_count s + length y) else None) ≡ Some (length x) → length x ≤ 268435457 + length y
    counted true few e = let same : given_count s + length y ≡ length x = cc in grind (arith, common_steps)
    counted false few e = absurd cc

-- a reader that has ended, and of which no byte is unread, gave no more bytes than a file may have, and reported its end
pub ended_within : (s : Stock) (given empty more_given more_empty : ℕ) → s.unread ≡ [] → s.ended ≡ true
    → ((n m : ℕ) → GaveWithin n m (record { unread = []; capacity = 268435456; ended = false }) given empty → GaveWithin n m s more_given more_empty)
    → (more_given ≤ given + 268435456) × (more_empty ≡ min (empty + 1) (2 ^ 64 - 1))
unfolding GaveWithin
ended_within s given empty more_given more_empty none ended h =
    let within = h given empty (omega arith, omega arith, refl) in
    (omega (arith, within.0, ap length none), within.2 ∙ (λ i. if ended i then min (empty + 1) (2 ^ 64 - 1) else empty))

-- a reader gave at most one byte more than a file may have, and reported its end at most once
pub gave_within : (s : Stock) (given empty more_given more_empty : ℕ)
    → ((n m : ℕ) → GaveWithin n m (record { unread = []; capacity = 268435456; ended = false }) given empty → GaveWithin n m s more_given more_empty)
    → (more_given ≤ given + 268435457) × (more_empty ≤ empty + 1)
unfolding GaveWithin
gave_within s given empty more_given more_empty h =
    let within = h given empty (omega arith, omega arith, refl) in
    (omega (arith, within.0, within.1), at_most_one s.ended within.2)
  where
    at_most_one : (ended : Bool) → more_empty ≡ (if ended then min (empty + 1) (2 ^ 64 - 1) else empty) → more_empty ≤ empty + 1
    at_most_one true h = omega (arith, h)
    at_most_one false h = omega (arith, h)
