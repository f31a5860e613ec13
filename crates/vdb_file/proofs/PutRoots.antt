-- The keys of the root blocks written so far, along the keys of the table.
use Rattle.vdb_file.proofs.Common.{◌≡◌, ◌⊎◌, inl, inr, ℕ, Bool, true, false, not, cond, ◌&&◌, List, [], ◌∷◌, ◌++◌, refl, sym, ap, subst, ◌∙◌, append-nil, Option, Some, None, AllByRecursion, filter, flat_map, Ordering, Less, Equal, Greater, flat_map-append, block, block_around, block_numbers, AreBits, Box, coord_cmp, coordinates, is_inside, Bits, Coord, Upper, number_of_corner, coord_total, is_background, is_uniform, root_keys, off, Layout, field_of, never, Puts, Sent}
use Rattle.std.specs.Prelude.{IsSome}
use Rattle.std.specs.Ordering.{is_lt}
use Rattle.vdb_coord.proofs.BlockOrder.{less_apart}
use Rattle.vdb_tree.specs.Layout.{root_at}
use Rattle.vdb_tree.specs.Table.{IsNextKey, IsPast}
use Rattle.vdb_tree.proofs.KeysPast.{past_on}
use Rattle.vdb_tree.proofs.RootCounts.{at_least, unheld}
use Rattle.vdb_tree.proofs.Rooted.{rooted}
use Rattle.vdb_file.proofs.Ordered.{at_member, one_kept_more}
use Rattle.vdb_file.proofs.Outputs.{puts_same, puts_then}
use Rattle.vdb_file.proofs.Roots.{all_coordinates_have, coordinates_have}
use Rattle.vdb_file.proofs.Sorted.{coordinates_sorted}

-- ---- keys up to the last one that was passed

-- whether a key was passed
abbrev pub is_passed : Option Coord → Coord → Bool
is_passed None k = false
is_passed (Some last) k = not (is_lt (coord_cmp last k))

not_past : (o : Ordering) → (o ≡ Less → ⊥) → not (is_lt o) ≡ true
not_past Less h = absurd (h refl)
not_past Equal h = refl
not_past Greater h = refl

-- a key is past the last one, or was passed
past_or_passed : (passed : Option Coord) (k : Coord) → IsPast passed k ⊎ (is_passed passed k ≡ true)
past_or_passed None k = inl tt
past_or_passed (Some last) k = by (coord_cmp last k) refl
  where
    by : (o : Ordering) → coord_cmp last k ≡ o → (coord_cmp last k ≡ Less) ⊎ (not (is_lt (coord_cmp last k)) ≡ true)
    by Less e = inl e
    by Equal e = inr (ap (λ o. not (is_lt o)) e)
    by Greater e = inr (ap (λ o. not (is_lt o)) e)

past_unpassed : (passed : Option Coord) (k : Coord) → IsPast passed k → is_passed passed k ≡ false
past_unpassed None k h = refl
past_unpassed (Some last) k h = ap (λ o. not (is_lt o)) h

itself_passed : (k : Coord) → is_passed (Some k) k ≡ true
itself_passed k = not_past (coord_cmp k k) (λ h. less_apart k k h refl)

-- ---- lists

filter_as : {K : Type 0} (s t : K → Bool) (xs : List K) → AllByRecursion (λ x. s x ≡ t x) xs → filter s xs ≡ filter t xs
filter_as s t [] h = refl
filter_as s t (x ∷ xs) h = ap (λ b. cond b (x ∷ filter s xs) (filter s xs)) h.0 ∙ ap (λ l. cond (t x) (x ∷ l) l) (filter_as s t xs h.1)

alike : (a b c : Bool) → (a ≡ true → b ≡ c) → (a && b) ≡ (a && c)
alike true b c h = h refl
alike false b c h = refl

module _ {V : Type 0} (eq : V → V → Bool) (bits : Bits) (t : Layout V) where
  -- whether a root block holds anything but the background
  abbrev pub shows : Coord → Bool
  shows k = not (is_background eq (field_of bits t) (block bits Upper k))

  abbrev keys : List Coord
  keys = coordinates (block_numbers bits Upper)

  -- the keys passed whose root blocks hold anything but the background
  abbrev pub put_keys : Option Coord → List Coord
  put_keys passed = filter (λ k. shows k && is_passed passed k) keys

module _ {V : Type 0} (eq : V → V → Bool) (exact : (x y : V) → eq x y ≡ true → x ≡ y) (itself : (x : V) → eq x x ≡ true) (bits : Bits) (configured : AreBits bits) (t : Layout V) where
  abbrev stands : Coord → Bool
  stands = shows eq bits t

  abbrev all_keys : List Coord
  all_keys = keys eq bits t

  abbrev those : Option Coord → List Coord
  those = put_keys eq bits t

  held : (k : Coord) → is_inside (block_numbers bits Upper) k ≡ true → stands k ≡ true → IsSome (root_at t.root k)
  held k inside h = rooted eq exact itself bits configured t k inside (hidden (is_background eq (field_of bits t) (block bits Upper k)) h)
    where
      hidden : (b : Bool) → not b ≡ true → b ≡ false
      hidden true h = cc
      hidden false h = refl

  module _ (passed : Option Coord) (key : Coord) (next : IsNextKey t.root passed (Some key)) where
    -- another key of the table was passed before, or is still ahead
    as_before : (k : Coord) → is_inside (block_numbers bits Upper) k ≡ true → (k ≡ key → ⊥) → stands k ≡ true → is_passed (Some key) k ≡ is_passed passed k
    as_before k inside apart h =
        elim (past_or_passed passed k) [
          | inl past ↦ elim (at_least key k (next.2 k past (held k inside h))) [
            | inl e ↦ absurd (apart e)
            | inr l ↦ past_unpassed (Some key) k l ∙ sym (past_unpassed passed k past)
          ]
          | inr was ↦ not_past (coord_cmp key k) (λ l. never (past_unpassed passed k (past_on passed key k next.1 l)) was) ∙ sym was
        ]

    module _ (inside : is_inside (block_numbers bits Upper) key ≡ true) where
      -- a root block that holds something is written after the others
      pub put_more : stands key ≡ true → those (Some key) ≡ those passed ++ key ∷ []
      put_more h =
          let member = coordinates_have (block_numbers bits Upper) key inside in
          one_kept_more coord_total (λ k. stands k && is_passed passed k) (λ k. stands k && is_passed (Some key) k) key all_keys (coordinates_sorted (block_numbers bits Upper)) member.0 member.1 member.2
          (λ k m apart. alike (stands k) (is_passed (Some key) k) (is_passed passed k) (as_before k (at_member (λ k. is_inside (block_numbers bits Upper) k ≡ true) all_keys k (all_coordinates_have (λ k. is_inside (block_numbers bits Upper) k ≡ true) (block_numbers bits Upper) (λ p i. i)) m) apart))
          (both (stands key) (is_passed (Some key) key) h (itself_passed key))
          (unshown (stands key) (is_passed passed key) (past_unpassed passed key next.1))
          (λ k m l. unshown (stands k) (is_passed passed k) (past_unpassed passed k (past_on passed key k next.1 l)))
        where
          both : (a b : Bool) → a ≡ true → b ≡ true → (a && b) ≡ true
          both true b h k = k
          both false b h k = h

          unshown : (a b : Bool) → b ≡ false → (a && b) ≡ false
          unshown true b h = h
          unshown false b h = refl

      -- a background block is left out
      pub put_none : stands key ≡ false → those (Some key) ≡ those passed
      put_none h =
          filter_as (λ k. stands k && is_passed (Some key) k) (λ k. stands k && is_passed passed k) all_keys
          (all_coordinates_have (λ k. (stands k && is_passed (Some key) k) ≡ (stands k && is_passed passed k)) (block_numbers bits Upper)
          (λ k i. alike (stands k) (is_passed (Some key) k) (is_passed passed k) (λ s. as_before k i (λ e. never h (subst (λ (l : Coord). stands l ≡ true) e s)) s)))

  -- past the last key all root blocks are written
  pub put_end : (passed : Option Coord) → IsNextKey t.root passed None → those passed ≡ root_keys eq bits (field_of bits t)
  put_end passed none =
      filter_as (λ k. stands k && is_passed passed k) stands all_keys
      (all_coordinates_have (λ k. (stands k && is_passed passed k) ≡ stands k) (block_numbers bits Upper) (λ k i. each (stands k) (is_passed passed k) (λ h. elim (past_or_passed passed k) [
        | inl past ↦ absurd (unheld (root_at t.root k) (held k i h) (none k past))
        | inr was ↦ was
      ])))
    where
      each : (a b : Bool) → (a ≡ true → b ≡ true) → (a && b) ≡ a
      each true b h = h refl
      each false b h = refl

  -- before the first key no root block is written
  pub put_first : those None ≡ []
  put_first = gone all_keys
    where
      gone : (xs : List Coord) → filter (λ k. stands k && false) xs ≡ []
      gone [] = refl
      gone (x ∷ xs) = ap (λ b. cond b (x ∷ filter (λ k. stands k && false) xs) (filter (λ k. stands k && false) xs)) (dead (stands x)) ∙ gone xs
        where
          dead : (a : Bool) → (a && false) ≡ false
          dead true = refl
          dead false = refl

  -- a root block around its first coordinate
  pub around_corner : (key corner : Coord) → corner ≡ (block bits Upper key).min → block_around bits Upper corner ≡ block bits Upper key
  around_corner key corner e = ap (block_around bits Upper) e ∙ ap (block bits Upper) (number_of_corner bits Upper key)

  -- whether the block holds something, by the test of its cells
  pub shown : (key corner : Coord) → corner ≡ (block bits Upper key).min → (test : Bool) → test ≡ is_uniform eq (field_of bits t) (block_around bits Upper corner) (off t.background) → stands key ≡ not test
  shown key corner e test h = sym (ap not (h ∙ ap (λ (b : Box). is_uniform eq (field_of bits t) b (off t.background)) (around_corner key corner e)))

  -- one more root block is written
  pub root_put : (entry : Coord → List ℕ) (a b c : Sent) (passed : Option Coord) (key : Coord) → IsNextKey t.root passed (Some key) → is_inside (block_numbers bits Upper) key ≡ true → stands key ≡ true
      → Puts a b (flat_map entry (those passed)) → Puts b c (entry key) → Puts a c (flat_map entry (those (Some key)))
  root_put entry a b c passed key next inside h so_far more =
      puts_same a c (flat_map entry (those passed) ++ entry key) (flat_map entry (those (Some key)))
      (sym (ap (flat_map entry) (put_more passed key next inside h) ∙ flat_map-append entry (those passed) (key ∷ []) ∙ ap (λ l. flat_map entry (those passed) ++ l) (append-nil (entry key))))
      (puts_then a b c (flat_map entry (those passed)) (entry key) so_far more)

  pub root_left : (entry : Coord → List ℕ) (a b : Sent) (passed : Option Coord) (key : Coord) → IsNextKey t.root passed (Some key) → is_inside (block_numbers bits Upper) key ≡ true → stands key ≡ false
      → Puts a b (flat_map entry (those passed)) → Puts a b (flat_map entry (those (Some key)))
  root_left entry a b passed key next inside h so_far = puts_same a b _ _ (ap (flat_map entry) (sym (put_none passed key next inside h))) so_far
