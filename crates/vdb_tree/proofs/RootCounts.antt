-- A walk over the keys of the table that counts the upper extents that hold anything but the background.
use Rattle.vdb_tree.proofs.Common.{◌≡◌, ◌⊎◌, inl, inr, ℕ, ◌+◌, ◌≤◌, Bool, true, false, List, [], ◌∷◌, length, arith, refl, sym, ap, subst, IsTrue, ◌↔◌, Option, Some, None, IsSome, is_gt, Ordering, Less, Equal, Greater, is_member, block, block_number, block_numbers, AreBits, coord_cmp, coord_eq, everywhere, is_inside, Bits, Coord, Upper, not_true, coord_exact, coord_equiv, Entry, IsConstantBlock, Layout, field_of, background_cell, root_at, is_background, roots, IsSound, IsNextKey, IsPast, key_equal, less_apart}
use Rattle.std.specs.List.{IsDistinct}
use Rattle.vdb_tree.proofs.Blocks.{never, background_from, non_background_from}
use Rattle.vdb_tree.proofs.KeysPast.{fewer_past, keys_past, past_on}
use Rattle.vdb_tree.proofs.Rooted.{one_more, or_cases, or_first, or_second, rooted, roots_at_least, roots_at_most}

pub nothing_apart : IsDistinct coord_eq []
unfolding IsDistinct
nothing_apart = tt

-- an option with a value isn't absent
pub unheld : {A : Type 0} (o : Option A) → IsSome o → o ≡ None → ⊥
unheld (Some x) h e = cc
unheld None h e = never refl h

pub at_least : (k l : Coord) → is_gt (coord_cmp k l) ≡ false → (l ≡ k) ⊎ (coord_cmp k l ≡ Less)
at_least k l h = by (coord_cmp k l) refl
  where
    by : (o : Ordering) → coord_cmp k l ≡ o → (l ≡ k) ⊎ (coord_cmp k l ≡ Less)
    by Less e = inr e
    by Equal e = inl (sym (key_equal k l e))
    by Greater e = absurd (never h (ap is_gt e))

-- without a key to be past, every key of a table counts
pub all_past : {V : Type 0} (root : List (Coord × Entry V)) → keys_past None root ≡ length root
all_past [] = refl
all_past (e ∷ es) = omega (arith, all_past es)

module _ {V : Type 0} (eq : V → V → Bool) (bits : Bits) (t : Layout V) where
  -- an upper extent of the field isn't all background
  abbrev pub IsNonBackground : Coord → Type 0
  IsNonBackground k = is_background eq (field_of bits t) (block bits Upper k) ≡ false

  -- the keys counted so far: among the table's keys up to the last passed one, those of upper extents that hold anything but
  -- the background
  pub record IsCounted (passed : Option Coord) (count : ℕ) : Type 0 where
    pub keys : List Coord
    pub apart : IsDistinct coord_eq keys
    pub size : length keys ≡ count
    pub each : (k : Coord) → is_member coord_eq keys k ≡ true → IsTrue (is_inside (block_numbers bits Upper) k) × IsNonBackground k
    pub behind : (k : Coord) → is_member coord_eq keys k ≡ true → IsPast passed k → ⊥
    pub all : (k : Coord) → IsSome (root_at t.root k) → IsNonBackground k → IsPast passed k ⊎ (is_member coord_eq keys k ≡ true)
    pub few : count + keys_past passed t.root ≤ length t.root

module _ {V : Type 0} (eq : V → V → Bool) (exact : (x y : V) → eq x y ≡ true → x ≡ y) (itself : (x : V) → eq x x ≡ true) (bits : Bits) (configured : AreBits bits) (t : Layout V) where
  pub counted_start : IsCounted eq bits t None 0
  counted_start = record {
    keys = [];
    apart = nothing_apart;
    size = refl;
    each = λ k h. absurd (never refl h);
    behind = λ k h past. never refl h;
    all = λ k held h. inl tt;
    few = let e = all_past t.root in omega (arith, e);
  }

  module _ (passed : Option Coord) (count : ℕ) (done : IsCounted eq bits t passed count) (k : Coord) (next : IsNextKey t.root passed (Some k)) where
    -- a counted key doesn't come past the last passed key
    not_later : (j : Coord) → is_member coord_eq done.keys j ≡ true → coord_cmp k j ≡ Less → ⊥
    not_later j m later = done.behind j m (past_on passed k j next.1 later)

    -- a key of the table is left, is counted, or is the next
    left_or_here : (j : Coord) → IsSome (root_at t.root j) → IsNonBackground eq bits t j → (coord_cmp k j ≡ Less) ⊎ ((j ≡ k) ⊎ (is_member coord_eq done.keys j ≡ true))
    left_or_here j held h =
        elim (done.all j held h) [
          | inl past ↦ elim (at_least k j (next.2 j past held)) [ inl e ↦ inr (inl e) | inr l ↦ inl l ]
          | inr m ↦ inr (inr m)
        ]

    -- a background extent isn't counted
    pub counted_background : (is_background eq (field_of bits t) (block bits Upper k) ≡ true) → IsCounted eq bits t (Some k) count
    counted_background flat = record {
      keys = done.keys;
      apart = done.apart;
      size = done.size;
      each = done.each;
      behind = λ j m later. not_later j m later;
      all = λ j held h.
          elim (left_or_here j held h) [
            | inl l ↦ inl l
            | inr a ↦ elim a [
              | inl e ↦ absurd (never (subst (IsNonBackground eq bits t) e h) flat)
              | inr m ↦ inr m
            ]
          ];
      few = let a = fewer_past t.root passed k next in let b = done.few in omega (arith, a, b);
    }

    -- an extent that isn't all background is counted
    pub counted_more : IsTrue (is_inside (block_numbers bits Upper) k) → IsNonBackground eq bits t k → IsCounted eq bits t (Some k) (count + 1)
    counted_more inside other = record {
      keys = k ∷ done.keys;
      apart = one_more k done.keys done.apart (not_true (is_member coord_eq done.keys k) (λ m. done.behind k m next.1));
      size = let e = done.size in omega (arith, e);
      each = λ j m.
          elim (or_cases (coord_eq j k) (is_member coord_eq done.keys j) m) [
            | inl s ↦ let e = sym (coord_exact j k s) in (subst (λ (n : Coord). IsTrue (is_inside (block_numbers bits Upper) n)) e inside, subst (IsNonBackground eq bits t) e other)
            | inr s ↦ done.each j s
          ];
      behind = λ j m later.
          elim (or_cases (coord_eq j k) (is_member coord_eq done.keys j) m) [
            | inl s ↦ less_apart k j later (sym (coord_exact j k s))
            | inr s ↦ not_later j s later
          ];
      all = λ j held h.
          elim (left_or_here j held h) [
            | inl l ↦ inl l
            | inr a ↦ elim a [
              | inl e ↦ inr (or_first (coord_eq j k) (is_member coord_eq done.keys j) (subst (λ (n : Coord). coord_eq j n ≡ true) e (coord_equiv.refl j)))
              | inr m ↦ inr (or_second (coord_eq j k) (is_member coord_eq done.keys j) m)
            ]
          ];
      few = let a = fewer_past t.root passed k next in let b = done.few in omega (arith, a, b);
    }

    module _ (c : Coord) (at : block_number bits Upper c ≡ k) (inside : IsTrue (is_inside everywhere c)) (same : Bool) (test : IsTrue same ↔ IsConstantBlock bits Upper t c (background_cell t)) where
      -- an extent is tested by the block around its first coordinate
      pub next_background : same ≡ true → IsCounted eq bits t (Some k) count
      next_background h = counted_background (subst (λ (n : Coord). is_background eq (field_of bits t) (block bits Upper n) ≡ true) at (background_from eq exact itself bits configured Upper t c inside (test.0 h)))

      pub next_non_background : IsTrue (is_inside (block_numbers bits Upper) k) → same ≡ false → IsCounted eq bits t (Some k) (count + 1)
      next_non_background within h =
          counted_more within (subst (IsNonBackground eq bits t) at (non_background_from eq exact itself bits configured Upper t c inside (λ one. never h (test.1 one))))

  -- past the last key all keys are counted
  pub counted_end : (passed : Option Coord) (count : ℕ) → IsCounted eq bits t passed count → IsNextKey t.root passed None → count ≡ roots eq bits (field_of bits t)
  counted_end passed count done none =
      let few = roots_at_most eq bits (field_of bits t) done.keys (λ k inside h. elim (done.all k (held k inside h) h) [ inl past ↦ absurd (unheld (root_at t.root k) (held k inside h) (none k past)) | inr m ↦ m ]) in
      let many = roots_at_least eq bits (field_of bits t) done.keys done.apart done.each in
      let size = done.size in
      omega (arith, few, many, size)
    where
      held : (k : Coord) → IsTrue (is_inside (block_numbers bits Upper) k) → IsNonBackground eq bits t k → IsSome (root_at t.root k)
      held k inside h = rooted eq exact itself bits configured t k inside h

  -- the count keeps to the limit
  pub count_within : (passed : Option Coord) (count : ℕ) → IsSound bits t → IsCounted eq bits t passed count → (k : Coord) → IsNextKey t.root passed (Some k) → count + 1 ≤ t.limit
  count_within passed count sound done k next =
      let a = fewer_past t.root passed k next in
      let b = done.few in
      let d = sound.limit in
      omega (arith, a, b, d)
