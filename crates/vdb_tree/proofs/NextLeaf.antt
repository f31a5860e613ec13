-- The walk to the next leaf, node by node and key by key.
use Rattle.vdb_tree.proofs.Common.{◌≡◌, ◌⊎◌, inl, inr, ℕ, ◌+◌, ◌<◌, ◌≤◌, true, false, arith, ap, refl, sym, subst, ◌∙◌, Option, Some, None, IsSome, IsTrue, is_some, is_gt, is_lt, Ordering, Less, Equal, Greater, block_cmp, key, offset, coord_cmp, Bits, Coord, Lower, Upper, coord_total, lower_from_upper, upper_from_lower, Layout, root_at, IsNextLeaf, in_leaf, IsFirstLeaf, IsFrom, IsKeyPast, IsLeafCorner, IsNextLower, IsNextKey, IsPast, from_key, from_lower, from_upper, key_equal}
use Rattle.vdb_coord.specs.Blocks.{is_past}
use Rattle.vdb_coord.proofs.BlockOrder.{not_after, precedes, same_upper_offset}
use Rattle.vdb_tree.proofs.NextChild.{leaf_below_lower, leaf_below_upper}
use Rattle.vdb_tree.proofs.Seeking.{first_of_early, first_of_late}

false_true : false ≡ true → ⊥
false_true e = cc

-- the first leaf of the early part, if found, is the first of the whole
pub found_early : {V : Type 0} (bits : Bits) (t : Layout V) (All Early Late : Coord → Type 0) → ((q : Coord) → IsLeafCorner bits t q → All q → Early q ⊎ Late q) → ((q : Coord) → Early q → All q)
    → ((p q : Coord) → Early p → Late q → is_lt (block_cmp bits q p) ≡ false) → (found : Option Coord) → is_some found ≡ true → IsFirstLeaf bits t Early found → IsFirstLeaf bits t All found
found_early bits t All Early Late whole early before (Some p) h first = first_of_early bits t All Early Late whole p early before first
found_early bits t All Early Late whole early before None h first = absurd (false_true h)

-- a part in which no leaf is found has none
pub none_early : {V : Type 0} (bits : Bits) (t : Layout V) (Early : Coord → Type 0) → (found : Option Coord) → is_some found ≡ false → IsFirstLeaf bits t Early found → IsFirstLeaf bits t Early None
none_early bits t Early None h first = first
none_early bits t Early (Some p) h first = absurd (false_true (sym h))

greater_or_same : (m n : ℕ) → m ≤ n → (n ≡ m) ⊎ (m + 1 ≤ n)
greater_or_same m n h = grind arith

module _ {V : Type 0} (bits : Bits) (t : Layout V) where
  -- ---- an upper node

  -- after some entries from one on: the leaves that are left begin at later entries
  pub record IsUpperPassed (p : Coord) (from next : ℕ) : Type 0 where
    pub start : from ≤ next
    pub left : (q : Coord) → IsLeafCorner bits t q → IsFrom bits Upper p from q → next ≤ offset bits Upper q

  module _ (p : Coord) (from next : ℕ) (passed : IsUpperPassed p from next) (c : Coord) (lower : IsNextLower bits t p next (Some c)) where
    upper_whole : (q : Coord) → IsLeafCorner bits t q → IsFrom bits Upper p from q → IsFrom bits Lower c 0 q ⊎ IsFrom bits Upper p (offset bits Upper c + 1) q
    upper_whole q corner h =
        let later = lower.2 q (record { block = h.block; from_on = passed.left q corner h }) (leaf_below_lower bits t q corner.leaf) in
        elim (greater_or_same (offset bits Upper c) (offset bits Upper q) later) [
          | inl e ↦ inl (record { block = lower_from_upper bits q c (h.block ∙ sym lower.1.block) e; from_on = omega arith })
          | inr k ↦ inr (record { block = h.block; from_on = k })
        ]

    upper_early : (q : Coord) → IsFrom bits Lower c 0 q → IsFrom bits Upper p from q
    upper_early q h =
        let o = same_upper_offset bits q c h.block in
        let a = lower.1.from_on in
        let b = passed.start in
        record { block = upper_from_lower bits q c h.block ∙ lower.1.block; from_on = omega (arith, o, a, b) }

    upper_before : (r q : Coord) → IsFrom bits Lower c 0 r → IsFrom bits Upper p (offset bits Upper c + 1) q → is_lt (block_cmp bits q r) ≡ false
    upper_before r q h l =
        let o = same_upper_offset bits r c h.block in
        let k = l.from_on in
        not_after bits r q (inr (upper_from_lower bits r c h.block ∙ lower.1.block ∙ sym l.block, inl (omega (arith, o, k))))

    -- a leaf of the next lower node is the first leaf
    pub upper_found : (found : Option Coord) → is_some found ≡ true → IsFirstLeaf bits t (IsFrom bits Lower c 0) found → IsFirstLeaf bits t (IsFrom bits Upper p from) found
    upper_found found h first =
        found_early bits t (IsFrom bits Upper p from) (IsFrom bits Lower c 0) (IsFrom bits Upper p (offset bits Upper c + 1)) upper_whole upper_early upper_before found h first

    -- if the next lower node has no leaf, the walk passes it
    pub upper_next : (found : Option Coord) → is_some found ≡ false → IsFirstLeaf bits t (IsFrom bits Lower c 0) found → IsUpperPassed p from (offset bits Upper c + 1)
    upper_next found h first =
        let none = none_early bits t (IsFrom bits Lower c 0) found h first in
        let a = lower.1.from_on in
        let b = passed.start in
        record {
          start = omega (arith, a, b);
          left = λ q corner h. elim (upper_whole q corner h) [ inl e ↦ absurd (none q corner e) | inr l ↦ l.from_on ];
        }

  -- no lower node is left
  pub upper_end : (p : Coord) (from next : ℕ) → IsUpperPassed p from next → IsNextLower bits t p next None → IsFirstLeaf bits t (IsFrom bits Upper p from) None
  upper_end p from next passed none = λ q corner h.
      none q (record { block = h.block; from_on = passed.left q corner h }) (leaf_below_lower bits t q corner.leaf)

  -- ---- the table

  -- after some keys: the leaves that are left lie under later keys
  pub record IsTablePassed (after passed : Option Coord) : Type 0 where
    pub start : (k : Coord) → IsPast passed k → IsPast after k
    pub left : (q : Coord) → IsLeafCorner bits t q → IsPast after (key bits q) → IsPast passed (key bits q)

  some_or_none : {A : Type 0} (o : Option A) → IsSome o ⊎ (o ≡ None)
  some_or_none (Some x) = inl refl
  some_or_none None = inr refl

  -- a leaf lies under a key of the table
  key_of_leaf : (q : Coord) → IsTrue (in_leaf bits t q) → IsSome (root_at t.root (key bits q))
  key_of_leaf q h =
      elim (some_or_none (root_at t.root (key bits q))) [
        | inl e ↦ e
        | inr none ↦ let child = leaf_below_upper bits t q h in absurd (false_true (rw none at child))
      ]

  at_least : (k l : Coord) → is_gt (coord_cmp k l) ≡ false → (l ≡ k) ⊎ (coord_cmp k l ≡ Less)
  at_least k l h = by (coord_cmp k l) refl
    where
      by : (o : Ordering) → coord_cmp k l ≡ o → (l ≡ k) ⊎ (coord_cmp k l ≡ Less)
      by Less e = inr e
      by Equal e = inl (sym (key_equal k l e))
      by Greater e = absurd (false_true (sym h ∙ ap is_gt e))

  module _ (after passed : Option Coord) (done : IsTablePassed after passed) (k : Coord) (least : IsNextKey t.root passed (Some k)) (c : Coord) (at : key bits c ≡ k) where
    table_whole : (q : Coord) → IsLeafCorner bits t q → IsKeyPast bits after q → IsFrom bits Upper c 0 q ⊎ IsKeyPast bits (Some k) q
    table_whole q corner h =
        elim (at_least k (key bits q) (least.2 (key bits q) (done.left q corner h) (key_of_leaf q corner.leaf))) [
          | inl e ↦ inl (record { block = e ∙ sym at; from_on = omega arith })
          | inr l ↦ inr l
        ]

    table_early : (q : Coord) → IsFrom bits Upper c 0 q → IsKeyPast bits after q
    table_early q h = subst (IsPast after) (sym (h.block ∙ at)) (done.start k least.1)

    table_before : (r q : Coord) → IsFrom bits Upper c 0 r → IsKeyPast bits (Some k) q → is_lt (block_cmp bits q r) ≡ false
    table_before r q h l = not_after bits r q (inl (subst (λ (n : Coord). coord_cmp n (key bits q) ≡ Less) (sym (h.block ∙ at)) l))

    -- a leaf under the next key is the first leaf
    pub table_found : (found : Option Coord) → is_some found ≡ true → IsFirstLeaf bits t (IsFrom bits Upper c 0) found → IsFirstLeaf bits t (IsKeyPast bits after) found
    table_found found h first =
        found_early bits t (IsKeyPast bits after) (IsFrom bits Upper c 0) (IsKeyPast bits (Some k)) table_whole table_early table_before found h first

    -- if the next key has no leaf, the walk passes it
    pub table_next : (found : Option Coord) → is_some found ≡ false → IsFirstLeaf bits t (IsFrom bits Upper c 0) found → IsTablePassed after (Some k)
    table_next found h first =
        let none = none_early bits t (IsFrom bits Upper c 0) found h first in
        record {
          start = λ l later. done.start l (past_further passed l least.1 later);
          left = λ q corner h. elim (table_whole q corner h) [ inl e ↦ absurd (none q corner e) | inr l ↦ l ];
        }
      where
        past_further : (o : Option Coord) (l : Coord) → IsPast o k → coord_cmp k l ≡ Less → IsPast o l
        past_further None l h later = tt
        past_further (Some a) l h later = coord_total.trans a k l h later

  -- ---- past a coordinate

  -- the leaves past a coordinate, by the test
  pub next_leaf_is : (after found : Option Coord) → IsFirstLeaf bits t (λ q. IsTrue (is_past bits after q)) found → IsNextLeaf bits t after found
  next_leaf_is after (Some p) first =
      (record { inside = first.0.inside; first = first.0.first; leaf = first.0.leaf; past = first.1 }, λ q h. first.2 q (record { inside = h.inside; first = h.first; leaf = h.leaf }) h.past)
  next_leaf_is after None first = λ q h. first q (record { inside = h.inside; first = h.first; leaf = h.leaf }) h.past

  -- with no coordinate to be past, all leaves count
  pub all_leaves : (found : Option Coord) → IsFirstLeaf bits t (IsKeyPast bits None) found → IsNextLeaf bits t None found
  all_leaves (Some p) first =
      (record { inside = first.0.inside; first = first.0.first; leaf = first.0.leaf; past = refl }, λ q h. first.2 q (record { inside = h.inside; first = h.first; leaf = h.leaf }) tt)
  all_leaves None first = λ q h. first q (record { inside = h.inside; first = h.first; leaf = h.leaf }) tt

  none_below_first : (m n : ℕ) → n ≡ 0 → m < n → ⊥
  none_below_first m n e h = omega (arith, h, e)

  more_than : (m n : ℕ) → m < n → m + 1 ≤ n
  more_than m n h = omega (arith, h)

  after_more : (m n : ℕ) → m + 1 ≤ n → m < n
  after_more m n h = omega (arith, h)

  below_same : (l m n : ℕ) → l ≡ m → m + 1 ≤ n → l < n
  below_same l m n e h = omega (arith, e, h)

  module _ (last : Coord) where
    -- leaves past a coordinate: in its lower extent, in its upper extent and under later keys
    abbrev pub InLower : Coord → Type 0
    InLower q = IsFrom bits Lower last (offset bits Lower last + 1) q

    abbrev pub InUpper : Coord → Type 0
    InUpper q = IsFrom bits Upper last (offset bits Upper last + 1) q

    abbrev pub InLater : Coord → Type 0
    InLater q = IsKeyPast bits (Some (key bits last)) q

    abbrev pub InRest : Coord → Type 0
    InRest q = InUpper q ⊎ InLater q

    abbrev pub InAll : Coord → Type 0
    InAll q = IsTrue (is_past bits (Some last) q)

    past_whole : (q : Coord) → IsLeafCorner bits t q → InAll q → InLower q ⊎ InRest q
    past_whole q corner h =
        elim (precedes bits last q h) [
          | inl a ↦ inr (inr a)
          | inr a ↦ elim a.1 [
            | inl u ↦ inr (inl (record { block = sym a.0; from_on = more_than _ _ u }))
            | inr u ↦ elim u.1 [
              | inl l ↦ inl (record { block = lower_from_upper bits q last (sym a.0) (sym u.0); from_on = more_than _ _ l })
              | inr l ↦ absurd (none_below_first _ _ corner.first l.1)
            ]
          ]
        ]

    lower_in_all : (q : Coord) → InLower q → InAll q
    lower_in_all q h = from_lower bits last q (sym (upper_from_lower bits q last h.block)) (sym (same_upper_offset bits q last h.block)) (after_more _ _ h.from_on)

    rest_in_all : (q : Coord) → InRest q → InAll q
    rest_in_all q h = elim h [ inl u ↦ from_upper bits last q (sym u.block) (after_more _ _ u.from_on) | inr k ↦ from_key bits last q k ]

    lower_before : (p q : Coord) → InLower p → InRest q → is_lt (block_cmp bits q p) ≡ false
    lower_before p q h r =
        let k = upper_from_lower bits p last h.block in
        elim r [
          | inl u ↦ not_after bits p q (inr (k ∙ sym u.block, inl (below_same _ _ _ (same_upper_offset bits p last h.block) u.from_on)))
          | inr l ↦ not_after bits p q (inl (subst (λ (n : Coord). coord_cmp n (key bits q) ≡ Less) (sym k) l))
        ]

    upper_before_later : (p q : Coord) → InUpper p → InLater q → is_lt (block_cmp bits q p) ≡ false
    upper_before_later p q h l = not_after bits p q (inl (subst (λ (n : Coord). coord_cmp n (key bits q) ≡ Less) (sym h.block) l))

    -- a leaf of the coordinate's lower node is the next
    pub past_in_lower : (found : Option Coord) → is_some found ≡ true → IsFirstLeaf bits t InLower found → IsNextLeaf bits t (Some last) found
    past_in_lower found h first = next_leaf_is (Some last) found (found_early bits t InAll InLower InRest past_whole lower_in_all lower_before found h first)

    module _ (lower : Option Coord) (no_lower : is_some lower ≡ false) (of_lower : IsFirstLeaf bits t InLower lower) where
      past_in_rest : (found : Option Coord) → IsFirstLeaf bits t InRest found → IsNextLeaf bits t (Some last) found
      past_in_rest found first = next_leaf_is (Some last) found (first_of_late bits t InAll InLower InRest past_whole found rest_in_all (none_early bits t InLower lower no_lower of_lower) first)

      -- without one, a leaf of its upper node is the next
      pub past_in_upper : (found : Option Coord) → is_some found ≡ true → IsFirstLeaf bits t InUpper found → IsNextLeaf bits t (Some last) found
      past_in_upper found h first = past_in_rest found (found_early bits t InRest InUpper InLater (λ q corner r. r) (λ q u. inl u) upper_before_later found h first)

      -- without either, a leaf under a later key is the next
      pub past_in_later : (upper : Option Coord) → is_some upper ≡ false → IsFirstLeaf bits t InUpper upper → (found : Option Coord) → IsFirstLeaf bits t InLater found → IsNextLeaf bits t (Some last) found
      past_in_later upper no_upper of_upper found first =
          past_in_rest found (first_of_late bits t InRest InUpper InLater (λ q corner r. r) found (λ q l. inr l) (none_early bits t InUpper upper no_upper of_upper) first)
