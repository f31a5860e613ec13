-- Counts of the blocks of a level, from a coordinate on, whose cells differ.
use Rattle.vdb_walk.proofs.Common.{◌≡◌, ◌⊎◌, inl, inr, sym, ap, ◌∙◌, refl, subst, ℕ, ◌+◌, ◌<◌, ◌≤◌, Bool, true, false, not, ◌&&◌, ◌||◌, cond, [], ◌∷◌, arith, IsTrue, IfSome, Option, Some, None, is_lt, block, block_around, block_cmp, block_number, block_numbers, AreBits, ComesBefore, IsNextCoord, IsUpToBlock, coordinates_past, Box, coord_eq, everywhere, is_inside, is_within, Bits, Coord, Level, Leaf, Lower, Upper, comes_on, contiguous, fewer_past, not_before_min, not_both, not_itself, not_true, same_truth, corner_in_range, number_in_range, number_of_corner, numbered_in_range, within_each, coord_equiv, coord_exact, inside_numbered, lower_from_leaf, number_in_block, upper_from_lower, Field, off, Layout, field_of, is_left, is_constant, non_constant, Background, gone_before, one_more, uniform_cells, uniform_from, Cell, IsBoxStart, IsSkippedTo, non_constant_from}
use Rattle.vdb_coord.proofs.BlockOrder.{which_first}
use Rattle.vdb_walk.specs.internal.BlocksFrom.{IsBlockAt}
use Rattle.vdb_walk.proofs.Counts.{none_on, nothing_apart}
use Rattle.vdb_walk.proofs.PartCounts.{count_alike, count_listed, count_split}

-- ---- booleans

pub false_true : {b : Bool} → b ≡ false → b ≡ true → ⊥
false_true {b} h k = let e : false ≡ true = sym h ∙ k in cc

pub true_or_false : (b : Bool) → (b ≡ true) ⊎ (b ≡ false)
true_or_false true = inl refl
true_or_false false = inr refl

pub denied : (b : Bool) → not b ≡ true → b ≡ true → ⊥
denied true h k = cc
denied false h k = cc

deny : (b : Bool) → (b ≡ true → ⊥) → not b ≡ true
deny true h = absurd (h refl)
deny false h = refl

pub with_same : (m a b : Bool) → (m ≡ true → a ≡ b) → (m && a) ≡ (m && b)
with_same true a b h = h refl
with_same false a b h = refl

never_and : (m : Bool) → (m && false) ≡ false
never_and true = refl
never_and false = refl

also : (m b : Bool) → b ≡ true → (m && b) ≡ m
also true b h = h
also false b h = refl

pub no_more : {m n : ℕ} → m ≡ n → 0 + m ≡ n
no_more {m} {n} h = omega (arith, h)

-- the only item of a list, if it passes three tests
pub one_of : (s i m l : Bool) → (s ≡ true → (i ≡ true) × (m ≡ true) × (l ≡ true)) → (s || false) ≡ ((i && (m && l)) && s)
one_of true i m l h = let k = h refl in rw (k.0, k.1, k.2) refl
one_of false i m l h = sym (never_and (i && (m && l)))

-- the other items of a list
pub other_of : (s i m l n : Bool) → (s ≡ true → n ≡ false) → (i ≡ true → s ≡ false → m ≡ true → l ≡ n) → ((i && (m && l)) && not s) ≡ (i && (m && n))
other_of s false m l n h k = refl
other_of true true m l n h k = rw (h refl) (never_and (m && l) ∙ sym (never_and m))
other_of false true true true n h k = k refl refl refl
other_of false true true false n h k = k refl refl refl
other_of false true false l n h k = refl

-- ---- coordinates from a coordinate on

module _ (bits : Bits) where
  -- a coordinate that is left doesn't come before the start
  pub from_on : (p r : Coord) → is_left bits (Some p) r ≡ true → ComesBefore bits r p → ⊥
  from_on p r h = denied (is_lt (block_cmp bits r p)) h

  pub left_from : (p r : Coord) → (ComesBefore bits r p → ⊥) → is_left bits (Some p) r ≡ true
  left_from p r h = deny (is_lt (block_cmp bits r p)) h

  -- if c doesn't come before p, and r not before c, r doesn't come before p
  later_still : (p c r : Coord) → (ComesBefore bits c p → ⊥) → (ComesBefore bits r c → ⊥) → ComesBefore bits r p → ⊥
  later_still p c r from to h =
      elim (which_first bits c r) [
        | inl a ↦ from (comes_on bits c r p a h)
        | inr w ↦ elim w [ inl e ↦ from (subst (λ (s : Coord). ComesBefore bits s p) (sym e) h) | inr b ↦ to b ]
      ]

  -- if q doesn't come before p, each coordinate past q comes past p
  pub past_both : (p q m : Coord) → (ComesBefore bits q p → ⊥) → ComesBefore bits q m → ComesBefore bits p m
  past_both p q m from h =
      elim (which_first bits p q) [
        | inl a ↦ comes_on bits p q m a h
        | inr w ↦ elim w [ inl e ↦ subst (λ (s : Coord). ComesBefore bits s m) (sym e) h | inr b ↦ absurd (from b) ]
      ]

module _ {V : Type 0} (eq : V → V → Bool) (bits : Bits) (configured : AreBits bits) (level : Level) (f : Field V) where
  abbrev start : Coord → Coord
  start n = (block bits level n).min

  abbrev is_non_constant : Coord → Bool
  is_non_constant n = not (is_constant eq f (block bits level n))

  start_inside : (n : Coord) → is_inside (block_numbers bits level) n ≡ true → is_inside everywhere (start n) ≡ true
  start_inside n i = corner_in_range bits level configured n i

  -- from the first coordinate of all, every block is counted
  pub non_constant_first : non_constant_from eq bits level f (Some everywhere.min) ≡ non_constant eq bits level f
  non_constant_first =
      count_alike (block_numbers bits level) (λ n. is_non_constant n && is_left bits (Some everywhere.min) (start n)) is_non_constant
      (λ n i. also (is_non_constant n) (is_left bits (Some everywhere.min) (start n)) (left_from bits everywhere.min (start n) (not_before_min bits everywhere (start n) (start_inside n i))))

-- if no coordinate is left, no block is counted
pub non_constant_none : {V : Type 0} (eq : V → V → Bool) (bits : Bits) (level : Level) (f : Field V) → non_constant_from eq bits level f None ≡ 0
non_constant_none eq bits level f =
    count_listed (block_numbers bits level) (λ n. not (is_constant eq f (block bits level n)) && is_left bits None (block bits level n).min) [] nothing_apart
    (λ n. none_on (is_inside (block_numbers bits level) n) (not (is_constant eq f (block bits level n)) && is_left bits None (block bits level n).min) (λ i. never_and (not (is_constant eq f (block bits level n)))))

-- the first coordinate of all begins its block
pub first_start : (bits : Bits) (level : Level) → is_inside everywhere everywhere.min ≡ true → IsBoxStart bits level everywhere everywhere.min
first_start bits level i = record { inside = i; first = λ q inside before same. not_before_min bits everywhere q inside before }

module _ {V : Type 0} (eq : V → V → Bool) (exact : (x y : V) → eq x y ≡ true → x ≡ y) (itself : (x : V) → eq x x ≡ true) (bits : Bits) (configured : AreBits bits) (level : Level) (t : Layout V) (p : Coord) where
  abbrev f : Field V
  f = field_of bits t

  abbrev begin : Coord → Coord
  begin n = (block bits level n).min

  abbrev differs_at : Coord → Bool
  differs_at n = not (is_constant eq f (block bits level n))

  -- a coordinate of a block of the range
  of_block : (n : Coord) → is_inside (block_numbers bits level) n ≡ true → (r : Coord) → is_inside (block bits level n) r ≡ true → is_inside everywhere r ≡ true
  of_block n i r j = numbered_in_range bits level configured r (subst (λ (m : Coord). is_inside (block_numbers bits level) m ≡ true) (sym (number_in_block bits level n r j)) i)

  -- a coordinate of a block comes from p on if the block begins from p on
  left_in_block : (n : Coord) → is_left bits (Some p) (begin n) ≡ true → (r : Coord) → is_inside (block bits level n) r ≡ true → is_left bits (Some p) r ≡ true
  left_in_block n left r j = left_from bits p r (later_still bits p (begin n) r (from_on bits p (begin n) left) (not_before_min bits (block bits level n) r j))

  -- a block of one cell is constant
  constant_from : (n : Coord) → ((r : Coord) → is_inside (block bits level n) r ≡ true → f.cell r ≡ f.cell (begin n)) → is_constant eq f (block bits level n) ≡ true
  constant_from n cells = uniform_from eq exact itself f (block bits level n) (f.cell (begin n)) cells

  begin_in : (n : Coord) → is_inside (block bits level n) (begin n) ≡ true
  begin_in n = inside_numbered bits level n (begin n) (number_of_corner bits level n)

  background_block : (n : Coord) → ((r : Coord) → is_inside (block bits level n) r ≡ true → f.cell r ≡ off t.background) → is_constant eq f (block bits level n) ≡ true
  background_block n cells = constant_from n (λ r j. cells r j ∙ sym (cells (begin n) (begin_in n)))

  never_non_constant : (n : Coord) → is_constant eq f (block bits level n) ≡ true → differs_at n ≡ true → ⊥
  never_non_constant n c m = denied (is_constant eq f (block bits level n)) m c

  -- if all that is left is the background, no block is counted
  pub non_constant_end : IsSkippedTo bits t everywhere Background p None → 0 + non_constant_from eq bits level f None ≡ non_constant_from eq bits level f (Some p)
  non_constant_end background_cell =
      no_more (count_alike (block_numbers bits level) (λ n. differs_at n && is_left bits None (begin n)) (λ n. differs_at n && is_left bits (Some p) (begin n))
      (λ n i. with_same (differs_at n) false (is_left bits (Some p) (begin n)) (λ m. sym (not_true (is_left bits (Some p) (begin n)) (λ left.
      never_non_constant n (background_block n (λ r j. background_cell r (of_block n i r j) (left_in_block n left r j))) m)))))

  module _ (starts : IsBoxStart bits level everywhere p) (q : Coord) (background_cell : IsSkippedTo bits t everywhere Background p (Some q)) (outer : Level) (differs : Bool) (at : IsBlockAt eq bits level f q outer differs) where
    abbrev here : Coord
    here = block_number bits level q

    q_from : ComesBefore bits q p → ⊥
    q_from = from_on bits p q background_cell.1

    -- a block in the outer one around q
    in_outer : (n : Coord) → block_number bits outer (begin n) ≡ block_number bits outer q → differs ≡ false → is_constant eq f (block bits level n) ≡ true
    in_outer n same equal = constant_from n (λ r j. cells r (by_level r j) ∙ sym (cells (begin n) same))
      where
        constant : is_constant eq f (block_around bits outer q) ≡ true
        constant = undo (is_constant eq f (block_around bits outer q)) (sym at.test ∙ equal)
          where
            undo : (b : Bool) → not b ≡ false → b ≡ true
            undo true h = refl
            undo false h = cc

        cells : (r : Coord) → block_number bits outer r ≡ block_number bits outer q → f.cell r ≡ f.cell (block_around bits outer q).min
        cells r e = uniform_cells eq exact itself f (block_around bits outer q) (f.cell (block_around bits outer q).min) constant r (inside_numbered bits outer (block_number bits outer q) r e)

        by_level : (r : Coord) → is_inside (block bits level n) r ≡ true → block_number bits outer r ≡ block_number bits outer q
        by_level r j = at.whole r (begin n) (number_in_block bits level n r j ∙ sym (number_of_corner bits level n)) ∙ same

    -- a block that ends before q
    before_here : (n : Coord) → is_inside (block_numbers bits level) n ≡ true → is_left bits (Some p) (begin n) ≡ true → ComesBefore bits (begin n) q → (n ≡ here → ⊥) → is_constant eq f (block bits level n) ≡ true
    before_here n i left before apart = background_block n (λ r j. background_cell.2 r (of_block n i r j) (left_in_block n left r j) (ends r j))
      where
        ends : (r : Coord) → is_inside (block bits level n) r ≡ true → ComesBefore bits r q
        ends r j =
            let number = number_in_block bits level n r j in
            elim (which_first bits r q) [
              | inl a ↦ a
              | inr w ↦ elim w [
                | inl e ↦ absurd (apart (sym number ∙ ap (block_number bits level) e))
                | inr b ↦ absurd (apart (sym (number_of_corner bits level n) ∙ sym
                    (contiguous bits level (begin n) q r (not_both bits (begin n) q before) (not_both bits q r b) (number_of_corner bits level n ∙ sym number))))
              ]
            ]

    -- q's block begins from p on
    here_left : is_left bits (Some p) (begin here) ≡ true
    here_left = left_from bits p (begin here) (λ h.
        let number = number_of_corner bits level here in
        let same = contiguous bits level (begin here) p q (not_both bits (begin here) p h) q_from number in
        starts.first (begin here) (start_inside eq bits configured level f here (number_in_range bits level q background_cell.0)) h (sym same))

    module _ (next : Option Coord) (is_next : IsNextCoord bits outer everywhere q next) where
      -- a coordinate that isn't left any more lies up to q's block
      up_to : (c : Coord) → is_inside everywhere c ≡ true → is_left bits next c ≡ false → IsUpToBlock bits outer q c
      up_to c i gone = by next is_next gone
        where
          by : (o : Option Coord) → IsNextCoord bits outer everywhere q o → is_left bits o c ≡ false → IsUpToBlock bits outer q c
          by None h g = h c i
          by (Some m) h g = h.between c i (gone_before bits m c g)

      past_outer : (c : Coord) → is_inside everywhere c ≡ true → block_number bits outer c ≡ block_number bits outer q → is_left bits next c ≡ false
      past_outer c i same = by next is_next
        where
          by : (o : Option Coord) → IsNextCoord bits outer everywhere q o → is_left bits o c ≡ false
          by None h = refl
          by (Some m) h = ap not (h.past c i same)

      -- a coordinate that is still left was left before
      left_before : (c : Coord) → is_left bits next c ≡ true → is_left bits (Some p) c ≡ true
      left_before c left = by next is_next left
        where
          by : (o : Option Coord) → IsNextCoord bits outer everywhere q o → is_left bits o c ≡ true → is_left bits (Some p) c ≡ true
          by None h l = absurd (false_true refl l)
          by (Some m) h l = left_from bits p c (λ k. from_on bits m c l (comes_on bits c p m k (past_both bits p q m q_from (h.past q background_cell.0 refl))))

      -- a block that differs, and isn't q's, is left as before
      others : (n : Coord) → is_inside (block_numbers bits level) n ≡ true → (n ≡ here → ⊥) → differs_at n ≡ true → is_left bits (Some p) (begin n) ≡ is_left bits next (begin n)
      others n i apart m = same_truth (is_left bits (Some p) (begin n)) (is_left bits next (begin n)) stays (left_before (begin n))
        where
          stays : is_left bits (Some p) (begin n) ≡ true → is_left bits next (begin n) ≡ true
          stays left = elim (true_or_false (is_left bits next (begin n))) [
            | inl k ↦ k
            | inr gone ↦ absurd (elim (up_to (begin n) (start_inside eq bits configured level f n i) gone) [
              | inl before ↦ never_non_constant n (before_here n i left before apart) m
              | inr same ↦ elim (true_or_false differs) [
                | inr equal ↦ never_non_constant n (in_outer n same equal) m
                | inl d ↦ apart (sym (number_of_corner bits level n) ∙ subst (λ (l : Level). block_number bits l (begin n) ≡ block_number bits l q) (at.own d) same)
              ]
            ])
          ]

      -- the count is unchanged if q's block is constant
      none_here : differs ≡ false → non_constant_from eq bits level f next ≡ non_constant_from eq bits level f (Some p)
      none_here equal =
          sym (count_alike (block_numbers bits level) (λ n. differs_at n && is_left bits (Some p) (begin n)) (λ n. differs_at n && is_left bits next (begin n))
          (λ n i. with_same (differs_at n) (is_left bits (Some p) (begin n)) (is_left bits next (begin n)) (λ m. others n i (apart n m) m)))
        where
          apart : (n : Coord) → differs_at n ≡ true → n ≡ here → ⊥
          apart n m e = never_non_constant n (in_outer n (at.whole (begin n) q (number_of_corner bits level n ∙ e)) equal) m

      -- the count is one less if q's block differs
      one_here : differs ≡ true → 1 + non_constant_from eq bits level f next ≡ non_constant_from eq bits level f (Some p)
      one_here d =
          count_split (block_numbers bits level) (λ n. differs_at n && is_left bits (Some p) (begin n)) (λ n. coord_eq n here) (λ n. differs_at n && is_left bits next (begin n)) (here ∷ [])
          (one_more here [] nothing_apart refl)
          (λ n. one_of (coord_eq n here) (is_inside (block_numbers bits level) n) (differs_at n) (is_left bits (Some p) (begin n)) (λ e. was n (coord_exact n here e)))
          (λ n. other_of (coord_eq n here) (is_inside (block_numbers bits level) n) (differs_at n) (is_left bits (Some p) (begin n)) (is_left bits next (begin n))
          (λ e. now n (coord_exact n here e))
          (λ i o m. others n i (λ e. false_true o (subst (λ (k : Coord). coord_eq n k ≡ true) e (coord_equiv.refl n))) m))
        where
          level_is : outer ≡ level
          level_is = at.own d

          differs_here : differs_at here ≡ true
          differs_here = subst (λ (l : Level). not (is_constant eq f (block_around bits l q)) ≡ true) level_is (sym at.test ∙ d)

          was : (n : Coord) → n ≡ here → (is_inside (block_numbers bits level) n ≡ true) × (differs_at n ≡ true) × (is_left bits (Some p) (begin n) ≡ true)
          was n e = subst (λ (k : Coord). (is_inside (block_numbers bits level) k ≡ true) × (differs_at k ≡ true) × (is_left bits (Some p) (begin k) ≡ true)) (sym e)
              (number_in_range bits level q background_cell.0, differs_here, here_left)

          now : (n : Coord) → n ≡ here → is_left bits next (begin n) ≡ false
          now n e = subst (λ (k : Coord). is_left bits next (begin k) ≡ false) (sym e)
              (past_outer (begin here) (start_inside eq bits configured level f here (number_in_range bits level q background_cell.0)) (at.whole (begin here) q (number_of_corner bits level here)))

      pub non_constant_next : cond differs 1 0 + non_constant_from eq bits level f next ≡ non_constant_from eq bits level f (Some p)
      non_constant_next = elim (true_or_false differs) [
        | inl d ↦ subst (λ (b : Bool). cond b 1 0 + non_constant_from eq bits level f next ≡ non_constant_from eq bits level f (Some p)) (sym d) (one_here d)
        | inr e ↦ subst (λ (b : Bool). cond b 1 0 + non_constant_from eq bits level f next ≡ non_constant_from eq bits level f (Some p)) (sym e) (no_more (none_here e))
      ]

      -- the next coordinate begins a block
      pub start_next : IfSome next (IsBoxStart bits level everywhere)
      start_next = by next is_next
        where
          by : (o : Option Coord) → IsNextCoord bits outer everywhere q o → IfSome o (IsBoxStart bits level everywhere)
          by None h = tt
          by (Some m) h = record {
            inside = h.inside;
            first = λ r i before same.
                let outer_same = at.whole r m same in
                elim (h.between r i before) [
                  | inl a ↦
                      let past = h.past q background_cell.0 refl in
                      let one = contiguous bits outer r q m (not_both bits r q a) (not_both bits q m past) outer_same in
                      not_itself bits m (h.past m h.inside (sym outer_same ∙ sym one))
                  | inr e ↦ not_itself bits m (h.past m h.inside (sym outer_same ∙ e))
                ];
          }

      pub nearer_next : IfSome next (λ m. coordinates_past bits m < coordinates_past bits p)
      nearer_next = by next is_next
        where
          by : (o : Option Coord) → IsNextCoord bits outer everywhere q o → IfSome o (λ m. coordinates_past bits m < coordinates_past bits p)
          by None h = tt
          by (Some m) h = fewer_past bits p m h.inside (past_both bits p q m q_from (h.past q background_cell.0 refl))

-- ---- a block in a piece of one cell

pub upper_whole : (bits : Bits) (level : Level) (r s : Coord) → block_number bits level r ≡ block_number bits level s → block_number bits Upper r ≡ block_number bits Upper s
upper_whole bits Upper r s e = e
upper_whole bits Lower r s e = upper_from_lower bits r s e
upper_whole bits Leaf r s e = upper_from_lower bits r s (lower_from_leaf bits r s e)

pub covered_block : {V : Type 0} (eq : V → V → Bool) (exact : (x y : V) → eq x y ≡ true → x ≡ y) (itself : (x : V) → eq x x ≡ true) (bits : Bits) (level outer : Level) (f : Field V) (q : Coord)
    → ((r s : Coord) → block_number bits level r ≡ block_number bits level s → block_number bits outer r ≡ block_number bits outer s)
    → (piece : Box) (cell : Cell V) → ((r : Coord) → IsTrue (is_inside piece r) → f.cell r ≡ cell) → is_within (block_around bits outer q) piece ≡ true → IsBlockAt eq bits level f q outer false
covered_block eq exact itself bits level outer f q whole piece cell cells within = record {
  whole = whole;
  test = sym (ap not (uniform_from eq exact itself f (block_around bits outer q) (f.cell (block_around bits outer q).min) (λ r i. here r i ∙ sym (here (block_around bits outer q).min corner))));
  own = λ h. absurd (false_true refl h);
}
  where
    here : (r : Coord) → is_inside (block_around bits outer q) r ≡ true → f.cell r ≡ cell
    here r i = cells r (within_each (block_around bits outer q) piece r within i)

    corner : is_inside (block_around bits outer q) (block_around bits outer q).min ≡ true
    corner = inside_numbered bits outer (block_number bits outer q) (block_around bits outer q).min (number_of_corner bits outer (block_number bits outer q))

-- ---- sums

pub sum_on : (total : ℕ) (differs : Bool) (rest before all : ℕ) → cond differs 1 0 + rest ≡ before → total + before ≡ all → differs ≡ true → total + 1 + rest ≡ all
sum_on total true rest before all h k e = omega (arith, h, k)
sum_on total false rest before all h k e = absurd (false_true refl e)

pub sum_same : (total : ℕ) (differs : Bool) (rest before all : ℕ) → cond differs 1 0 + rest ≡ before → total + before ≡ all → differs ≡ false → total + rest ≡ all
sum_same total true rest before all h k e = absurd (false_true e refl)
sum_same total false rest before all h k e = omega (arith, h, k)

pub sum_few : (total : ℕ) (rest all bound : ℕ) → total + 1 + rest ≡ all → all ≤ bound → total + 1 ≤ bound
sum_few total rest all bound h k = omega (arith, h, k)

-- the count at the loop's start
pub first_counted : {V : Type 0} (eq : V → V → Bool) (bits : Bits) → AreBits bits → (level : Level) (f : Field V) (p : Coord) → p ≡ everywhere.min
    → IsBoxStart bits level everywhere p × (0 + non_constant_from eq bits level f (Some p) ≡ non_constant eq bits level f)
first_counted eq bits configured level f p e =
    subst (λ (q : Coord). IsBoxStart bits level everywhere q × (0 + non_constant_from eq bits level f (Some q) ≡ non_constant eq bits level f)) (sym e)
    (first_start bits level refl, no_more (non_constant_first eq bits configured level f))

-- the count at the loop's end
pub all_counted : {V : Type 0} (eq : V → V → Bool) (bits : Bits) (level : Level) (f : Field V) (total : ℕ) (at : Option Coord) → ((p : Coord) → at ≡ Some p → ⊥) → total + non_constant_from eq bits level f at ≡ non_constant eq bits level f
    → total ≡ non_constant eq bits level f
all_counted eq bits level f total None none h = let e = non_constant_none eq bits level f in omega (arith, e, h)
all_counted eq bits level f total (Some p) none h = absurd (none p refl)
