-- Walks over the pairs of two trees: starts, and what lies between them.
use Rattle.vdb_tree.proofs.Common.{◌≡◌, ◌⊎◌, inl, inr, Bool, true, false, ap, refl, subst, sym, ◌∙◌, is_lt, ordering_reverse, Ordering, Less, Equal, Greater, ◌<◌, Option, Some, None, IfSome, IsTrue, block, block_around, block_cmp, block_number, key, AreBits, ComesBefore, IsFirstPast, IsNextCoord, IsUpToBlock, coordinates_past, Box, everywhere, is_inside, Bits, Coord, Level, Leaf, Lower, Upper, comes_on, contiguous, not_before_min, not_both, not_itself, block_in_range, number_of_corner, inside_numbered, lower_from_leaf, number_in_block, upper_from_lower, Cell, Layout, background_cell, cell_at, field_of, IsPairWalk, PassesPairs, YieldsPair, IsLeafAround, IsEnd, IsStart, IsStartAfter, IsSkipped, end_level, is_left, left_count, End, Background}
use Rattle.vdb_coord.proofs.Nesting.{block_exact, block_total}
use Rattle.vdb_node.specs.Leaf.{Leaf as LeafOf}
use Rattle.vdb_tree.specs.internal.PairBlocks.{IsOver}
use Rattle.vdb_tree.specs.Pairs.{IsBackgroundInBoth, IsPairStart, TreePairWalk, lower_level, pair_level}
use Rattle.vdb_tree.specs.Parts.{IsPartOfLeaf}
use Rattle.vdb_tree.specs.declared.queries.ends.End.TheVariants.{Tile as EndTile}
use Rattle.vdb_tree.proofs.Fields.{cell_inside}
use Rattle.vdb_tree.proofs.PartStarts.{in_upper, same_end}
use Rattle.vdb_tree.proofs.PieceCells.{tile_block}
use Rattle.vdb_tree.proofs.PartWalks.{background_skipped, before_not_left, gone_if_before, left_not_before, left_unless, step_nearer}

false_true : false ≡ true → ⊥
false_true e = cc

-- ---- the lower of two levels

module _ (bits : Bits) where
  -- the block of the lower level lies in one block of each level
  in_first : (l m : Level) (q p : Coord) → block_number bits (lower_level l m) q ≡ block_number bits (lower_level l m) p → block_number bits l q ≡ block_number bits l p
  in_first Leaf m q p e = e
  in_first Lower Leaf q p e = lower_from_leaf bits q p e
  in_first Lower Lower q p e = e
  in_first Lower Upper q p e = e
  in_first Upper Leaf q p e = upper_from_lower bits q p (lower_from_leaf bits q p e)
  in_first Upper Lower q p e = upper_from_lower bits q p e
  in_first Upper Upper q p e = e

  in_second : (l m : Level) (q p : Coord) → block_number bits (lower_level l m) q ≡ block_number bits (lower_level l m) p → block_number bits m q ≡ block_number bits m p
  in_second Leaf Leaf q p e = e
  in_second Leaf Lower q p e = lower_from_leaf bits q p e
  in_second Leaf Upper q p e = upper_from_lower bits q p (lower_from_leaf bits q p e)
  in_second Lower Leaf q p e = e
  in_second Lower Lower q p e = e
  in_second Lower Upper q p e = upper_from_lower bits q p e
  in_second Upper m q p e = e

  -- the blocks of one level lie in blocks of the other
  abbrev Nests : Level → Level → Type 0
  Nests l m = (q p : Coord) → block_number bits l q ≡ block_number bits l p → block_number bits m q ≡ block_number bits m p

  nests_either : (l m : Level) → Nests l m ⊎ Nests m l
  nests_either Leaf m = inl (λ q p e. in_second Leaf m q p e)
  nests_either Lower Leaf = inr (λ q p e. lower_from_leaf bits q p e)
  nests_either Lower Lower = inl (λ q p e. e)
  nests_either Lower Upper = inl (λ q p e. upper_from_lower bits q p e)
  nests_either Upper m = inr (λ q p e. in_first Upper m q p e)

-- if one of two levels is the leaf's, it is the lower one
pub leaf_is_lower : (l m : Level) → (l ≡ Leaf) ⊎ (m ≡ Leaf) → lower_level l m ≡ Leaf
leaf_is_lower l m (inl e) = ap (λ (k : Level). lower_level k m) e
leaf_is_lower Leaf m (inr e) = refl
leaf_is_lower Lower m (inr e) = ap (lower_level Lower) e
leaf_is_lower Upper m (inr e) = e

-- a leaf extent, around its least corner
pub leaf_box : (bits : Bits) (level : Level) (p : Coord) (box : Box) → box ≡ block_around bits level p → level ≡ Leaf → box ≡ block_around bits Leaf box.min
leaf_box bits level p box around leaf =
    let is : box ≡ block_around bits Leaf p = around ∙ ap (λ (l : Level). block_around bits l p) leaf in
    let number : block_number bits Leaf box.min ≡ block_number bits Leaf p = ap (λ (b : Box). block_number bits Leaf b.min) is ∙ number_of_corner bits Leaf (block_number bits Leaf p) in
    is ∙ ap (block bits Leaf) (sym number)

-- a block lies in one upper extent
pub in_one_root : (bits : Bits) (level : Level) (p : Coord) (box : Box) → box ≡ block_around bits level p → (q r : Coord) → IsTrue (is_inside box q) → IsTrue (is_inside box r) → key bits q ≡ key bits r
in_one_root bits level p box around q r first second = to_root q first ∙ sym (to_root r second)
  where
    to_root : (s : Coord) → IsTrue (is_inside box s) → key bits s ≡ key bits p
    to_root s h = in_upper bits level s p (number_in_block bits level (block_number bits level p) s (subst (λ (b : Box). IsTrue (is_inside b s)) around h))

-- ---- the lesser of two starts

module _ (bits same_bits : Bits) (is : same_bits ≡ bits) (p q : Coord) (o : Ordering) (compared : o ≡ block_cmp same_bits p q) where
  cmp : block_cmp bits p q ≡ o
  cmp = ap (λ (b : Bits). block_cmp b p q) (sym is) ∙ sym compared

  pub least_if_less : o ≡ Less → (r : Coord) → ComesBefore bits r p → ComesBefore bits r p × ComesBefore bits r q
  least_if_less e r h = (h, comes_on bits r p q h (ap is_lt (cmp ∙ e)))

  pub least_if_equal : o ≡ Equal → (r : Coord) → ComesBefore bits r p → ComesBefore bits r p × ComesBefore bits r q
  least_if_equal e r h = (h, subst (λ (c : Coord). ComesBefore bits r c) (block_exact bits p q (cmp ∙ e)) h)

  pub least_if_greater : o ≡ Greater → (r : Coord) → ComesBefore bits r q → ComesBefore bits r p × ComesBefore bits r q
  least_if_greater e r h = (comes_on bits r q p h (ap is_lt ((block_total bits).antisymm q p ∙ ap ordering_reverse (cmp ∙ e))), h)

-- what comes before the lesser start is left after neither start
pub lesser_gone : (bits : Bits) (a b : Option Coord) (p q n : Coord) → a ≡ Some p → b ≡ Some q → ((r : Coord) → ComesBefore bits r n → ComesBefore bits r p × ComesBefore bits r q)
    → (r : Coord) → is_left bits (Some n) r ≡ false → (is_left bits a r ≡ false) × (is_left bits b r ≡ false)
lesser_gone bits a b p q n first second least r gone =
    let before = least r (before_not_left bits n r gone) in (
      subst (λ (o : Option Coord). is_left bits o r ≡ false) (sym first) (gone_if_before bits p r before.0),
      subst (λ (o : Option Coord). is_left bits o r ≡ false) (sym second) (gone_if_before bits q r before.1),
    )

-- ---- what a tree has around a coordinate

module _ {V : Type 0} (bits : Bits) (t : Layout V) (p : Coord) (level : Level) (cell : Cell V) (end : IsEnd bits t p (EndTile level cell)) where
  in_tile : (q : Coord) → block_number bits (end_level bits t p) q ≡ block_number bits (end_level bits t p) p → block_number bits level q ≡ block_number bits level p
  in_tile q e = subst (λ (l : Level). block_number bits l q ≡ block_number bits l p) end.0 e

  -- the cell of the tree's tile around p
  pub tile_cells : (q : Coord) → IsTrue (is_inside everywhere q) × (block_number bits (end_level bits t p) q ≡ block_number bits (end_level bits t p) p) → (field_of bits t).cell q ≡ cell
  tile_cells q at = cell_inside t.background (cell_at bits t) q at.0 ∙ tile_block bits t level p q cell end.1 (in_tile q at.1)

  -- if the tile around p is the background, so are its cells
  pub tile_background : cell ≡ background_cell t → (q : Coord) → block_number bits (end_level bits t p) q ≡ block_number bits (end_level bits t p) p → IsSkipped bits Background t q
  tile_background same q e = background_skipped bits t level p cell end.1 same q (in_tile q e)

-- the cells of the tree's leaf around p
pub leaf_cells : {V : Type 0} (bits : Bits) (t : Layout V) (p : Coord) → end_level bits t p ≡ Leaf → (box : Box)
    → ((q : Coord) → IsTrue (is_inside box q) → IsTrue (is_inside everywhere q) × (block_number bits (end_level bits t p) q ≡ block_number bits (end_level bits t p) p))
    → (leaf : LeafOf V) → IsLeafAround bits (field_of bits t) p leaf → IsPartOfLeaf bits (field_of bits t) box leaf
leaf_cells bits t p ends box within leaf is =
    let in_leaf : (q : Coord) → IsTrue (is_inside box q) → block_number bits Leaf q ≡ block_number bits Leaf p
    = λ q i. subst (λ (l : Level). block_number bits l q ≡ block_number bits l p) ends (within q i).1 in
    record { block = λ q r i j. in_leaf q i ∙ sym (in_leaf r j); cells = λ q i. is q (within q i).0 (in_leaf q i) }

-- ---- starts

module _ {V : Type 0} (bits : Bits) (t u : Layout V) where
  -- all coordinates of a pair's block have one pair level
  same_pair : (p n : Coord) → block_number bits (pair_level bits t u p) n ≡ block_number bits (pair_level bits t u p) p → pair_level bits t u n ≡ pair_level bits t u p
  same_pair p n e =
      let first = same_end bits t p n (in_first bits (end_level bits t p) (end_level bits u p) n p e) in
      let second = same_end bits u p n (in_second bits (end_level bits t p) (end_level bits u p) n p e) in
      ap (λ (l : Level). lower_level l (end_level bits u n)) first ∙ ap (lower_level (end_level bits t p)) second

  -- a start of one tree is a start of a pair
  first_start : (n : Coord) → IsStart bits t everywhere n → IsPairStart bits t u n
  first_start n start = record {
    inside = start.inside;
    first = λ q i b e. start.first q i b (in_first bits (end_level bits t n) (end_level bits u n) q n e);
  }

  second_start : (n : Coord) → IsStart bits u everywhere n → IsPairStart bits t u n
  second_start n start = record {
    inside = start.inside;
    first = λ q i b e. start.first q i b (in_second bits (end_level bits t n) (end_level bits u n) q n e);
  }

  -- the first coordinate past the block of a pair is a start of a pair
  module _ (p n : Coord) (here : IsTrue (is_inside everywhere p)) (found : IsFirstPast bits (pair_level bits t u p) everywhere p n) where
    abbrev At : Level → Coord → Coord → Type 0
    At level q r = block_number bits level q ≡ block_number bits level r

    apart : At (pair_level bits t u p) n p → ⊥
    apart e = not_itself bits n (found.past n found.inside e)

    apart_there : At (pair_level bits t u n) p n → ⊥
    apart_there e = apart (subst (λ (l : Level). At l n p) (sym (same_pair n p e)) (sym e))

    past_first : (q : Coord) → IsTrue (is_inside everywhere q) → ComesBefore bits q n → At (pair_level bits t u n) q n → ⊥
    past_first q i b e = elim (found.between q i b) [
      | inl c ↦ apart_there (contiguous bits (pair_level bits t u n) q p n (not_both bits q p c) (not_both bits p n (found.past p here refl)) e ∙ e)
      | inr s ↦ elim (nests_either bits (pair_level bits t u p) (pair_level bits t u n)) [
        | inl up ↦ apart_there (sym (up q p s) ∙ e)
        | inr down ↦ apart (sym (down q n e) ∙ s)
      ]
    ]

    past_start : IsPairStart bits t u n
    past_start = record { inside = found.inside; first = past_first }

  first_after : (level : Level) (p : Coord) (next : Option Coord) → IsStartAfter bits t everywhere Background level p next → IfSome next (IsPairStart bits t u)
  first_after level p None h = tt
  first_after level p (Some n) h = first_start n h.start

  second_after : (level : Level) (p : Coord) (next : Option Coord) → IsStartAfter bits u everywhere Background level p next → IfSome next (IsPairStart bits t u)
  second_after level p None h = tt
  second_after level p (Some n) h = second_start n h.start

  next_start : (p : Coord) → IsTrue (is_inside everywhere p) → (level : Level) → level ≡ pair_level bits t u p → (found : Option Coord) → IsNextCoord bits level everywhere p found
      → IfSome found (IsPairStart bits t u)
  next_start p here level is None h = tt
  next_start p here level is (Some n) h = past_start p n here (subst (λ (l : Level). IsFirstPast bits l everywhere p n) is h)

  -- the first coordinate of all is a start of a pair
  pub least_start : (n : Coord) (all : Box) → n ≡ all.min → all ≡ everywhere → IsPairStart bits t u n
  least_start n all corner is =
      let at : n ≡ everywhere.min = corner ∙ ap (λ (b : Box). b.min) is in
      subst (IsPairStart bits t u) (sym at) (record { inside = refl; first = λ q i b e. not_before_min bits everywhere q i b })

  -- the walk may pass over the tile around p
  abbrev IsBackgroundOver : Coord → Layout V → Type 0
  IsBackgroundOver p v = (q : Coord) → block_number bits (end_level bits v p) q ≡ block_number bits (end_level bits v p) p → IsSkipped bits Background v q

  -- ---- a pair

  -- the box is the block of the pair around p
  pub record IsAround (p : Coord) (level : Level) (box : Box) : Type 0 where
    pub few : AreBits bits
    pub here : IsTrue (is_inside everywhere p)
    pub is : level ≡ pair_level bits t u p
    pub around : box ≡ block_around bits level p

  -- the level of a pair, by the two ends of the descents
  pub pair_level_is : (p : Coord) (l m level : Level) → l ≡ end_level bits t p → m ≡ end_level bits u p → level ≡ lower_level l m → level ≡ pair_level bits t u p
  pair_level_is p l m level first second lower = lower ∙ ap (λ (k : Level). lower_level k m) first ∙ ap (lower_level (end_level bits t p)) second

  pub around_is : (p : Coord) → AreBits bits → IsTrue (is_inside everywhere p) → (level : Level) → level ≡ pair_level bits t u p
      → (same_bits : Bits) → same_bits ≡ bits → (box : Box) → box ≡ block_around same_bits level p → IsAround p level box
  around_is p few here level is same_bits same box around = record { few = few; here = here; is = is; around = around ∙ ap (λ (b : Bits). block_around b level p) same }

  pub around_walk : (old : TreePairWalk V) (p : Coord) → old.at ≡ Some p → IsPairWalk bits t u old → AreBits bits → (level : Level) → level ≡ pair_level bits t u p
      → (box : Box) → box ≡ block_around bits level p → IsAround p level box
  around_walk old p at walk few level is box around =
      record { few = few; here = (subst (λ (o : Option Coord). IfSome o (IsPairStart bits t u)) at walk.start).inside; is = is; around = around }

  -- the block of a pair lies in one block of each tree
  module _ (p : Coord) (level : Level) (box : Box) (block_is : IsAround p level box) where
    numbers_in : (q : Coord) → IsTrue (is_inside box q) → block_number bits level q ≡ block_number bits level p
    numbers_in q i = number_in_block bits level (block_number bits level p) q (subst (λ (b : Box). IsTrue (is_inside b q)) block_is.around i)

    numbers_below : (q : Coord) → IsTrue (is_inside box q) → block_number bits (pair_level bits t u p) q ≡ block_number bits (pair_level bits t u p) p
    numbers_below q i = subst (λ (l : Level). block_number bits l q ≡ block_number bits l p) block_is.is (numbers_in q i)

    range_in : (q : Coord) → IsTrue (is_inside box q) → IsTrue (is_inside everywhere q)
    range_in q i = block_in_range bits level block_is.few p q block_is.here (numbers_in q i)

    leaf_around : (end_level bits t p ≡ Leaf) ⊎ (end_level bits u p ≡ Leaf) → box ≡ block_around bits Leaf box.min
    leaf_around e = leaf_box bits level p box block_is.around (block_is.is ∙ leaf_is_lower (end_level bits t p) (end_level bits u p) e)

    pub over_first : (end : End V) → IsEnd bits t p end → IsOver bits t p end box
    over_first end ends = record {
      ends = ends;
      within = λ q i. (range_in q i, in_first bits (end_level bits t p) (end_level bits u p) q p (numbers_below q i));
      leaf_block = λ e. leaf_around (inl e);
    }

    pub over_second : (end : End V) → IsEnd bits u p end → IsOver bits u p end box
    over_second end ends = record {
      ends = ends;
      within = λ q i. (range_in q i, in_second bits (end_level bits t p) (end_level bits u p) q p (numbers_below q i));
      leaf_block = λ e. leaf_around (inr e);
    }

  module _ (old new : TreePairWalk V) (p : Coord) (at : old.at ≡ Some p) (start : IsPairStart bits t u p) where
    was_left : (q : Coord) → IsTrue (is_left bits old.at q) → ComesBefore bits q p → ⊥
    was_left q l = left_not_before bits p q (subst (λ (o : Option Coord). IsTrue (is_left bits o q)) at l)

    still_left : (q : Coord) → (ComesBefore bits q p → ⊥) → IsTrue (is_left bits old.at q)
    still_left q h = subst (λ (o : Option Coord). IsTrue (is_left bits o q)) (sym at) (left_unless bits p q h)

    module _ (few : AreBits bits) (level : Level) (is : level ≡ pair_level bits t u p) where
      next_later : (next : Option Coord) → IsNextCoord bits level everywhere p next → (q : Coord) → IsTrue (is_left bits next q) → IsTrue (is_left bits old.at q)
      next_later None h q l = absurd (false_true l)
      next_later (Some n) h q l = still_left q (λ b. left_not_before bits n q l (comes_on bits q p n b (h.past p start.inside refl)))

      next_between : (next : Option Coord) → IsNextCoord bits level everywhere p next → (q : Coord) → IsTrue (is_inside everywhere q) → is_left bits next q ≡ false → IsUpToBlock bits level p q
      next_between None h q i gone = h q i
      next_between (Some n) h q i gone = h.between q i (before_not_left bits n q gone)

      next_gone : (next : Option Coord) → IsNextCoord bits level everywhere p next → (q : Coord) → IsTrue (is_inside everywhere q) → block_number bits level q ≡ block_number bits level p → is_left bits next q ≡ false
      next_gone None h q i e = refl
      next_gone (Some n) h q i e = gone_if_before bits n q (h.past q i e)

      module _ (box : Box) (around : box ≡ block_around bits level p) where
        number : (q : Coord) → IsTrue (is_inside box q) → block_number bits level q ≡ block_number bits level p
        number q i = number_in_block bits level (block_number bits level p) q (subst (λ (b : Box). IsTrue (is_inside b q)) around i)

        in_range : (q : Coord) → IsTrue (is_inside box q) → IsTrue (is_inside everywhere q)
        in_range q i = block_in_range bits level few p q start.inside (number q i)

        outside : (q : Coord) → is_inside box q ≡ false → block_number bits level q ≡ block_number bits level p → ⊥
        outside q out e = false_true (sym (subst (λ (b : Box). is_inside b q ≡ false) around out) ∙ inside_numbered bits level (block_number bits level p) q e)

        yields : IsNextCoord bits level everywhere p new.at → YieldsPair bits t u old new box
        yields next = record {
          passes = record {
            later = next_later new.at next;
            passed = λ q i l gone out. elim (next_between new.at next q i gone) [ inl b ↦ absurd (was_left q l b) | inr e ↦ absurd (outside q out e) ];
          };
          inside = in_range;
          left = λ q i. still_left q (λ b. start.first q (in_range q i) b (subst (λ (l : Level). block_number bits l q ≡ block_number bits l p) is (number q i)));
          gone = λ q i. next_gone new.at next q (in_range q i) (number q i);
        }

    -- ---- background in both

    past_later : (v : Layout V) (level : Level) (next : Option Coord) → IsStartAfter bits v everywhere Background level p next → (q : Coord) → IsTrue (is_left bits next q) → IsTrue (is_left bits old.at q)
    past_later v level None h q l = absurd (false_true l)
    past_later v level (Some n) h q l = still_left q (λ b. left_not_before bits n q l (comes_on bits q p n b (h.past p start.inside refl)))

    past_between : (v : Layout V) (level : Level) (next : Option Coord) → IsStartAfter bits v everywhere Background level p next → (q : Coord) → IsTrue (is_inside everywhere q) → is_left bits next q ≡ false
        → IsUpToBlock bits level p q ⊎ IsSkipped bits Background v q
    past_between v level None h q i gone = h q i
    past_between v level (Some n) h q i gone = h.between q i (before_not_left bits n q gone)

    -- a tree has the background over what was left and comes before the tree's next start
    past_skipped : (v : Layout V) → IsBackgroundOver p v → (next : Option Coord) → IsStartAfter bits v everywhere Background (end_level bits v p) p next
        → (q : Coord) → IsTrue (is_inside everywhere q) → IsTrue (is_left bits old.at q) → is_left bits next q ≡ false → IsSkipped bits Background v q
    past_skipped v over next after q i l gone = elim (past_between v (end_level bits v p) next after q i gone) [
      | inl up ↦ elim up [ inl b ↦ absurd (was_left q l b) | inr e ↦ over q e ]
      | inr s ↦ s
    ]

    module _ (a b : Option Coord) (after : IsStartAfter bits t everywhere Background (end_level bits t p) p a) (also : IsStartAfter bits u everywhere Background (end_level bits u p) p b)
        (one : (new.at ≡ a) ⊎ (new.at ≡ b)) where
      lesser_later : (q : Coord) → IsTrue (is_left bits new.at q) → IsTrue (is_left bits old.at q)
      lesser_later q l = elim one [
        | inl e ↦ past_later t (end_level bits t p) a after q (subst (λ (o : Option Coord). IsTrue (is_left bits o q)) e l)
        | inr e ↦ past_later u (end_level bits u p) b also q (subst (λ (o : Option Coord). IsTrue (is_left bits o q)) e l)
      ]

      -- the walk passes over what comes before both next starts
      passes : IsBackgroundOver p t → IsBackgroundOver p u → ((q : Coord) → is_left bits new.at q ≡ false → (is_left bits a q ≡ false) × (is_left bits b q ≡ false))
          → PassesPairs bits t u old new (λ q. false)
      passes over also_over least = record {
        later = lesser_later;
        passed = λ q i l gone out.
            let both = least q gone in
            (past_skipped t over a after q i l both.0, past_skipped u also_over b also q i l both.1);
      }

  -- the walk goes on from p
  module _ (old new : TreePairWalk V) (p : Coord) (next : Option Coord) (at : old.at ≡ Some p) (walk : IsPairWalk bits t u old) (went : new ≡ record old { at = next }) where
    start_of_walk : IsPairStart bits t u p
    start_of_walk = subst (λ (o : Option Coord). IfSome o (IsPairStart bits t u)) at walk.start

    there : new.at ≡ next
    there = ap (λ (w : TreePairWalk V). w.at) went

    walk_goes : IfSome next (IsPairStart bits t u) → IsPairWalk bits t u new
    walk_goes start = rw went (record { start = start; first = walk.first; second = walk.second })

    pub goes_nearer : IfSome next (λ n. coordinates_past bits n < coordinates_past bits p) → left_count bits new.at < left_count bits old.at
    goes_nearer h =
        subst (λ (o : Option Coord). left_count bits o < left_count bits old.at) (sym there)
        (subst (λ (o : Option Coord). left_count bits next < left_count bits o) (sym at) (step_nearer bits t p next h))

    -- the walk goes on past a pair
    module _ (level : Level) (box : Box) (block_is : IsAround p level box) (found : IsNextCoord bits level everywhere p next) where
      pub walk_past : IsPairWalk bits t u new
      walk_past = walk_goes (next_start p start_of_walk.inside level block_is.is next found)

      pub step_yields : YieldsPair bits t u old new box
      step_yields = yields old new p at start_of_walk block_is.few level block_is.is box block_is.around (subst (IsNextCoord bits level everywhere p) (sym there) found)

    -- the walk goes on past the background, to the lesser of the trees' next starts
    module _ (a b : Option Coord) (after : IsStartAfter bits t everywhere Background (end_level bits t p) p a) (also : IsStartAfter bits u everywhere Background (end_level bits u p) p b)
        (one : (next ≡ a) ⊎ (next ≡ b)) where
      pub walk_on : IsPairWalk bits t u new
      walk_on = walk_goes (elim one [
        | inl e ↦ subst (λ (o : Option Coord). IfSome o (IsPairStart bits t u)) (sym e) (first_after (end_level bits t p) p a after)
        | inr e ↦ subst (λ (o : Option Coord). IfSome o (IsPairStart bits t u)) (sym e) (second_after (end_level bits u p) p b also)
      ])

      pub step_passes : IsBackgroundOver p t → IsBackgroundOver p u
          → ((q : Coord) → is_left bits next q ≡ false → (is_left bits a q ≡ false) × (is_left bits b q ≡ false)) → PassesPairs bits t u old new (λ q. false)
      step_passes over also_over least =
          passes old new p at start_of_walk a b after also (elim one [ inl e ↦ inl (there ∙ e) | inr e ↦ inr (there ∙ e) ]) over also_over
          (λ q gone. least q (subst (λ (o : Option Coord). is_left bits o q ≡ false) there gone))

  -- a step depends on where a walk is, not on its paths
  pub passes_from : (old mid new : TreePairWalk V) → mid.at ≡ old.at → (but : Coord → Bool) → PassesPairs bits t u mid new but → PassesPairs bits t u old new but
  passes_from old mid new same but more = record {
    later = λ q l. subst (λ (o : Option Coord). IsTrue (is_left bits o q)) same (more.later q l);
    passed = λ q i l gone out. more.passed q i (subst (λ (o : Option Coord). IsTrue (is_left bits o q)) (sym same) l) gone out;
  }

  pub yields_from : (old mid new : TreePairWalk V) → mid.at ≡ old.at → (box : Box) → YieldsPair bits t u mid new box → YieldsPair bits t u old new box
  yields_from old mid new same box more = record {
    passes = passes_from old mid new same (is_inside box) more.passes;
    inside = more.inside;
    left = λ q i. subst (λ (o : Option Coord). IsTrue (is_left bits o q)) same (more.left q i);
    gone = more.gone;
  }

  -- ---- steps one after another

  module _ (a b c : TreePairWalk V) (first : PassesPairs bits t u a b (λ q. false)) where
    pub passes_on : (but : Coord → Bool) → PassesPairs bits t u b c but → PassesPairs bits t u a c but
    passes_on but more = record {
      later = λ q l. first.later q (more.later q l);
      passed = λ q i l gone out. by (is_left bits b.at q) q refl i l gone out;
    }
      where
        by : (left : Bool) → (q : Coord) → is_left bits b.at q ≡ left → IsTrue (is_inside everywhere q) → IsTrue (is_left bits a.at q) → is_left bits c.at q ≡ false → but q ≡ false
            → IsBackgroundInBoth bits t u q
        by true q e i l gone out = more.passed q i e gone out
        by false q e i l gone out = first.passed q i l e refl

    yields_on : (box : Box) → YieldsPair bits t u b c box → YieldsPair bits t u a c box
    yields_on box more = record {
      passes = passes_on (is_inside box) more.passes;
      inside = more.inside;
      left = λ q i. first.later q (more.left q i);
      gone = more.gone;
    }

  pub some_on : {P : Type 0} (bounds_of : P → Box) (a b c : TreePairWalk V) → PassesPairs bits t u a b (λ q. false) → (found : Option P)
      → IfSome found (λ pair. YieldsPair bits t u b c (bounds_of pair)) → IfSome found (λ pair. YieldsPair bits t u a c (bounds_of pair))
  some_on bounds_of a b c first None h = tt
  some_on bounds_of a b c first (Some pair) h = yields_on a b c first (bounds_of pair) h

  -- a walk at its start has passed nothing
  pub passes_none : (a : TreePairWalk V) → PassesPairs bits t u a a (λ q. false)
  passes_none a = record { later = λ q l. l; passed = λ q i l gone out. absurd (false_true (sym gone ∙ l)) }
