-- Root blocks counted along a walk over the pairs of two trees.
use Rattle.vdb_composite.proofs.Common.{◌≡◌, ◌≢◌, ◌⊎◌, inl, inr, refl, sym, ap, subst, ◌∙◌, ℕ, ◌+◌, ◌<◌, ◌≤◌, Bool, true, false, not, List, [], ◌∷◌, length, arith, IsTrue, Option, Some, None, is_lt, is_member, block, block_cmp, block_numbers, key, AreBits, ComesBefore, Box, coord_eq, everywhere, is_inside, Bits, Coord, Upper, not_true, coord_equiv, is_background, roots, Field, off, Layout, IsBackgroundInBoth, PassesPairs, TreePairWalk, YieldsPair, is_left, never, uniform_block, bool_cases, or_first, or_second}
use Rattle.std.specs.Prelude.{IfSome}
use Rattle.std.specs.List.{IsDistinct}
use Rattle.vdb_coord.proofs.BlockOrder.{comes_on, contiguous}
use Rattle.vdb_coord.proofs.InRange.{number_in_range, numbered_in_range}
use Rattle.vdb_coord.proofs.Members.{coord_exact}
use Rattle.vdb_tree.proofs.Blocks.{uniform_block_from}
use Rattle.vdb_composite.proofs.MixWalks.{IsPassed, all_left, passed_end, passed_next}
use Rattle.vdb_tree.proofs.Rooted.{one_more, or_cases, roots_at_least, roots_at_most}

nothing_apart : IsDistinct coord_eq []
unfolding IsDistinct
nothing_apart = tt

-- ---- what isn't left comes before what is left

module _ (bits : Bits) where
  earlier : (at : Option Coord) (s r : Coord) → is_left bits at s ≡ false → is_left bits at r ≡ true → ComesBefore bits r s → ⊥
  earlier None s r gone left before = never refl left
  earlier (Some p) s r gone left before =
      let first : ComesBefore bits s p = by (is_lt (block_cmp bits s p)) gone in
      let past : is_lt (block_cmp bits r p) ≡ false = by_not (is_lt (block_cmp bits r p)) left in
      never past (comes_on bits r s p before first)
    where
      by : (b : Bool) → not b ≡ false → b ≡ true
      by true h = refl
      by false h = cc

      by_not : (b : Bool) → not b ≡ true → b ≡ false
      by_not true h = cc
      by_not false h = refl

module _ {V : Type 0} (bits : Bits) (h : Field V) where
  -- a coordinate has the background, unless its key is one of these
  abbrev pub IsFlatBut : List Coord → Coord → Type 0
  IsFlatBut keys q = is_member coord_eq keys (key bits q) ≡ false → h.cell q ≡ off h.background

module _ {V : Type 0} (eq : V → V → Bool) (bits : Bits) (t u : Layout V) (h : Field V) where
  -- the keys of root blocks that were found to hold anything but the background, the last one last
  pub record HasFound (at last : Option Coord) (count : ℕ) : Type 0 where
    pub keys : List Coord
    pub apart : IsDistinct coord_eq keys
    pub size : length keys ≡ count
    pub each : (k : Coord) → is_member coord_eq keys k ≡ true → IsTrue (is_inside (block_numbers bits Upper) k) × (is_background eq h (block bits Upper k) ≡ false)
    pub behind : (k : Coord) → is_member coord_eq keys k ≡ true → (last ≡ Some k) ⊎ ((q : Coord) → is_left bits at q ≡ true → key bits q ≡ k → ⊥)
    pub met : IfSome last (λ k. (s : Coord) × (key bits s ≡ k) × (is_left bits at s ≡ false))
    pub here : IfSome last (λ k. is_member coord_eq keys k ≡ true)
    pub all : IsPassed bits t u (IsFlatBut bits h keys) at

module _ {V : Type 0} (eq : V → V → Bool) (exact : (x y : V) → eq x y ≡ true → x ≡ y) (itself : (x : V) → eq x x ≡ true) (bits : Bits) (configured : AreBits bits) (t u : Layout V) (h : Field V) where
  pub found_start : (at : Option Coord) → at ≡ Some everywhere.min → HasFound eq bits t u h at None 0
  found_start at first = record {
    keys = [];
    apart = nothing_apart;
    size = refl;
    each = λ k m. absurd (never refl m);
    behind = λ k m. absurd (never refl m);
    met = tt;
    here = tt;
    all = λ q i gone. absurd (all_left bits at first q i gone);
  }

  -- a block with another cell isn't background
  isnt_background : (q : Coord) → (h.cell q ≡ off h.background → ⊥) → is_background eq h (block bits Upper (key bits q)) ≡ false
  isnt_background q other = not_true _ (λ flat. other (uniform_block eq exact itself bits Upper h (key bits q) (off h.background) flat q refl))

  module _ (flat : (q : Coord) → IsTrue (is_inside everywhere q) → IsBackgroundInBoth bits t u q → h.cell q ≡ off h.background) where
    flat_but : (keys : List Coord) (q : Coord) → IsTrue (is_inside everywhere q) → IsBackgroundInBoth bits t u q → IsFlatBut bits h keys q
    flat_but keys q i both _ = flat q i both

    module _ (old new : TreePairWalk V) (box : Box) (yields : YieldsPair bits t u old new box) (corner : IsTrue (is_inside box box.min))
        (one_root : (q r : Coord) → IsTrue (is_inside box q) → IsTrue (is_inside box r) → key bits q ≡ key bits r) (last : Option Coord) (count : ℕ) (had : HasFound eq bits t u h old.at last count) where
      still_gone : (s : Coord) → is_left bits old.at s ≡ false → is_left bits new.at s ≡ false
      still_gone s gone = not_true (is_left bits new.at s) (λ left. never gone (yields.passes.later s left))

      still_met : (o : Option Coord) → IfSome o (λ k. (s : Coord) × (key bits s ≡ k) × (is_left bits old.at s ≡ false)) → IfSome o (λ k. (s : Coord) × (key bits s ≡ k) × (is_left bits new.at s ≡ false))
      still_met None m = tt
      still_met (Some k) m = (m.0, m.1, still_gone m.0 m.2)

      still_behind : (k : Coord) → is_member coord_eq had.keys k ≡ true → (last ≡ Some k) ⊎ ((q : Coord) → is_left bits new.at q ≡ true → key bits q ≡ k → ⊥)
      still_behind k m = elim (had.behind k m) [ inl e ↦ inl e | inr past ↦ inr (λ q left e. past q (yields.passes.later q left) e) ]

      -- no further block is counted
      found_no_more : ((q : Coord) → IsTrue (is_inside box q) → IsFlatBut bits h had.keys q) → HasFound eq bits t u h new.at last count
      found_no_more cells = record {
        keys = had.keys;
        apart = had.apart;
        size = had.size;
        each = had.each;
        behind = still_behind;
        met = still_met last had.met;
        here = had.here;
        all = passed_next bits t u (IsFlatBut bits h had.keys) (flat_but had.keys) old new box yields had.all cells;
      }

      -- the pair lies in the root block that was found last
      pub found_again : last ≡ Some (key bits box.min) → HasFound eq bits t u h new.at last count
      found_again e =
          let member : is_member coord_eq had.keys (key bits box.min) ≡ true = subst (λ (o : Option Coord). IfSome o (λ k. is_member coord_eq had.keys k ≡ true)) e had.here in
          found_no_more (λ q i none. absurd (never none (subst (λ (k : Coord). is_member coord_eq had.keys k ≡ true) (one_root box.min q corner i) member)))

      -- the pair combines to the background
      pub found_flat : ((q : Coord) → IsTrue (is_inside box q) → h.cell q ≡ off h.background) → HasFound eq bits t u h new.at last count
      found_flat cells = found_no_more (λ q i _. cells q i)

      -- the pair lies in another root block and combines to something else than the background
      module _ (other : last ≢ Some (key bits box.min)) (q : Coord) (i : IsTrue (is_inside box q)) (unlike : h.cell q ≡ off h.background → ⊥) where
        fresh : is_member coord_eq had.keys (key bits box.min) ≡ false
        fresh = not_true _ (λ m. elim (had.behind (key bits box.min) m) [ inl e ↦ other e | inr past ↦ past box.min (yields.left box.min corner) refl ])

        more_each : (k : Coord) → is_member coord_eq (key bits box.min ∷ had.keys) k ≡ true → IsTrue (is_inside (block_numbers bits Upper) k) × (is_background eq h (block bits Upper k) ≡ false)
        more_each k m =
            elim (or_cases (coord_eq k (key bits box.min)) (is_member coord_eq had.keys k) m) [
              | inl e ↦
                  let same : (key bits box.min) ≡ k = sym (coord_exact k (key bits box.min) e) in
                  subst (λ (n : Coord). IsTrue (is_inside (block_numbers bits Upper) n) × (is_background eq h (block bits Upper n) ≡ false)) same
                  (number_in_range bits Upper box.min (yields.inside box.min corner), subst (λ (n : Coord). is_background eq h (block bits Upper n) ≡ false) (one_root q box.min i corner) (isnt_background q unlike))
              | inr s ↦ had.each k s
            ]

        -- the found root blocks are more than before
        pub found_many : count < roots eq bits h
        found_many =
            let many = roots_at_least eq bits h (key bits box.min ∷ had.keys) (one_more (key bits box.min) had.keys had.apart fresh) more_each in
            let size = had.size in
            omega (arith, many, size)

        -- what was found last comes before this block, and doesn't come again
        left_behind : (k : Coord) → last ≡ Some k → (r : Coord) → is_left bits new.at r ≡ true → key bits r ≡ k → ⊥
        left_behind k e r left at =
            let met = subst (λ (o : Option Coord). IfSome o (λ k. (s : Coord) × (key bits s ≡ k) × (is_left bits old.at s ≡ false))) e had.met in
            let s = met.0 in
            let same = contiguous bits Upper s box.min r (earlier bits old.at s box.min met.2 (yields.left box.min corner)) (earlier bits new.at box.min r (yields.gone box.min corner) left) (met.1 ∙ sym at) in
            other (e ∙ ap (λ (c : Coord). Some c) (sym met.1 ∙ sym same))

        more_behind : (k : Coord) → is_member coord_eq (key bits box.min ∷ had.keys) k ≡ true → (◌≡◌ {A = Option Coord} (Some (key bits box.min)) (Some k)) ⊎ ((r : Coord) → is_left bits new.at r ≡ true → key bits r ≡ k → ⊥)
        more_behind k m =
            elim (or_cases (coord_eq k (key bits box.min)) (is_member coord_eq had.keys k) m) [
              | inl e ↦ inl (ap (λ (c : Coord). Some c) (sym (coord_exact k (key bits box.min) e)))
              | inr s ↦ elim (still_behind k s) [ inl e ↦ inr (left_behind k e) | inr past ↦ inr past ]
            ]

        more_all : IsPassed bits t u (IsFlatBut bits h (key bits box.min ∷ had.keys)) new.at
        more_all =
            passed_next bits t u (IsFlatBut bits h (key bits box.min ∷ had.keys)) (flat_but (key bits box.min ∷ had.keys)) old new box yields
            (λ r inside gone none. had.all r inside gone (not_true _ (λ m. never none (or_second (coord_eq (key bits r) (key bits box.min)) (is_member coord_eq had.keys (key bits r)) m))))
            (λ r inside none. absurd (never none (or_first (coord_eq (key bits r) (key bits box.min)) (is_member coord_eq had.keys (key bits r))
            (subst (λ (n : Coord). coord_eq (key bits r) n ≡ true) (one_root r box.min inside corner) (coord_equiv.refl (key bits r))))))

        pub found_more : HasFound eq bits t u h new.at (Some (key bits box.min)) (count + 1)
        found_more = record {
          keys = (key bits box.min ∷ had.keys);
          apart = one_more (key bits box.min) had.keys had.apart fresh;
          size = let size = had.size in omega (arith, size);
          each = more_each;
          behind = more_behind;
          met = (box.min, refl, yields.gone box.min corner);
          here = or_first _ _ (coord_equiv.refl (key bits box.min));
          all = more_all;
        }

    -- at the end all such root blocks are found
    pub found_all : (old new : TreePairWalk V) (last : Option Coord) (count : ℕ) → HasFound eq bits t u h old.at last count → PassesPairs bits t u old new (λ q. false) → new.at ≡ None → roots eq bits h ≤ count
    found_all old new last count had passes none =
        let all = passed_end bits t u (IsFlatBut bits h had.keys) (flat_but had.keys) old new passes none had.all in
        let most = roots_at_most eq bits h had.keys
        (λ k inside other. elim (bool_cases (is_member coord_eq had.keys k)) [
          | inl m ↦ m
          | inr out ↦ absurd (never other (uniform_block_from eq exact itself bits Upper h k (off h.background) (λ q e.
              all q (numbered_in_range bits Upper configured q (subst (λ (n : Coord). is_inside (block_numbers bits Upper) n ≡ true) (sym e) inside)) (ap (is_member coord_eq had.keys) e ∙ out))))
        ]) in
        let size = had.size in
        omega (arith, most, size)
