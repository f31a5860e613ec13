-- What a walk over the pairs of two trees says of the combined tree, and of each coordinate.
use Rattle.vdb_composite.proofs.Common.{◌≡◌, inl, inr, refl, sym, ap, ◌∙◌, Bool, true, false, not, IsTrue, Option, Some, None, is_lt, block_cmp, ComesBefore, Box, everywhere, is_inside, Bits, Coord, not_true, Cell, Field, field, off, Layout, field_of, IsBackgroundInBoth, PassesPairs, TreePairWalk, YieldsPair, is_left, Adds, IsMixIn, mixed, mixed_cell, mixed_value, Blend, Mix, never, cell_inside, bool_cases}
use Rattle.vdb_coord.proofs.BlockOrder.{not_before_min}
use Rattle.vdb_tree.specs.Field.{new}
use Rattle.vdb_tree.specs.Layout.{cell_at}
use Rattle.vdb_composite.proofs.Mixed.{is_mixed, off_mixed}

denied : (u : Bool) → not u ≡ false → u ≡ true
denied true h = refl
denied false h = cc

-- at the start of a walk all coordinates are left
pub all_left : (bits : Bits) (at : Option Coord) → at ≡ Some everywhere.min → (q : Coord) → IsTrue (is_inside everywhere q) → is_left bits at q ≡ false → ⊥
all_left bits at first q i gone = not_before_min bits everywhere q i (before (sym (ap (λ (o : Option Coord). is_left bits o q) first) ∙ gone))
  where
    before : is_left bits (Some everywhere.min) q ≡ false → ComesBefore bits q everywhere.min
    before h = denied (is_lt (block_cmp bits q everywhere.min)) h

pub none_left : (bits : Bits) (at : Option Coord) → at ≡ None → (q : Coord) → is_left bits at q ≡ false
none_left bits at none q = ap (λ (o : Option Coord). is_left bits o q) none

module _ {V : Type 0} (bits : Bits) (t u : Layout V) where
  -- ---- what holds of each coordinate that isn't left any more, if it holds of those that are background in both

  abbrev pub IsPassed : (Coord → Type 0) → Option Coord → Type 0
  IsPassed P at = (q : Coord) → IsTrue (is_inside everywhere q) → is_left bits at q ≡ false → P q

  module _ (P : Coord → Type 0) (flat : (q : Coord) → IsTrue (is_inside everywhere q) → IsBackgroundInBoth bits t u q → P q) where
    pub passed_start : (at : Option Coord) → at ≡ Some everywhere.min → IsPassed P at
    passed_start at first q i gone = absurd (all_left bits at first q i gone)

    pub passed_next : (old new : TreePairWalk V) (box : Box) → YieldsPair bits t u old new box → IsPassed P old.at → ((q : Coord) → IsTrue (is_inside box q) → P q) → IsPassed P new.at
    passed_next old new box yields had here q i gone =
        elim (bool_cases (is_inside box q)) [
          | inl in_box ↦ here q in_box
          | inr beside ↦ elim (bool_cases (is_left bits old.at q)) [
            | inl was ↦ flat q i (yields.passes.passed q i was gone beside)
            | inr before ↦ had q i before
          ]
        ]

    pub passed_end : (old new : TreePairWalk V) → PassesPairs bits t u old new (λ q. false) → new.at ≡ None → IsPassed P old.at → (q : Coord) → IsTrue (is_inside everywhere q) → P q
    passed_end old new passes none had q i =
        elim (bool_cases (is_left bits old.at q)) [
          | inl was ↦ flat q i (passes.passed q i was (none_left bits new.at none q) refl)
          | inr before ↦ had q i before
        ]

  -- ---- the combined tree

  module _ (blend : Blend → V → V → Option V) (mix : Mix) (x : V) where
    -- what isn't left has the combination of both, and what is left is background
    pub record IsBuilt (h : Field V) (at : Option Coord) : Type 0 where
      pub background : h.background ≡ x
      pub done : (q : Coord) → IsTrue (is_inside everywhere q) → is_left bits at q ≡ false → mixed_cell blend mix ((field_of bits t).cell q) ((field_of bits u).cell q) ≡ Some (h.cell q)
      pub ahead : (q : Coord) → IsTrue (is_inside everywhere q) → is_left bits at q ≡ true → h.cell q ≡ off x

    pub built_start : (h : Field V) (at : Option Coord) → at ≡ Some everywhere.min → h ≡ new x → IsBuilt h at
    built_start h at first is = record {
      background = ap (λ (k : Field V). k.background) is;
      done = λ q i gone. absurd (all_left bits at first q i gone);
      ahead = λ q i left. ap (λ (k : Field V). k.cell q) is ∙ cell_inside x (λ _. off x) q i;
    }

    module _ (value : mixed_value blend mix t.background u.background ≡ Some x) where
      flat : (q : Coord) → IsBackgroundInBoth bits t u q → mixed_cell blend mix ((field_of bits t).cell q) ((field_of bits u).cell q) ≡ Some (off x)
      flat q both = off_mixed blend mix t.background u.background x value ((field_of bits t).cell q) ((field_of bits u).cell q) both.0 both.1

      pub built_next : (old new : TreePairWalk V) (box : Box) → YieldsPair bits t u old new box → (h k : Field V) → IsBuilt h old.at → Adds blend mix box (field_of bits t) (field_of bits u) h k → IsBuilt k new.at
      built_next old new box yields h k had adds = record {
        background = adds.background ∙ had.background;
        done = λ q i gone.
            elim (bool_cases (is_inside box q)) [
              | inl in_box ↦ adds.here q in_box
              | inr beside ↦ elim (bool_cases (is_left bits old.at q)) [
                | inl was ↦ flat q (yields.passes.passed q i was gone beside) ∙ ap (λ (c : Cell V). Some c) (sym (adds.there q i beside ∙ had.ahead q i was))
                | inr before ↦ had.done q i before ∙ ap (λ (c : Cell V). Some c) (sym (adds.there q i beside))
              ]
            ];
        ahead = λ q i left.
            let beside = not_true (is_inside box q) (λ in_box. never (yields.gone q in_box) left) in
            adds.there q i beside ∙ had.ahead q i (yields.passes.later q left);
      }

      pub built_end : (old new : TreePairWalk V) (h : Field V) → IsBuilt h old.at → PassesPairs bits t u old new (λ q. false) → new.at ≡ None
          → IsMixIn blend mix everywhere (field_of bits t) (field_of bits u) h
      built_end old new h had passes none q i =
          elim (bool_cases (is_left bits old.at q)) [
            | inl was ↦ flat q (passes.passed q i was (none_left bits new.at none q) refl) ∙ ap (λ (c : Cell V). Some c) (sym (had.ahead q i was))
            | inr before ↦ had.done q i before
          ]

-- ---- the combined tree's field is the combination of the two fields

module _ {V : Type 0} (bits : Bits) (blend : Blend → V → V → Option V) (mix : Mix) (f g : Field V) (x : V) (made : Layout V) where
  pub is_made : mixed_value blend mix f.background g.background ≡ Some x → made.background ≡ x → IsMixIn blend mix everywhere f g (field_of bits made) → field_of bits made ≡ mixed blend mix f g
  is_made value background cells = is_mixed blend mix f g made.background (cell_at bits made) (value ∙ ap (λ (v : V). Some v) (sym background)) cells
