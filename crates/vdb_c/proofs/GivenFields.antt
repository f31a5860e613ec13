-- Fields whose voxels a call gives cells leaf by leaf.
use Rattle.vdb_c.proofs.Common.{◌≡◌, ◌<◌, ◌≤◌, ◌⊎◌, ◌&&◌, inl, inr, refl, sym, ap, ◌∙◌, subst, ℕ, arith, rules, int_le, is_bounds, Bool, true, false, cond, IsTrue, Some, None, Result, Ok, Err, TreeRefusal, block_number, offset, vdb, Box, coord_eq, everywhere, is_inside, IsBlockBefore, Coord, before_not_same, none_before, cell_in, Cell, Field, field, off, Layout, cell_at, field_of, cell_inside, same_cells, IsBeside}
use Rattle.std.specs.Prelude.{OnOk}
use Rattle.vdb_coord.specs.Walk.{IsNextBlock}
use Rattle.vdb_coord.specs.declared.Level.TheVariants.{Leaf as leaf_level, Upper}
use Rattle.vdb_coord.specs.Blocks.{block}
use Rattle.vdb_coord.specs.Boxes.{box_of}
use Rattle.vdb_coord.specs.Space.{is_between}
use Rattle.vdb_coord.proofs.BlockOrder.{moved_before}
use Rattle.vdb_coord.proofs.Nesting.{voxel_from_leaf}
use Rattle.vdb_coord.proofs.Positions.{offset_below}
use Rattle.vdb_node.specs.Leaf.{Leaf}
use Rattle.vdb_tree.specs.ConstantBlocks.{roots}
use Rattle.vdb_tree.specs.Field.{new}
use Rattle.vdb_tree.specs.Leaves.{with_leaf}
use Rattle.vdb_tree.specs.Outcome.{IsOutcome}
use Rattle.vdb_tree.proofs.Levels.{like_coords, unlike_coords, coord_cases}
use Rattle.vdb_tree.proofs.RuledRoots.{fewer_roots}
use Rattle.vdb_tree.proofs.Uniform.{uniform_cells, uniform_from}
use Rattle.vdb_c.specs.FromBox.{AreGiven, HasCells, turned, turned_box}
use Rattle.vdb_c.proofs.Laid.{either_way, false_true}
use Rattle.vdb_c.proofs.NextVoxels.{earlier}
use Rattle.vdb_c.proofs.Places.{ordered}

-- ---- with x and z exchanged, or not

module _ (turn : Bool) where
  turned_inside : (b : Box) (q : Coord) → is_inside (turned_box turn b) (turned turn q) ≡ is_inside b q
  turned_inside b q = by turn
    where
      ends : (a c d : Bool) → (d && c && a) ≡ (a && c && d)
      ends a c d = search rules

      by : (t : Bool) → is_inside (turned_box t b) (turned t q) ≡ is_inside b q
      by true = ends (is_between b.min.x b.max.x q.x) (is_between b.min.y b.max.y q.y) (is_between b.min.z b.max.z q.z)
      by false = refl

  number_of_turned : (q : Coord) → block_number vdb leaf_level (turned turn q) ≡ turned turn (block_number vdb leaf_level q)
  number_of_turned q = by turn
    where
      by : (t : Bool) → block_number vdb leaf_level (turned t q) ≡ turned t (block_number vdb leaf_level q)
      by true = refl
      by false = refl

  turned_twice : (q : Coord) → turned turn (turned turn q) ≡ q
  turned_twice q = by turn
    where
      by : (t : Bool) → turned t (turned t q) ≡ q
      by true = refl
      by false = refl

  module _ (p at q : Coord) (is : at ≡ turned turn p) where
    from_turned : block_number vdb leaf_level (turned turn q) ≡ block_number vdb leaf_level p → block_number vdb leaf_level q ≡ block_number vdb leaf_level at
    from_turned e = sym (turned_twice (block_number vdb leaf_level q)) ∙ ap (turned turn) (sym (number_of_turned q) ∙ e) ∙ sym (number_of_turned p) ∙ sym (ap (block_number vdb leaf_level) is)

    to_turned : block_number vdb leaf_level q ≡ block_number vdb leaf_level at → block_number vdb leaf_level (turned turn q) ≡ block_number vdb leaf_level p
    to_turned e = number_of_turned q ∙ ap (turned turn) (e ∙ ap (block_number vdb leaf_level) is ∙ number_of_turned p) ∙ turned_twice (block_number vdb leaf_level p)

  in_order : (b order : Box) → order ≡ turned_box turn b → (q : Coord) → IsTrue (is_inside b q) → IsTrue (is_inside order (turned turn q))
  in_order b order is q i = subst (λ (w : Box). IsTrue (is_inside w (turned turn q))) (sym is) (turned_inside b q ∙ i)

  -- the voxels of a box in the leaf extents before that of a turned coordinate, as a walk over the turned box comes to them
  abbrev pub Passed : Box → Coord → Coord → Type 0
  Passed b p q = IsTrue (is_inside b q) × IsBlockBefore vdb leaf_level (turned turn q) p

  -- the corners of a turned box are in order
  pub turned_box_of : (b : Box) → IsTrue (is_bounds b) → (min max : Coord) → min ≡ turned turn b.min → max ≡ turned turn b.max → box_of min max ≡ Some (turned_box turn b)
  turned_box_of b h min max at_min at_max = ap (λ (p : Coord). box_of p max) at_min ∙ ap (box_of (turned turn b.min)) at_max ∙ by turn (ordered b h)
    where
      by : (t : Bool) → (int_le b.min.x b.max.x ≡ true) × (int_le b.min.y b.max.y ≡ true) × (int_le b.min.z b.max.z ≡ true) → box_of (turned t b.min) (turned t b.max) ≡ Some (turned_box t b)
      by true o = rw (o.0, o.1, o.2) refl
      by false o = rw (o.0, o.1, o.2) refl

module _ {V : Type 0} (b : Box) (cell : Coord → Cell V) where
  -- nothing is given
  pub none_given : (Within : Coord → Type 0) (f : Field V) → ((q : Coord) → Within q → ⊥) → AreGiven b Within cell f f
  none_given Within f none = record {
    background = refl;
    voxels = λ q range k. absurd (none q k);
    others = λ q range out. refl;
    either = λ q range. inr refl;
  }

  -- what is blank is given where the cells are
  pub blank_given : (p : Coord) (f : Field V) (blank : Cell V) → ((q : Coord) → IsTrue (is_inside everywhere q) → block_number vdb leaf_level q ≡ block_number vdb leaf_level p → f.cell q ≡ blank)
      → ((q : Coord) → IsBeside b p q → cell q ≡ blank) → AreGiven b (IsBeside b p) cell f f
  blank_given p f blank was is = record {
    background = refl;
    voxels = λ q range beside. was q range beside.1 ∙ sym (is q beside);
    others = λ q range out. refl;
    either = λ q range. inr refl;
  }

  pub given_first : (turn : Bool) (order : Box) → order ≡ turned_box turn b → (p : Coord) → p ≡ order.min → (f : Field V) → AreGiven b (Passed turn b p) cell f f
  given_first turn order is p at_min f =
      none_given (Passed turn b p) f (λ q k. none_before vdb leaf_level order (turned turn q) (in_order turn b order is q k.0) (subst (IsBlockBefore vdb leaf_level (turned turn q)) at_min k.1))

  -- a leaf with the cells of p's part of the box in the place of the inactive background
  module _ (part : Box) (p : Coord) (f : Field V) (laid : Leaf V) (blank : Cell V) (is : (q : Coord) → IsTrue (is_inside part q) → IsBeside b p q) (all : (q : Coord) → IsBeside b p q → IsTrue (is_inside part q))
      (was : (q : Coord) → IsTrue (is_inside everywhere q) → block_number vdb leaf_level q ≡ block_number vdb leaf_level p → f.cell q ≡ blank)
      (h : HasCells (λ q. IsTrue (is_inside part q)) (offset vdb leaf_level) cell (λ i. blank) (cell_in (off f.background) laid)) where
    at : (q : Coord) → IsTrue (is_inside everywhere q) → (with_leaf vdb p laid f).cell q
        ≡ cond (coord_eq (block_number vdb leaf_level p) (block_number vdb leaf_level q)) (cell_in (off f.background) laid (offset vdb leaf_level q)) (f.cell q)
    at q range = cell_inside f.background (λ r. cond (coord_eq (block_number vdb leaf_level p) (block_number vdb leaf_level r)) (cell_in (off f.background) laid (offset vdb leaf_level r)) (f.cell r)) q range

    in_block : (q : Coord) → IsTrue (is_inside everywhere q) → block_number vdb leaf_level q ≡ block_number vdb leaf_level p → (with_leaf vdb p laid f).cell q ≡ cell_in (off f.background) laid (offset vdb leaf_level q)
    in_block q range e = at q range ∙ rw (like_coords (block_number vdb leaf_level p) (block_number vdb leaf_level q) (sym e)) refl

    in_part : (q : Coord) → IsTrue (is_inside everywhere q) → IsBeside b p q → (with_leaf vdb p laid f).cell q ≡ cell q
    in_part q range beside = in_block q range beside.1 ∙ h.within q (all q beside)

    elsewhere : (q : Coord) → IsTrue (is_inside everywhere q) → (IsBeside b p q → ⊥) → (with_leaf vdb p laid f).cell q ≡ f.cell q
    elsewhere q range out = elim (coord_cases (block_number vdb leaf_level q) (block_number vdb leaf_level p)) [
      | inl e ↦ in_block q range e ∙ h.others (offset vdb leaf_level q) (offset_below vdb leaf_level q) (λ r k same. out (subst (IsBeside b p) (voxel_from_leaf vdb r q ((is r k).1 ∙ sym e) same) (is r k))) ∙ sym (was q range e)
      | inr d ↦ at q range ∙ rw (unlike_coords (block_number vdb leaf_level p) (block_number vdb leaf_level q) (λ e. d (sym e))) refl
    ]

    ways : (q : Coord) → IsTrue (is_inside everywhere q) → (IsTrue (is_inside b q) × ((with_leaf vdb p laid f).cell q ≡ cell q)) ⊎ ((with_leaf vdb p laid f).cell q ≡ f.cell q)
    ways q range = elim (either_way (is_inside b q)) [
      | inl i ↦ elim (coord_cases (block_number vdb leaf_level q) (block_number vdb leaf_level p)) [
        | inl e ↦ inl (i, in_part q range (i, e))
        | inr d ↦ inr (elsewhere q range (λ beside. d beside.1))
      ]
      | inr i ↦ inr (elsewhere q range (λ beside. false_true (is_inside b q) i beside.0))
    ]

    pub leaf_given : AreGiven b (IsBeside b p) cell f (with_leaf vdb p laid f)
    leaf_given = record { background = refl; voxels = in_part; others = elsewhere; either = ways }

  -- ---- block by block

  module _ (turn : Bool) (p at : Coord) (is : at ≡ turned turn p) (old mid new : Field V) (first : AreGiven b (Passed turn b p) cell old mid) (second : AreGiven b (IsBeside b at) cell mid new) where
    voxel : (q : Coord) → IsTrue (is_inside everywhere q) → IsTrue (is_inside b q) → IsBlockBefore vdb leaf_level (turned turn q) p ⊎ (block_number vdb leaf_level (turned turn q) ≡ block_number vdb leaf_level p) → new.cell q ≡ cell q
    voxel q range i (inl k) = second.others q range (λ beside. before_not_same _ _ k (to_turned turn p at q is beside.1)) ∙ first.voxels q range (i, k)
    voxel q range i (inr e) = second.voxels q range (i, from_turned turn p at q is e)

    other : (q : Coord) → IsTrue (is_inside everywhere q) → (IsBeside b at q → ⊥) → (Passed turn b p q → ⊥) → new.cell q ≡ old.cell q
    other q range beside passed = second.others q range beside ∙ first.others q range passed

    pub either_given : (q : Coord) → IsTrue (is_inside everywhere q) → (IsTrue (is_inside b q) × (new.cell q ≡ cell q)) ⊎ (new.cell q ≡ old.cell q)
    either_given q range = elim (second.either q range) [
      | inl k ↦ inl k
      | inr e ↦ elim (first.either q range) [ inl k ↦ inl (k.0, e ∙ k.1) | inr l ↦ inr (e ∙ l) ]
    ]

    module _ (order : Box) (turns : order ≡ turned_box turn b) where
      pub given_next : (next : Coord) → IsNextBlock vdb leaf_level order p (Some next) → AreGiven b (Passed turn b next) cell old new
      given_next next n = record {
        background = second.background ∙ first.background;
        voxels = λ q range k. voxel q range k.0 (n.2 (turned turn q) (in_order turn b order turns q k.0) k.1);
        others = λ q range out. other q range (λ beside. out (beside.0, moved_before vdb leaf_level p next (turned turn q) n.1 (sym (to_turned turn p at q is beside.1))))
            (λ passed. out (passed.0, earlier (block_number vdb leaf_level (turned turn q)) (block_number vdb leaf_level p) (block_number vdb leaf_level next) passed.1 n.1));
        either = either_given;
      }

      pub given_last : IsNextBlock vdb leaf_level order p None → AreGiven b (λ q. IsTrue (is_inside b q)) cell old new
      given_last n = record {
        background = second.background ∙ first.background;
        voxels = λ q range i. voxel q range i (n (turned turn q) (in_order turn b order turns q i));
        others = λ q range out. other q range (λ beside. out beside.0) (λ passed. out passed.0);
        either = either_given;
      }

  -- ---- in a new field

  module _ (background : V) where
    abbrev whole : Coord → Cell V
    whole q = cond (is_inside b q) (cell q) (off background)

    blank : (q : Coord) → IsTrue (is_inside everywhere q) → (new background).cell q ≡ off background
    blank q range = cell_inside background (λ _. off background) q range

    in_whole : (q : Coord) → IsTrue (is_inside everywhere q) → is_inside b q ≡ true → (field background whole).cell q ≡ cell q
    in_whole q range i = cell_inside background whole q range ∙ within q i
      where
        within : (q : Coord) → is_inside b q ≡ true → whole q ≡ cell q
        within q i = rw i refl

    -- a leaf extent before which the box is given is still blank
    pub still_blank : (turn : Bool) (p at : Coord) → at ≡ turned turn p → (f g : Field V) → f ≡ new background → AreGiven b (Passed turn b p) cell f g
        → (q : Coord) → IsTrue (is_inside everywhere q) → block_number vdb leaf_level q ≡ block_number vdb leaf_level at → g.cell q ≡ off background
    still_blank turn p at is f g e h q range same = h.others q range (λ passed. before_not_same _ _ passed.1 (to_turned turn p at q is same)) ∙ ap (λ (k : Field V). k.cell q) e ∙ blank q range

    -- the field of a tree, if all is given
    pub as_given : (f : Field V) (t : Layout V) → f ≡ new background → AreGiven b (λ q. IsTrue (is_inside b q)) cell f (field_of vdb t) → field_of vdb t ≡ field background whole
    as_given f t e h =
        ap (λ (v : V). field v (cell_at vdb t)) (h.background ∙ ap (λ (k : Field V). k.background) e)
        ∙ same_cells background (cell_at vdb t) whole (λ q range. sym (cell_inside t.background (cell_at vdb t) q range) ∙ by q range (either_way (is_inside b q)))
      where
        by : (q : Coord) → IsTrue (is_inside everywhere q) → (is_inside b q ≡ true) ⊎ (is_inside b q ≡ false) → (field_of vdb t).cell q ≡ whole q
        by q range (inl i) = h.voxels q range i ∙ sym (rw i refl)
        by q range (inr i) = h.others q range (λ k. false_true (is_inside b q) i k) ∙ ap (λ (k : Field V). k.cell q) e ∙ blank q range ∙ sym (rw i refl)

    -- no part of it has more roots
    module _ (eq : V → V → Bool) (exact : (x y : V) → eq x y ≡ true → x ≡ y) (itself : (x : V) → eq x x ≡ true) where
      pub part_roots : (f : Field V) (v : V) (cells : Coord → Cell V) → f ≡ new background → v ≡ background
          → ((q : Coord) → IsTrue (is_inside everywhere q) → (IsTrue (is_inside b q) × ((field v cells).cell q ≡ cell q)) ⊎ ((field v cells).cell q ≡ f.cell q))
          → roots eq vdb (field v cells) ≤ roots eq vdb (field background whole)
      part_roots f v cells e same h =
          fewer_roots eq vdb (field background whole) (field v cells) (λ k flat.
          uniform_from eq exact itself (field v cells) (block vdb Upper k) (off v) (λ q inside. by q (uniform_cells eq exact itself (field background whole) (block vdb Upper k) (off background) flat q inside) (either_way (is_inside everywhere q))))
        where
          by : (q : Coord) → (field background whole).cell q ≡ off background → (is_inside everywhere q ≡ true) ⊎ (is_inside everywhere q ≡ false) → (field v cells).cell q ≡ off v
          by q flat (inr out) = rw out refl
          by q flat (inl range) = elim (h q range) [
            | inl k ↦ k.1 ∙ sym (in_whole q range k.0) ∙ flat ∙ sym (ap (λ (x : V). off x) same)
            | inr l ↦ l ∙ ap (λ (g : Field V). g.cell q) e ∙ blank q range ∙ sym (ap (λ (x : V). off x) same)
          ]

-- what holds of the changed field holds after the call, if it succeeded
pub on_given : {V : Type 0} (eq : V → V → Bool) (limit : ℕ) (old changed new : Field V) (r : Result (Unit {0}) TreeRefusal) (P : Field V → Type 0) → IsOutcome eq vdb limit old changed new r → P changed → OnOk r (P new)
on_given eq limit old changed new (Ok u) P h k = subst P (sym h.0) k
on_given eq limit old changed new (Err e) P h k = tt

pub past_limit : (l m n k : ℕ) → m ≡ l → m < n → n ≤ k → l < k
past_limit l m n k e h le = omega (arith, e, h, le)
