-- The states of a field in the course of an iteration of erosion, from block to block and from part to part.
use Rattle.vdb_morph.proofs.Common.{◌≡◌, ◌⊎◌, ◌<◌, arith, inl, inr, refl, ap, subst, sym, ◌∙◌, Bool, true, false, not, cond, ◌&&◌, IsTrue, list_all, Option, Some, None, IfSome, block_around, block_number, is_bounds, neighbours, Box, coord_eq, everywhere, is_box, is_inside, is_within, Bits, Coord, Leaf, not_before_min, both, within_each, coord_equiv, number_in_block, Field, erode, field, off, Layout, field_of, IsSkipped, Passes, TreeWalk, YieldsBox, is_left, left_count, Skip, Inactive, cell_inside, same_cells, bool_cases, Cell, Erodes, IsEither, IsEroded, is_around, taken, topology}
use Rattle.vdb_coord.specs.Order.{ComesBefore, IsNextCoord, coordinates_past}
use Rattle.vdb_coord.proofs.Walk.{min_inside}
use Rattle.vdb_node.specs.Leaf.{Leaf as LeafOf}
use Rattle.vdb_tree.specs.Field.{as_cell_of}
use Rattle.vdb_tree.specs.Parts.{IsPartOfLeaf}
use Rattle.vdb_tree.proofs.PartStarts.{gone_before}

-- ---- boxes

-- a box of coordinates lies within their range
pub bounds_within : (box : Box) → IsTrue (is_bounds box) → (q : Coord) → IsTrue (is_inside box q) → IsTrue (is_inside everywhere q)
bounds_within box is q i = within_each box everywhere q (both (is_box box) (is_within box everywhere) is).1 i

-- the box contains its corner
pub bounds_corner : (box : Box) → IsTrue (is_bounds box) → IsTrue (is_inside box box.min)
bounds_corner box is = min_inside box (both (is_box box) (is_within box everywhere) is).0

-- coordinates with one block number lie in one leaf extent
pub is_around_same : (bits : Bits) (p q : Coord) → block_number bits Leaf q ≡ block_number bits Leaf p → is_around bits p q ≡ true
is_around_same bits p q e = subst (λ (n : Coord). coord_eq (block_number bits Leaf q) n ≡ true) e (coord_equiv.refl (block_number bits Leaf q))

-- a box that is the leaf extent around a coordinate lies in that block
pub is_around_block : (bits : Bits) (p : Coord) (box block : Box) → box ≡ block → block ≡ block_around bits Leaf p → (q : Coord) → IsTrue (is_inside box q) → is_around bits p q ≡ true
is_around_block bits p box block e is q i =
    let inside : is_inside (block_around bits Leaf p) q ≡ true = subst (λ (b : Box). is_inside b q ≡ true) (e ∙ is) i in
    is_around_same bits p q (number_in_block bits Leaf (block_number bits Leaf p) q inside)

-- a part of a leaf lies in the leaf extent of its corner
pub is_around_part : {V : Type 0} (bits : Bits) (f : Field V) (part : Box) (leaf : LeafOf V) → IsPartOfLeaf bits f part leaf → IsTrue (is_bounds part) → (p : Coord) → p ≡ part.min → (q : Coord) → IsTrue (is_inside part q) → is_around bits p q ≡ true
is_around_part bits f part leaf of bounds p e q i = is_around_same bits p q (of.block q p i (subst (λ (r : Coord). is_inside part r ≡ true) (sym e) (bounds_corner part bounds)))

-- ---- states kept, or set to those from after the iteration

module _ {V : Type 0} (f : Field V) where
  -- if nothing is done
  pub erodes_none : (s : Field Bool) → Erodes f s s
  erodes_none s = record { background = refl; each = λ q. inl refl }

  -- one change after another
  pub erodes_then : (r s t : Field Bool) → Erodes f r s → Erodes f s t → Erodes f r t
  erodes_then r s t a b = record {
    background = b.background ∙ a.background;
    each = λ q. elim (b.each q) [
      | inl kept ↦ elim (a.each q) [ inl same ↦ inl (kept ∙ same) | inr done ↦ inr (kept ∙ done) ]
      | inr done ↦ inr done
    ];
  }

  module _ (s t : Field Bool) (erodes : Erodes f s t) (q : Coord) where
    -- a state from after the iteration is kept
    pub still_eroded : IsEroded f s q → IsEroded f t q
    still_eroded done = elim (erodes.each q) [ inl kept ↦ kept ∙ done | inr now ↦ now ]

    pub still_either : IsEither f s q → IsEither f t q
    still_either had = elim (erodes.each q) [
      | inl kept ↦ elim had [ inl old ↦ inl (kept ∙ old) | inr done ↦ inr (kept ∙ done) ]
      | inr now ↦ inr now
    ]

  -- the states of a field are those from before the iteration, or from after it if both agree
  one_state : (b s u : Bool) (v w : V) → u ≡ s → cond b (as_cell_of (λ (x : V). false) (record { value = v; on = s })) (off false) ≡ cond b (as_cell_of (λ (x : V). false) (cond b (record { value = v; on = u }) (off w))) (off false)
  one_state true s u v w e = ap (λ (on : Bool). record { value = false; on = on }) (sym e)
  one_state false s u v w e = refl

  module _ (s : Field Bool) (q : Coord) (either : IsEither f s q) where
    same_state : ((f.cell q).on && list_all (λ r. (f.cell r).on) (neighbours q)) ≡ (f.cell q).on → IsEroded f s q
    same_state e = elim either [
      | inl old ↦ old ∙ one_state (is_inside everywhere q) (f.cell q).on _ (f.cell q).value f.background e
      | inr done ↦ done
    ]

    -- an inactive cell stays inactive
    pub off_eroded : (f.cell q).on ≡ false → IsEroded f s q
    off_eroded e = same_state (rw e refl)

    -- a cell with active neighbours keeps its state
    pub on_eroded : list_all (λ r. (f.cell r).on) (neighbours q) ≡ true → IsEroded f s q
    on_eroded e = same_state (rw e (and_with (f.cell q).on))
      where
        and_with : (b : Bool) → (b && true) ≡ b
        and_with true = refl
        and_with false = refl

  -- ---- a block

  chosen : (b t : Bool) (x y d : Cell Bool) → (cond b (cond t x (cond b y d)) d ≡ cond b y d) ⊎ (cond b (cond t x (cond b y d)) d ≡ x)
  chosen true true x y d = inr refl
  chosen true false x y d = inl refl
  chosen false t x y d = inl refl

  module _ (test : Coord → Bool) (background : Bool) (cells : Coord → Cell Bool) (new : Field Bool) (is : new ≡ taken test (topology (erode f)) (field background cells)) where
    -- the coordinates that pass the test get the states from after the iteration
    pub erodes_taken : Erodes f (field background cells) new
    erodes_taken = record {
      background = ap (λ (g : Field Bool). g.background) is;
      each = λ q. elim (chosen (is_inside everywhere q) (test q) ((topology (erode f)).cell q) (cells q) (off background)) [
        | inl kept ↦ inl (ap (λ (g : Field Bool). g.cell q) is ∙ kept)
        | inr done ↦ inr (ap (λ (g : Field Bool). g.cell q) is ∙ done)
      ];
    }

    pub taken_eroded : (q : Coord) → IsTrue (is_inside everywhere q) → test q ≡ true → IsEroded f new q
    taken_eroded q i t = ap (λ (g : Field Bool). g.cell q) is ∙ (cell_inside background (λ p. cond (test p) ((topology (erode f)).cell p) ((field background cells).cell p)) q i ∙ ap (λ (b : Bool). cond b ((topology (erode f)).cell q) ((field background cells).cell q)) t)

  -- ---- block after block of a box

  -- the box's coordinates up to one of them have the states from after the iteration
  pub record IsDoneTo (bits : Bits) (box : Box) (states : Field Bool) (at : Option Coord) : Type 0 where
    pub inside : IfSome at (λ p. IsTrue (is_inside box p))
    pub done : (q : Coord) → IsTrue (is_inside box q) → is_left bits at q ≡ false → IsEroded f states q

  -- at its start
  pub done_none : (bits : Bits) (box : Box) (states : Field Bool) → IsTrue (is_bounds box) → (p : Coord) → p ≡ box.min → IsDoneTo bits box states (Some p)
  done_none bits box states bounds p e = record {
    inside = subst (λ (r : Coord). is_inside box r ≡ true) (sym e) (bounds_corner box bounds);
    done = λ q i gone. absurd (not_before_min bits box q i (subst (λ (r : Coord). ComesBefore bits q r) e (gone_before bits p q gone)));
  }

  -- past the block around p
  pub done_more : (bits : Bits) (box : Box) (s u : Field Bool) → IsTrue (is_bounds box) → (p : Coord) → IsDoneTo bits box s (Some p) → Erodes f s u
      → ((q : Coord) → IsTrue (is_inside everywhere q) → is_around bits p q ≡ true → IsEroded f u q) → (next : Option Coord) → IsNextCoord bits Leaf box p next → IsDoneTo bits box u next
  done_more bits box s u bounds p had erodes here next is = record { inside = inside next is; done = λ q i gone. by q i (up_to next is q i gone) }
    where
      inside : (next : Option Coord) → IsNextCoord bits Leaf box p next → IfSome next (λ n. IsTrue (is_inside box n))
      inside None h = tt
      inside (Some n) h = h.inside

      up_to : (next : Option Coord) → IsNextCoord bits Leaf box p next → (q : Coord) → IsTrue (is_inside box q) → is_left bits next q ≡ false → ComesBefore bits q p ⊎ (block_number bits Leaf q ≡ block_number bits Leaf p)
      up_to None h q i gone = h q i
      up_to (Some n) h q i gone = h.between q i (gone_before bits n q gone)

      by : (q : Coord) → IsTrue (is_inside box q) → ComesBefore bits q p ⊎ (block_number bits Leaf q ≡ block_number bits Leaf p) → IsEroded f u q
      by q i (inl before) = still_eroded s u erodes q (had.done q i (ap not before))
      by q i (inr same) = here q (bounds_within box bounds q i) (is_around_same bits p q same)

-- fewer coordinates are left from the next coordinate on
pub nearer_left : (bits : Bits) (p : Coord) (at next : Option Coord) → at ≡ Some p → IfSome next (λ n. coordinates_past bits n < coordinates_past bits p) → left_count bits next < left_count bits at
nearer_left bits p at next e h = rw e (by next h)
  where
    by : (n : Option Coord) → IfSome n (λ n. coordinates_past bits n < coordinates_past bits p) → left_count bits n < left_count bits (Some p)
    by None h = omega arith
    by (Some n) h = omega (arith, h)

-- ---- part after part of a tree

module _ {V : Type 0} (bits : Bits) (t : Layout V) where
  -- the voxels that a walk has passed have the states from after the iteration
  pub record IsUnderway (states : Field Bool) (at : Option Coord) : Type 0 where
    pub background : states.background ≡ false
    pub either : (q : Coord) → IsTrue (is_inside everywhere q) → IsEither (field_of bits t) states q
    pub done : (q : Coord) → IsTrue (is_inside everywhere q) → is_left bits at q ≡ false → IsEroded (field_of bits t) states q

  -- at its start
  pub underway_first : (states : Field Bool) → states ≡ topology (field_of bits t) → (at : Option Coord) → at ≡ Some everywhere.min → IsUnderway states at
  underway_first states is at start = record {
    background = ap (λ (g : Field Bool). g.background) is;
    either = λ q i. inl (ap (λ (g : Field Bool). g.cell q) is);
    done = λ q i gone. absurd (not_before_min bits everywhere q i (gone_before bits everywhere.min q (subst (λ (o : Option Coord). is_left bits o q ≡ false) start gone)));
  }

  module _ (old new : TreeWalk V) (box : old.box ≡ everywhere) where
    -- a part lies within the range
    pub part_within : (part : Box) → YieldsBox bits t old new part → (q : Coord) → IsTrue (is_inside part q) → IsTrue (is_inside everywhere q)
    part_within part yields q i = subst (λ (b : Box). is_inside b q ≡ true) box (yields.inside q i)

  module _ (old new : TreeWalk V) (box : old.box ≡ everywhere) (skip : old.skip ≡ Inactive) where
    off_now : (but : Coord → Bool) → Passes bits t old new but → (q : Coord) → IsTrue (is_inside everywhere q) → is_left bits old.at q ≡ true → is_left bits new.at q ≡ false → but q ≡ false → ((field_of bits t).cell q).on ≡ false
    off_now but passes q i left gone out = subst (λ (s : Skip). IsSkipped bits s t q) skip (passes.passed q (subst (λ (b : Box). is_inside b q ≡ true) (sym box) i) left gone out)

    -- past one part more
    pub underway_more : (part : Box) → YieldsBox bits t old new part → (s u : Field Bool) → IsUnderway s old.at → Erodes (field_of bits t) s u
        → ((q : Coord) → IsTrue (is_inside part q) → IsEroded (field_of bits t) u q) → IsUnderway u new.at
    underway_more part yields s u had erodes here = record {
      background = erodes.background ∙ had.background;
      either = either;
      done = λ q i gone. elim (bool_cases (is_left bits old.at q)) [
        | inl left ↦ elim (bool_cases (is_inside part q)) [
          | inl now ↦ here q now
          | inr out ↦ off_eroded (field_of bits t) u q (either q i) (off_now (is_inside part) yields.passes q i left gone out)
        ]
        | inr before ↦ still_eroded (field_of bits t) s u erodes q (had.done q i before)
      ];
    }
      where
        either : (q : Coord) → IsTrue (is_inside everywhere q) → IsEither (field_of bits t) u q
        either q i = still_either (field_of bits t) s u erodes q (had.either q i)

    -- past the last part
    pub underway_all : Passes bits t old new (λ q. false) → new.at ≡ None → (background : Bool) (cells : Coord → Cell Bool) → IsUnderway (field background cells) old.at → field background cells ≡ topology (erode (field_of bits t))
    underway_all passes none background cells had =
        let iterated : Coord → Cell Bool = λ q. as_cell_of (λ (x : V). false) ((erode (field_of bits t)).cell q) in
        ap (λ (b : Bool). field b cells) had.background
        ∙ same_cells false cells iterated (λ q i. sym (cell_inside background cells q i) ∙ (done q i ∙ cell_inside false iterated q i))
      where
        done : (q : Coord) → IsTrue (is_inside everywhere q) → IsEroded (field_of bits t) (field background cells) q
        done q i = elim (bool_cases (is_left bits old.at q)) [
          | inl left ↦ off_eroded (field_of bits t) (field background cells) q (had.either q i) (off_now (λ r. false) passes q i left (ap (λ (o : Option Coord). is_left bits o q) none) refl)
          | inr before ↦ had.done q i before
        ]
