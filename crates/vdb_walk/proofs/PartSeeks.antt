-- The first active voxel of a part, and of what is left of a walk over parts.
use Rattle.vdb_walk.proofs.Common.{◌≡◌, inl, inr, sym, ap, ◌∙◌, refl, subst, ℕ, Bool, true, false, IsTrue, not, Option, Some, None, IfSome, is_some, option_map, is_lt, block_cmp, block_number, offset, ComesBefore, is_bounds, Box, everywhere, is_box, is_inside, is_within, Bits, Coord, Leaf, not_before_min, not_both, both, within_each, min_inside, cell_in, bool_cases, Field, off, Layout, field_of, IsPartOfLeaf, IsSkipped, IsWalk, Passes, TreeWalk, YieldsBox, is_left, IsLeafAround, Skip, Inactive, Cell, IsActivePast, IsFirst, IsInLeafBlock, IsOnPast, IsPastLast, IsListing, Held}
use Rattle.std.specs.Borrow.{Bor}
use Rattle.std.specs.Prelude.{IfNone}
use Rattle.vdb_node.specs.Leaf.{Leaf as LeafOf}
use Rattle.vdb_tree.specs.Parts.{OnLeaf, OnTile}
use Rattle.vdb_tree.specs.declared.queries.parts.Content.{Content}
use Rattle.vdb_tree.specs.declared.queries.parts.Content.TheVariants.{Leaf as LeafContent, Tile as TileContent}
use Rattle.vdb_tree.specs.declared.queries.parts.Part.{Part}
use Rattle.vdb_walk.specs.internal.Listings.{HasCells, IsHeld, tile_of}
use Rattle.vdb_walk.proofs.Firsts.{comes_on, first_same, past_after}

false_true : false ≡ true → ⊥
false_true e = cc

-- ---- in a tile

-- a coordinate past the last one, in a tile of this cell
abbrev pub IsTilePast : {V : Type 0} → Bits → Option Coord → Cell V → Coord → Type 0
IsTilePast bits after cell q = IsPastLast bits after q × (cell.on ≡ true)

module _ {V : Type 0} (bits : Bits) (f : Field V) (part : Box) (cell : Cell V) (cells : (q : Coord) → IsTrue (is_inside part q) → f.cell q ≡ cell) where
  pub tile_first : (after found : Option Coord) → IsFirst bits (IsTilePast bits after cell) part found → IsFirst bits (IsActivePast bits after f) part found
  tile_first after found h =
      first_same bits (IsTilePast bits after cell) (IsActivePast bits after f) part (λ q i k. (k.0, ap (λ (c : Cell V). c.on) (cells q i) ∙ k.1)) (λ q i k. (k.0, sym (ap (λ (c : Cell V). c.on) (cells q i)) ∙ k.1)) found h

  pub tile_value : (Kind : Coord → Type 0) (found : Option (Coord × V)) → IsFirst bits Kind part (option_map (λ item. item.0) found) → IfSome found (λ item. item.1 ≡ cell.value) → IfSome found (λ item. item.1 ≡ (f.cell item.0).value)
  tile_value Kind (Some item) h value = value ∙ sym (ap (λ (c : Cell V). c.value) (cells item.0 h.0))
  tile_value Kind None h value = tt

-- ---- in a leaf

module _ {V : Type 0} (bits : Bits) (f : Field V) (part : Box) (leaf : LeafOf V) (is : IsPartOfLeaf bits f part leaf) where
  pub leaf_first : (after found : Option Coord) → IsFirst bits (IsOnPast bits after leaf.states) part found → IsFirst bits (IsActivePast bits after f) part found
  leaf_first after found h =
      first_same bits (IsOnPast bits after leaf.states) (IsActivePast bits after f) part (λ q i k. (k.0, ap (λ (c : Cell V). c.on) (is.cells q i) ∙ k.1)) (λ q i k. (k.0, sym (ap (λ (c : Cell V). c.on) (is.cells q i)) ∙ k.1)) found h

  pub leaf_entry_value : (p : Coord) → IsTrue (is_inside part p) → (entry : ℕ) → offset bits Leaf p ≡ entry → (cell : Cell V) → ((d : Cell V) → cell_in d leaf entry ≡ cell) → cell.value ≡ (f.cell p).value
  leaf_entry_value p i entry at cell h =
      let d = off f.background in
      sym (ap (λ (c : Cell V). c.value) (is.cells p i) ∙ ap (λ (k : ℕ). (cell_in d leaf k).value) at ∙ ap (λ (c : Cell V). c.value) (h d))

-- ---- along a walk

-- the coordinates that are left come after those that are gone
left_later : (bits : Bits) (at : Option Coord) (p q : Coord) → is_left bits at p ≡ false → IsTrue (is_left bits at q) → is_lt (block_cmp bits q p) ≡ false
left_later bits None p q gone left = absurd (false_true left)
left_later bits (Some n) p q gone left = by (is_lt (block_cmp bits q p)) refl (is_lt (block_cmp bits p n)) refl (is_lt (block_cmp bits q n)) refl gone left
  where
    by : (a : Bool) → is_lt (block_cmp bits q p) ≡ a → (b : Bool) → is_lt (block_cmp bits p n) ≡ b → (c : Bool) → is_lt (block_cmp bits q n) ≡ c → is_left bits (Some n) p ≡ false → is_left bits (Some n) q ≡ true → is_lt (block_cmp bits q p) ≡ false
    by false a b eb c ec g l = a
    by true a false eb c ec g l = absurd (false_true (sym g ∙ (rw eb refl)))
    by true a true eb true ec g l = absurd (false_true (sym (rw ec refl) ∙ l))
    by true a true eb false ec g l = absurd (false_true (sym ec ∙ comes_on bits q p n a eb))

module _ {V : Type 0} (bits : Bits) (t : Layout V) (after : Option Coord) where
  abbrev Kind : Coord → Type 0
  Kind q = IsActivePast bits after (field_of bits t) q

  not_skipped : (skip : Skip) (q : Coord) → skip ≡ Inactive → IsSkipped bits skip t q → Kind q → ⊥
  not_skipped skip q e s k =
      let inactive : ((field_of bits t).cell q).on ≡ false = subst (λ (x : Skip). IsSkipped bits x t q) e s in
      false_true (sym inactive ∙ k.1)

  -- a listing at the start of a walk
  pub listing_start : (walk : TreeWalk V) → IsWalk bits t walk → walk.skip ≡ Inactive → ((q : Coord) → IsTrue (is_inside walk.box q) → IsPastLast bits after q → IsTrue (is_left bits walk.at q)) → IsListing bits t after walk None
  listing_start walk is skip left = record { walk = is; skip = skip; part = tt; rest = λ q i k. inr (left q i k.0) }

  -- one part further
  module _ (old new : TreeWalk V) (listing : IsListing bits t after old None) (part : Held V) (is : IsWalk bits t new) (yields : YieldsBox bits t old new part.bounds) (cells : IsHeld bits t part) where
    pub listing_next : IsListing bits t after new (Some part)
    listing_next = record {
      walk = is;
      skip = yields.passes.skip ∙ listing.skip;
      part = record {
        cells = cells;
        inside = λ q i. subst (λ (b : Box). IsTrue (is_inside b q)) (sym yields.passes.box) (yields.inside q i);
        gone = yields.gone;
      };
      rest = λ q i k.
          let here = subst (λ (b : Box). IsTrue (is_inside b q)) yields.passes.box i in
          elim (listing.rest q here k) [
            | inl none ↦ absurd none
            | inr left ↦ elim (bool_cases (is_left bits new.at q)) [
              | inl still ↦ inr still
              | inr gone ↦ elim (bool_cases (is_inside part.bounds q)) [
                | inl within ↦ inl within
                | inr out ↦ absurd (not_skipped old.skip q listing.skip (yields.passes.passed q here left gone out) k)
              ]
            ]
          ];
    }

  -- the first coordinate in the part is the first of all
  module _ (walk : TreeWalk V) (part : Held V) (listing : IsListing bits t after walk (Some part)) where
    pub first_of_all : (p : Coord) → IsFirst bits (IsActivePast bits after (field_of bits t)) part.bounds (Some p) → IsFirst bits (IsActivePast bits after (field_of bits t)) walk.box (Some p)
    first_of_all p h = (
      listing.part.inside p h.0,
      h.1,
      λ q i k. elim (listing.rest q i k) [
        | inl within ↦ h.2 q within k
        | inr left ↦ left_later bits walk.at p q (listing.part.gone p h.0) left
      ],
    )

    -- if the part has none, the voxel is in the rest of the walk
    pub none_in_part : IsFirst bits (IsActivePast bits after (field_of bits t)) part.bounds None → IsListing bits t after walk None
    none_in_part h = record {
      walk = listing.walk;
      skip = listing.skip;
      part = tt;
      rest = λ q i k. elim (listing.rest q i k) [ inl within ↦ absurd (h q within k) | inr left ↦ inr left ];
    }

    -- a listing past one coordinate is a listing past a later one
    pub listing_past : (p : Coord) → IsPastLast bits after p → IsListing bits t (Some p) walk (Some part)
    listing_past p h = record {
      walk = listing.walk;
      skip = listing.skip;
      part = listing.part;
      rest = λ q i k. listing.rest q i (past_after bits after p q h k.0, k.1);
    }

  -- at the end
  module _ (old new : TreeWalk V) (listing : IsListing bits t after old None) (passes : Passes bits t old new (λ q. false)) (end : new.at ≡ None) where
    pub none_at_end : IsFirst bits (IsActivePast bits after (field_of bits t)) old.box None
    none_at_end = λ q i k. elim (listing.rest q i k) [
      | inl none ↦ none
      | inr left ↦ not_skipped old.skip q listing.skip (passes.passed q i left (ap (λ (o : Option Coord). is_left bits o q) end) refl) k
    ]

    pub listing_end : IsWalk bits t new → IsListing bits t after new None
    listing_end is = record {
      walk = is;
      skip = passes.skip ∙ listing.skip;
      part = tt;
      rest = λ q i k. absurd (none_at_end q (subst (λ (b : Box). IsTrue (is_inside b q)) passes.box i) k);
    }

-- ---- the start of a walk

module _ {V : Type 0} (bits : Bits) (t : Layout V) (walk : TreeWalk V) (box : Box) (is : IsWalk bits t walk) (skip : walk.skip ≡ Inactive) (same : walk.box ≡ box) where
  pub listing_from : (after : Coord) → ((q : Coord) → IsTrue (is_inside box q) → is_left bits walk.at q ≡ false → ComesBefore bits q after) → IsListing bits t (Some after) walk None
  listing_from after earlier = listing_start bits t (Some after) walk is skip (λ q i past. elim (bool_cases (is_left bits walk.at q)) [
    | inl left ↦ left
    | inr gone ↦ absurd (not_both bits after q past (earlier q (subst (λ (b : Box). IsTrue (is_inside b q)) same i) gone))
  ])

  pub listing_all : walk.at ≡ Some box.min → IsListing bits t None walk None
  listing_all at = listing_start bits t None walk is skip (λ q i past. subst (λ (o : Option Coord). IsTrue (is_left bits o q)) (sym at) (by (is_lt (block_cmp bits q box.min)) (not_before_min bits box q (subst (λ (b : Box). IsTrue (is_inside b q)) same i))))
    where
      by : (b : Bool) → (b ≡ true → ⊥) → not b ≡ true
      by true h = absurd (h refl)
      by false h = refl

-- ---- parts without their leaves

module _ {V : Type 0} (bits : Bits) (t : Layout V) where
  pub held_is : (part : Part V (Bor (LeafOf V))) (held : Held V) → held.bounds ≡ part.bounds → held.tile ≡ tile_of part.content → HasCells bits t part → IsHeld bits t held
  held_is part held same tile cells = record {
    tile = rw (tile, same) (of_tile part.content part.bounds cells.tile);
    leaf = rw (tile, same) (of_leaf part.content part.bounds cells.leaf);
  }
    where
      of_tile : (content : Content V (Bor (LeafOf V))) (bounds : Box) → OnTile content (λ cell. (q : Coord) → IsTrue (is_inside bounds q) → (field_of bits t).cell q ≡ cell)
          → IfSome (tile_of content) (λ cell. (q : Coord) → IsTrue (is_inside bounds q) → (field_of bits t).cell q ≡ cell)
      of_tile (TileContent cell) bounds h = h
      of_tile (LeafContent leaf) bounds h = tt

      of_leaf : (content : Content V (Bor (LeafOf V))) (bounds : Box) → OnLeaf content (λ leaf. IsPartOfLeaf bits (field_of bits t) bounds leaf.now) → IfNone (tile_of content) (IsInLeafBlock bits bounds)
      of_leaf (TileContent cell) bounds h = tt
      of_leaf (LeafContent leaf) bounds h = h.block

  -- a part of no tile lies in one leaf block
  pub in_one_block : (held : Held V) → IsHeld bits t held → ((cell : Cell V) → held.tile ≡ Some cell → ⊥) → IsInLeafBlock bits held.bounds
  in_one_block held is none = by held.tile none is.leaf
    where
      by : (tile : Option (Cell V)) → ((cell : Cell V) → tile ≡ Some cell → ⊥) → IfNone tile (IsInLeafBlock bits held.bounds) → IsInLeafBlock bits held.bounds
      by None n h = h
      by (Some cell) n h = absurd (n cell refl)

  -- a leaf around the least corner has the cells of a part of its block
  pub part_of_leaf : (part : Box) (leaf : LeafOf V) → is_bounds part ≡ true → IsInLeafBlock bits part → IsLeafAround bits (field_of bits t) part.min leaf → IsPartOfLeaf bits (field_of bits t) part leaf
  part_of_leaf part leaf bounds block around = record {
    block = block;
    cells = λ q i.
        let h = both (is_box part) (is_within part everywhere) bounds in
        around q (within_each part everywhere q h.1 i) (block q part.min i (min_inside part h.0));
  }

  -- the part has one cell if the block has one
  pub part_of_cell : (part : Box) (corner : Coord) (cell : Cell V) → is_bounds part ≡ true → IsInLeafBlock bits part → corner ≡ part.min
      → ((q : Coord) → IsTrue (is_inside everywhere q) → block_number bits Leaf q ≡ block_number bits Leaf corner → (field_of bits t).cell q ≡ (field_of bits t).cell corner)
      → (field_of bits t).cell corner ≡ cell → (q : Coord) → IsTrue (is_inside part q) → (field_of bits t).cell q ≡ cell
  part_of_cell part corner cell bounds block same tile here q i =
      let h = both (is_box part) (is_within part everywhere) bounds in
      tile q (within_each part everywhere q h.1 i) (block q part.min i (min_inside part h.0) ∙ ap (block_number bits Leaf) (sym same)) ∙ here

-- ---- a part that was searched

module _ {V : Type 0} (bits : Bits) (t : Layout V) (after : Option Coord) (walk : TreeWalk V) (part : Held V) (listing : IsListing bits t after walk (Some part)) where
  pub found_in_part : (found : Option (Coord × V)) → is_some found ≡ true → IsFirst bits (IsActivePast bits after (field_of bits t)) part.bounds (option_map (λ item. item.0) found)
      → IsFirst bits (IsActivePast bits after (field_of bits t)) walk.box (option_map (λ item. item.0) found)
  found_in_part (Some item) e h = first_of_all bits t after walk part listing item.0 h
  found_in_part None e h = absurd (false_true e)

  pub listing_after : (found : Option (Coord × V)) → IsFirst bits (IsActivePast bits after (field_of bits t)) part.bounds (option_map (λ item. item.0) found) → IfSome found (λ item. IsListing bits t (Some item.0) walk (Some part))
  listing_after (Some item) h = listing_past bits t after walk part listing item.0 h.1.0
  listing_after None h = tt
