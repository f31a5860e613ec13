-- The blocks that meet a box, as one box; and the sides of the rings between such boxes.
use Rattle.vdb_region.proofs.Common.{◌≡◌, ◌∙◌, sym, refl, ap, true, Bool, not, ◌&&◌, int_le, ℕ, int_lt, block_around, Box, everywhere, is_between, is_box, is_inside, Bits, Coord, Level, Leaf, Lower, Upper, Face, MinusX, PlusX, MinusY, PlusY, MinusZ, PlusZ, and_true, both, box_from_inside, three, Cell, never, is_beyond, hull, inner, outer}
use Rattle.std.proofs.Common.{◌⊎◌, inl, inr, IsTrue}
use Rattle.vdb_coord.specs.Blocks.{block_bits, block_number}
use Rattle.vdb_coord.specs.Components.{first_of, last_of, number_at}
use Rattle.vdb_coord.specs.Entries.{AreBits, numbers_over}
use Rattle.vdb_coord.proofs.InRange.{block_in_range}
use Rattle.vdb_coord.proofs.Meeting.{begins_by, common_from_meets, ends_by, meets_block, meets_from_common}
use Rattle.vdb_coord.proofs.Nesting.{inside_around, lower_from_leaf, number_in_block, upper_from_lower}
use Rattle.vdb_coord.proofs.Walk.{min_inside}
use Rattle.vdb_node.specs.declared.Entry.TheVariants.{Tile}
use Rattle.vdb_tree.specs.Layout.{Layout, entry_over, background_cell}
use Rattle.vdb_tree.specs.SplitBox.{IsCovered, IsSplit}
use Rattle.vdb_tree.proofs.Covered.{covered_from, covered_inside}
use Rattle.vdb_tree.proofs.Passes.{entry_by_block}
use Rattle.vdb_region.specs.declared.rings.Ring.{Ring}
use Rattle.vdb_region.specs.declared.rings.Ring.TheVariants.{AroundRoots, WithinRoots, WithinLowers, WithinLeaves}
use Rattle.vdb_region.proofs.Halves.{not_le}

-- nothing inside lies beyond a face
pub inside_beyond : (b : Box) (q : Coord) (face : Face) → is_inside b q ≡ true → is_beyond b q face ≡ true → ⊥
inside_beyond b q face h k =
    let t = three (is_between b.min.x b.max.x q.x) (is_between b.min.y b.max.y q.y) (is_between b.min.z b.max.z q.z) h in
    let x = both (int_le b.min.x q.x) (int_le q.x b.max.x) t.0 in
    let y = both (int_le b.min.y q.y) (int_le q.y b.max.y) t.1 in
    let z = both (int_le b.min.z q.z) (int_le q.z b.max.z) t.2 in
    each face x.0 x.1 y.0 y.1 z.0 z.1 k
  where
    no_both : (s t : Bool) → s ≡ not t → t ≡ true → s ≡ true → ⊥
    no_both s t e f g = never (e ∙ ap not f) g

    each : (f : Face) → int_le b.min.x q.x ≡ true → int_le q.x b.max.x ≡ true → int_le b.min.y q.y ≡ true → int_le q.y b.max.y ≡ true → int_le b.min.z q.z ≡ true → int_le q.z b.max.z ≡ true
        → is_beyond b q f ≡ true → ⊥
    each MinusX a c d e f g = no_both (int_lt q.x b.min.x) (int_le b.min.x q.x) (not_le b.min.x q.x) a
    each PlusX a c d e f g = no_both (int_lt b.max.x q.x) (int_le q.x b.max.x) (not_le q.x b.max.x) c
    each MinusY a c d e f g = no_both (int_lt q.y b.min.y) (int_le b.min.y q.y) (not_le b.min.y q.y) d
    each PlusY a c d e f g = no_both (int_lt b.max.y q.y) (int_le q.y b.max.y) (not_le q.y b.max.y) e
    each MinusZ a c d e f g = no_both (int_lt q.z b.min.z) (int_le b.min.z q.z) (not_le b.min.z q.z) f
    each PlusZ a c d e f g = no_both (int_lt b.max.z q.z) (int_le q.z b.max.z) (not_le q.z b.max.z) g

module _ (bits : Bits) (b : Box) where
  -- the number of a coordinate's block says whether the coordinate lies in the hull
  pub hull_inside : (level : Level) (q : Coord) → is_inside (hull bits level b) q ≡ is_inside (numbers_over bits level b) (block_number bits level q)
  hull_inside level q =
      let k = block_bits bits level in
      λ i. (begins_by k (number_at k b.min.x) q.x i && ends_by k (number_at k b.max.x) q.x i)
      && (begins_by k (number_at k b.min.y) q.y i && ends_by k (number_at k b.max.y) q.y i)
      && (begins_by k (number_at k b.min.z) q.z i && ends_by k (number_at k b.max.z) q.z i)

  -- the number of a coordinate's block says whether the coordinate lies beyond a face of the hull
  hull_beyond : (level : Level) (q : Coord) (face : Face) → is_beyond (hull bits level b) q face ≡ is_beyond (numbers_over bits level b) (block_number bits level q) face
  hull_beyond level q face = each face
    where
      k : ℕ
      k = block_bits bits level

      each : (f : Face) → is_beyond (hull bits level b) q f ≡ is_beyond (numbers_over bits level b) (block_number bits level q) f
      each MinusX = let n = number_at k b.min.x in not_le (first_of k n) q.x ∙ ap not (begins_by k n q.x) ∙ sym (not_le n (number_at k q.x))
      each PlusX = let n = number_at k b.max.x in not_le q.x (last_of k n) ∙ ap not (ends_by k n q.x) ∙ sym (not_le (number_at k q.x) n)
      each MinusY = let n = number_at k b.min.y in not_le (first_of k n) q.y ∙ ap not (begins_by k n q.y) ∙ sym (not_le n (number_at k q.y))
      each PlusY = let n = number_at k b.max.y in not_le q.y (last_of k n) ∙ ap not (ends_by k n q.y) ∙ sym (not_le (number_at k q.y) n)
      each MinusZ = let n = number_at k b.min.z in not_le (first_of k n) q.z ∙ ap not (begins_by k n q.z) ∙ sym (not_le n (number_at k q.z))
      each PlusZ = let n = number_at k b.max.z in not_le q.z (last_of k n) ∙ ap not (ends_by k n q.z) ∙ sym (not_le (number_at k q.z) n)

  -- all coordinates of a block lie in the hull alike, and beyond its faces alike
  held_alike : (level : Level) (p r : Coord) → block_number bits level r ≡ block_number bits level p → is_inside (hull bits level b) r ≡ is_inside (hull bits level b) p
  held_alike level p r same = hull_inside level r ∙ ap (is_inside (numbers_over bits level b)) same ∙ sym (hull_inside level p)

  beyond_alike : (level : Level) (face : Face) (p r : Coord) → block_number bits level r ≡ block_number bits level p → is_beyond (hull bits level b) r face ≡ is_beyond (hull bits level b) p face
  beyond_alike level face p r same = hull_beyond level r face ∙ ap (λ n. is_beyond (numbers_over bits level b) n face) same ∙ sym (hull_beyond level p face)

  -- the hull holds the box
  pub hull_holds : (level : Level) (q : Coord) → is_inside b q ≡ true → is_inside (hull bits level b) q ≡ true
  hull_holds level q h = hull_inside level q ∙ sym (meets_block bits level (block_number bits level q) b) ∙ meets_from_common (block_around bits level q) b q (inside_around bits level q) h

  pub hull_is_box : (level : Level) → is_box b ≡ true → is_box (hull bits level b) ≡ true
  hull_is_box level is = box_from_inside (hull bits level b) b.min (hull_holds level b.min (min_inside b is))

  pub inner_holds : (ring : Ring) (q : Coord) → is_inside b q ≡ true → is_inside (inner bits b ring) q ≡ true
  inner_holds AroundRoots q h = hull_holds Upper q h
  inner_holds WithinRoots q h = hull_holds Lower q h
  inner_holds WithinLowers q h = hull_holds Leaf q h
  inner_holds WithinLeaves q h = h

  -- ---- a side of a ring, in a tree that is split for the box and the background cell

  module _ {V : Type 0} (configured : AreBits bits) (is : is_box b ≡ true) (t : Layout V) (edges : IsSplit bits b (background_cell t) t) (face : Face) (s : Box) where
    -- a block within the side
    covered_side : (out inn : Box) → ((q : Coord) → is_inside s q ≡ (is_inside out q && is_beyond inn q face)) → (level : Level) (p : Coord) → is_inside s p ≡ true
        → ((r : Coord) → block_number bits level r ≡ block_number bits level p → is_inside out p ≡ true → is_inside out r ≡ true)
        → ((r : Coord) → block_number bits level r ≡ block_number bits level p → is_beyond inn r face ≡ is_beyond inn p face) → IsCovered bits s level p
    covered_side out inn inside level p h outs beyonds =
        let parts = both (is_inside out p) (is_beyond inn p face) (sym (inside p) ∙ h) in
        covered_from bits s level p (λ r same. inside r ∙ and_true (is_inside out r) (is_beyond inn r face) (outs r same parts.0) (beyonds r same ∙ parts.1))

    -- a tile over a block that meets the box, and isn't all in it
    crossing_tile : (meeting level : Level) → ((q r : Coord) → block_number bits meeting q ≡ block_number bits meeting r → block_number bits level q ≡ block_number bits level r)
        → (p : Coord) → is_inside (hull bits meeting b) p ≡ true → (is_inside b p ≡ true → ⊥) → (tile : Cell V) → entry_over bits level t p ≡ Tile tile → tile ≡ background_cell t
    crossing_tile meeting level up p held out tile e =
        let block = block_around bits meeting p in
        let here = inside_around bits meeting p in
        let meets = meets_block bits meeting (block_number bits meeting p) b ∙ sym (hull_inside meeting p) ∙ held in
        let c = common_from_meets block b (box_from_inside block p here) is meets in
        let same = up c.0 p (number_in_block bits meeting (block_number bits meeting p) c.0 c.1) in
        elim (edges.tiles level c.0 c.2 tile (entry_by_block bits level t c.0 p same ∙ e)) [
          | inl covered ↦ absurd (out (covered_inside bits b level c.0 p covered (sym same)))
          | inr background_cell ↦ background_cell
        ]

    upper_from_leaf : (q r : Coord) → block_number bits Leaf q ≡ block_number bits Leaf r → block_number bits Upper q ≡ block_number bits Upper r
    upper_from_leaf q r e = upper_from_lower bits q r (lower_from_leaf bits q r e)

    itself : (level : Level) (q r : Coord) → block_number bits level q ≡ block_number bits level r → block_number bits level q ≡ block_number bits level r
    itself level q r e = e

    abbrev Sides : Ring → Type 0
    Sides r = (q : Coord) → is_inside s q ≡ (is_inside (outer bits b r) q && is_beyond (inner bits b r) q face)

    abbrev SplitAt : Level → Type 0
    SplitAt level = (p : Coord) → IsTrue (is_inside s p) → (tile : Cell V) → entry_over bits level t p ≡ Tile tile → IsCovered bits s level p ⊎ (tile ≡ background_cell t)

    around : (level : Level) → ((q r : Coord) → block_number bits level q ≡ block_number bits level r → block_number bits Upper q ≡ block_number bits Upper r) → Sides AroundRoots → SplitAt level
    around level up ins p h tile e = inl (covered_side everywhere (hull bits Upper b) ins level p h (λ r same range. block_in_range bits level configured p r range same) (λ r same. beyond_alike Upper face p r (up r p same)))

    within : (out inn level : Level) → ((q r : Coord) → block_number bits level q ≡ block_number bits level r → block_number bits out q ≡ block_number bits out r)
        → ((q r : Coord) → block_number bits level q ≡ block_number bits level r → block_number bits inn q ≡ block_number bits inn r)
        → ((q : Coord) → is_inside s q ≡ (is_inside (hull bits out b) q && is_beyond (hull bits inn b) q face)) → SplitAt level
    within out inn level up_out up_inn ins p h tile e =
        inl (covered_side (hull bits out b) (hull bits inn b) ins level p h (λ r same held. held_alike out p r (up_out r p same) ∙ held) (λ r same. beyond_alike inn face p r (up_inn r p same)))

    across : (r : Ring) (meeting level : Level) → ((q r : Coord) → block_number bits meeting q ≡ block_number bits meeting r → block_number bits level q ≡ block_number bits level r)
        → ((q : Coord) → is_inside s q ≡ (is_inside (hull bits meeting b) q && is_beyond (inner bits b r) q face)) → SplitAt level
    across r meeting level up ins p h tile e =
        let parts = both (is_inside (hull bits meeting b) p) (is_beyond (inner bits b r) p face) (sym (ins p) ∙ h) in
        inr (crossing_tile meeting level up p parts.0 (λ held. inside_beyond (inner bits b r) p face (inner_holds r p held) parts.1) tile e)

    each : (r : Ring) → Sides r → (level : Level) → SplitAt level
    each AroundRoots ins Leaf = around Leaf upper_from_leaf ins
    each AroundRoots ins Lower = around Lower (upper_from_lower bits) ins
    each AroundRoots ins Upper = around Upper (itself Upper) ins
    each WithinRoots ins Leaf = within Upper Lower Leaf upper_from_leaf (lower_from_leaf bits) ins
    each WithinRoots ins Lower = within Upper Lower Lower (upper_from_lower bits) (itself Lower) ins
    each WithinRoots ins Upper = across WithinRoots Upper Upper (itself Upper) ins
    each WithinLowers ins Leaf = within Lower Leaf Leaf (lower_from_leaf bits) (itself Leaf) ins
    each WithinLowers ins Lower = across WithinLowers Lower Lower (itself Lower) ins
    each WithinLowers ins Upper = across WithinLowers Lower Upper (upper_from_lower bits) ins
    each WithinLeaves ins Leaf = across WithinLeaves Leaf Leaf (itself Leaf) ins
    each WithinLeaves ins Lower = across WithinLeaves Leaf Lower (lower_from_leaf bits) ins
    each WithinLeaves ins Upper = across WithinLeaves Leaf Upper upper_from_leaf ins

    pub split_side : (ring : Ring) → ((q : Coord) → is_inside s q ≡ (is_inside (outer bits b ring) q && is_beyond (inner bits b ring) q face)) → IsSplit bits s (background_cell t) t
    split_side ring inside = record { tiles = each ring inside; entered = λ p h. inl refl }
