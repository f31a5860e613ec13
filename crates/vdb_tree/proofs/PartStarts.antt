-- Walks over the parts of a tree that begin at the part around a coordinate.
use Rattle.vdb_tree.proofs.Common.{◌≡◌, inl, inr, Bool, true, false, ap, refl, subst, sym, ◌∙◌, not, Some, IsTrue, is_lt, block_cmp, block_number, ComesBefore, Box, is_inside, Bits, Coord, Level, Leaf, Lower, Upper, comes_on, not_before_min, which_first, lower_from_leaf, upper_from_lower, Entry, Child, Tile, Layout, root_entry, upper_entry, IsStart, end_level, if_tile, is_left}
use Rattle.vdb_tree.proofs.Descents.{root_by_block, upper_by_block}

-- what isn't left comes before the start
pub gone_before : (bits : Bits) (p q : Coord) → is_left bits (Some p) q ≡ false → ComesBefore bits q p
gone_before bits p q h = by (is_lt (block_cmp bits q p)) h
  where
    by : (b : Bool) → not b ≡ false → b ≡ true
    by true h = refl
    by false h = cc

-- the blocks of each level lie in upper extents
pub in_upper : (bits : Bits) (level : Level) (q n : Coord) → block_number bits level q ≡ block_number bits level n → block_number bits Upper q ≡ block_number bits Upper n
in_upper bits Upper q n e = e
in_upper bits Lower q n e = upper_from_lower bits q n e
in_upper bits Leaf q n e = upper_from_lower bits q n (lower_from_leaf bits q n e)

module _ {V : Type 0} (bits : Bits) (t : Layout V) where
  in_lower : (u : Entry V) (n p : Coord) → block_number bits (if_tile u Lower Leaf) n ≡ block_number bits (if_tile u Lower Leaf) p → block_number bits Lower n ≡ block_number bits Lower p
  in_lower (Tile c) n p e = e
  in_lower (Child s) n p e = lower_from_leaf bits n p e

  -- descents end in the same tile or leaf all over the block where one ends
  pub same_end : (p n : Coord) → block_number bits (end_level bits t p) n ≡ block_number bits (end_level bits t p) p → end_level bits t n ≡ end_level bits t p
  same_end p n e =
      let root : root_entry bits t n ≡ root_entry bits t p = root_by_block bits t n p (in_upper bits (end_level bits t p) n p e) in
      ap (λ (x : Entry V). if_tile x Upper (if_tile (upper_entry bits t n) Lower Leaf)) root ∙ below (root_entry bits t p) e
    where
      below : (r : Entry V) → block_number bits (if_tile r Upper (if_tile (upper_entry bits t p) Lower Leaf)) n ≡ block_number bits (if_tile r Upper (if_tile (upper_entry bits t p) Lower Leaf)) p
          → if_tile r Upper (if_tile (upper_entry bits t n) Lower Leaf) ≡ if_tile r Upper (if_tile (upper_entry bits t p) Lower Leaf)
      below (Tile c) e = refl
      below (Child s) e = ap (λ (x : Entry V). if_tile x Lower Leaf) (upper_by_block bits t n p (in_lower (upper_entry bits t p) n p e))

  module _ (box part : Box) (level : Level) (p : Coord) (ends : end_level bits t p ≡ level)
      (within : (q : Coord) → IsTrue (is_inside part q) → IsTrue (is_inside box q) × (block_number bits level q ≡ block_number bits level p))
      (all : (q : Coord) → IsTrue (is_inside box q) → block_number bits level q ≡ block_number bits level p → IsTrue (is_inside part q))
      (corner : IsTrue (is_inside part part.min)) where
    -- the least corner of the part around p is a start
    pub start_of_part : IsStart bits t box part.min
    start_of_part =
        let at = within part.min corner in
        let same : end_level bits t part.min ≡ level = same_end p part.min (subst (λ (l : Level). block_number bits l part.min ≡ block_number bits l p) (sym ends) at.1) ∙ ends in
        record {
          inside = at.0;
          first = λ q i b e. not_before_min bits part q (all q i (subst (λ (l : Level). block_number bits l q ≡ block_number bits l part.min) same e ∙ at.1)) b;
        }

    -- what comes before the part's least corner comes before p
    pub before_start : IsTrue (is_inside box p) → (q : Coord) → ComesBefore bits q part.min → ComesBefore bits q p
    before_start here q b =
        let i : IsTrue (is_inside part p) = all p here refl in
        elim (which_first bits q p) [
          | inl a ↦ a
          | inr r ↦ elim r [
            | inl e ↦ absurd (not_before_min bits part p i (subst (λ (c : Coord). ComesBefore bits c part.min) e b))
            | inr c ↦ absurd (not_before_min bits part p i (comes_on bits p q part.min c b))
          ]
        ]
