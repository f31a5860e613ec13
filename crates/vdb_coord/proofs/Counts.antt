-- How many coordinates of a box pass a test.
use Rattle.vdb_coord.proofs.Common.{◌≡◌, sym, ap, ◌∙◌, ℕ, ℤ, Bool, true, false, cond, ◌&&◌, int_le, List, [], ◌∷◌, length, AllByRecursion, filter, is_member, is_member-filter, block, block_bits, block_numbers, meets, number_at, numbers_over, Box, coord_eq, coordinates, everywhere, is_between, is_inside, is_within, volume, Bits, Coord, Level}
use Rattle.std.specs.List.{IsDistinct}
use Rattle.std.proofs.lemmas.Map.Made.{length-from_same_keys}
use Rattle.vdb_coord.specs.Entries.{blocks_meeting}
use Rattle.vdb_coord.proofs.Boxes.{and_true, both, le_through, same_truth, three, together}
use Rattle.vdb_coord.proofs.Distinct.{distinct_coordinates}
use Rattle.vdb_coord.proofs.Meeting.{meets_block, number_le}
use Rattle.vdb_coord.proofs.Members.{coord_equiv, coord_exact, member_coordinates}
use Rattle.vdb_coord.proofs.Volume.{length_coordinates}

all_filter : {X : Type 0} (P : X → Type 0) (t : X → Bool) (xs : List X) → AllByRecursion P xs → AllByRecursion P (filter t xs)
all_filter P t [] h = h
all_filter {X} P t (x ∷ xs) h = kept (t x) (all_filter P t xs h.1)
  where
    kept : (b : Bool) → AllByRecursion P (filter t xs) → AllByRecursion P (cond b (x ∷ filter t xs) (filter t xs))
    kept true k = (h.0, k)
    kept false k = k

pub distinct_filter : {X : Type 0} (e : X → X → Bool) (t : X → Bool) (xs : List X) → IsDistinct e xs → IsDistinct e (filter t xs)
unfolding IsDistinct
distinct_filter e t [] h = h
distinct_filter {X} e t (x ∷ xs) h = kept (t x) (distinct_filter e t xs h.1)
  where
    kept : (b : Bool) → IsDistinct e (filter t xs) → IsDistinct e (cond b (x ∷ filter t xs) (filter t xs))
    kept true k = (all_filter (λ y. e x y ≡ false) t xs h.0, k)
    kept false k = k

-- those of a box that pass a test, by a list that has each of them once
pub count_by_members : (b : Box) (t : Coord → Bool) (keys : List Coord) → IsDistinct coord_eq keys → ((p : Coord) → is_member coord_eq keys p ≡ (is_inside b p && t p)) → length (filter t (coordinates b)) ≡ length keys
count_by_members b t keys distinct members =
    length-from_same_keys coord_equiv (filter t (coordinates b)) keys (distinct_filter coord_eq t (coordinates b) (distinct_coordinates b)) distinct
    (λ q. is_member-filter coord_equiv t q (λ x e. ap t (coord_exact q x e)) (coordinates b) ∙ ap (λ i. i && t q) (member_coordinates b q) ∙ sym (members q))

-- those coordinates that are inside another box too
pub count_inside : (b c : Box) (t : Coord → Bool) → ((p : Coord) → t p ≡ is_inside c p) → ((p : Coord) → is_inside c p ≡ true → is_inside b p ≡ true) → length (filter t (coordinates b)) ≡ volume c
count_inside b c t same within =
    count_by_members b t (coordinates c) (distinct_coordinates c)
    (λ p. member_coordinates c p ∙ same_truth (is_inside c p) (is_inside b p && t p)
    (λ h. and_true (is_inside b p) (t p) (within p h) (same p ∙ h))
    (λ h. sym (same p) ∙ (both (is_inside b p) (t p) h).1))
    ∙ length_coordinates c

-- the blocks that meet a box within the range are among the level's blocks
numbers_within : (bits : Bits) (level : Level) (b : Box) → is_within b everywhere ≡ true → (n : Coord) → is_inside (numbers_over bits level b) n ≡ true → is_inside (block_numbers bits level) n ≡ true
numbers_within bits level b h n inside =
    let k = block_bits bits level in
    let ends = both (is_inside everywhere b.min) (is_inside everywhere b.max) h in
    let lows = three (is_between everywhere.min.x everywhere.max.x b.min.x) (is_between everywhere.min.y everywhere.max.y b.min.y) (is_between everywhere.min.z everywhere.max.z b.min.z) ends.0 in
    let highs = three (is_between everywhere.min.x everywhere.max.x b.max.x) (is_between everywhere.min.y everywhere.max.y b.max.y) (is_between everywhere.min.z everywhere.max.z b.max.z) ends.1 in
    let hs = three (is_between (number_at k b.min.x) (number_at k b.max.x) n.x) (is_between (number_at k b.min.y) (number_at k b.max.y) n.y) (is_between (number_at k b.min.z) (number_at k b.max.z) n.z) inside in
    together (is_between (number_at k everywhere.min.x) (number_at k everywhere.max.x) n.x) (is_between (number_at k everywhere.min.y) (number_at k everywhere.max.y) n.y) (is_between (number_at k everywhere.min.z) (number_at k everywhere.max.z) n.z)
    (wider k everywhere.min.x b.min.x b.max.x everywhere.max.x n.x lows.0 highs.0 hs.0)
    (wider k everywhere.min.y b.min.y b.max.y everywhere.max.y n.y lows.1 highs.1 hs.1)
    (wider k everywhere.min.z b.min.z b.max.z everywhere.max.z n.z lows.2 highs.2 hs.2)
  where
    wider : (k : ℕ) (least low high greatest x : ℤ) → is_between least greatest low ≡ true → is_between least greatest high ≡ true
        → is_between (number_at k low) (number_at k high) x ≡ true → is_between (number_at k least) (number_at k greatest) x ≡ true
    wider k least low high greatest x l u b =
        let ls = both (int_le least low) (int_le low greatest) l in
        let us = both (int_le least high) (int_le high greatest) u in
        let bs = both (int_le (number_at k low) x) (int_le x (number_at k high)) b in
        and_true (int_le (number_at k least) x) (int_le x (number_at k greatest))
        (le_through (number_at k least) (number_at k low) x (number_le k least low ls.0) bs.0)
        (le_through x (number_at k high) (number_at k greatest) bs.1 (number_le k high greatest us.1))

-- how many of a level's blocks meet a box: the numbers from its least corner's block to its greatest corner's
pub blocks_meeting_is : (bits : Bits) (level : Level) (b : Box) → is_within b everywhere ≡ true → blocks_meeting bits level b ≡ volume (numbers_over bits level b)
blocks_meeting_is bits level b h =
    count_inside (block_numbers bits level) (numbers_over bits level b) (λ n. meets (block bits level n) b) (λ n. meets_block bits level n b) (numbers_within bits level b h)
