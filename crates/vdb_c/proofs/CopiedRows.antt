-- Arrays that a call fills by the rows of a leaf.
use Rattle.vdb_c.proofs.Common.{◌≡◌, ◌⊎◌, inl, inr, ◌+◌, ◌-◌, ◌*◌, ◌<◌, ◌≤◌, ◌+ℤ◌, pos, ℕ, ℤ, refl, sym, ap, ◌∙◌, subst, Bool, true, false, ◌&&◌, IsTrue, List, length, take, get_or, arith, rules, tests, None, Some, nat_lt, int_gap, put_mid, ints, length-take-le, block_number, offset, vdb, Box, coord, is_inside, volume, Coord, both, IsInOneLeaf, IsNextVoxel, along_z, dense, is_first, rank, IsLaid, are_apart, place, HasRun, Strides}
use Rattle.std.proofs.Common.{◌/◌, ◌*ℤ◌, drop, length-drop}
use Rattle.std.proofs.Math.Nat.{div-one}
use Rattle.vdb_coord.specs.Components.{number_at}
use Rattle.vdb_coord.specs.declared.Level.TheVariants.{Leaf as leaf_level}
use Rattle.vdb_coord.proofs.Division.{parts, rest, rest_below}
use Rattle.vdb_c.proofs.Laid.{either_way, false_true, laid_none, laid_over, laid_within}
use Rattle.vdb_c.proofs.LeafRows.{run_put}
use Rattle.vdb_c.proofs.Places.{place_at_most, same_place}
use Rattle.vdb_c.proofs.Ranks.{dense_apart, first_all, rank_last, rank_min, rank_next}
use Rattle.vdb_c.proofs.RowFields.{end_is, row_ends, row_inside, row_place, row_rank}

-- ---- the offsets of a row in a leaf

rest_along : (z : ℤ) (n : ℕ) → number_at 3 z ≡ number_at 3 (z +ℤ pos n) → rest 8 (z +ℤ pos n) ≡ rest 8 z + n
rest_along z n same = by (number_at 3 z) (number_at 3 (z +ℤ pos n)) (rest 8 z) (rest 8 (z +ℤ pos n)) z same (parts 8 z (omega arith)) (parts 8 (z +ℤ pos n) (omega arith))
  where
    by : (q q' : ℤ) (r r' : ℕ) (z : ℤ) → q ≡ q' → q *ℤ pos 8 +ℤ pos r ≡ z → q' *ℤ pos 8 +ℤ pos r' ≡ z +ℤ pos n → r' ≡ r + n
    by q q' r r' z e h k = omega (arith, ints, e, h, k)

entry_along : (z : ℤ) (n : ℕ) → number_at 3 z ≡ number_at 3 (z +ℤ pos n) → rest 8 (z +ℤ pos n) / 1 ≡ rest 8 z / 1 + n
entry_along z n same = div-one (rest 8 (z +ℤ pos n)) ∙ rest_along z n same ∙ ap (λ (r : ℕ). r + n) (sym (div-one (rest 8 z)))

entry_below : (x : ℤ) → rest 8 x / 1 < 8
entry_below x = subst (λ (r : ℕ). r < 8) (sym (div-one (rest 8 x))) (rest_below 8 x (omega arith))

module _ (p : Coord) (n : ℕ) (same : block_number vdb leaf_level p ≡ block_number vdb leaf_level (along_z p n)) where
  pub row_offset : offset vdb leaf_level (along_z p n) ≡ offset vdb leaf_level p + n
  row_offset = by ((rest 8 p.x / 1 * 8 + rest 8 p.y / 1) * 8) (rest 8 p.z / 1) (rest 8 (p.z +ℤ pos n) / 1) (entry_along p.z n (ap (λ (c : Coord). c.z) same))
    where
      by : (a r r' : ℕ) → r' ≡ r + n → a + r' ≡ a + r + n
      by a r r' e = omega (arith, e)

  pub row_fits : offset vdb leaf_level p + n < 512
  row_fits = by (rest 8 p.x / 1) (rest 8 p.y / 1) (rest 8 p.z / 1) (rest 8 (p.z +ℤ pos n) / 1) (entry_below p.x) (entry_below p.y) (entry_below (p.z +ℤ pos n)) (entry_along p.z n (ap (λ (c : Coord). c.z) same))
    where
      by : (a c r r' : ℕ) → a < 8 → c < 8 → r' < 8 → r' ≡ r + n → (a * 8 + c) * 8 + r + n < 512
      by a c r r' h k l e = omega (arith, h, k, l, e)

-- ---- tests

less : (m n : ℕ) → m < n → nat_lt m n ≡ true
less m n h = search (rules, tests)

from_less : (m n : ℕ) → nat_lt m n ≡ true → m < n
from_less m n h = search (rules, tests)

from_not_less : (m n : ℕ) → nat_lt m n ≡ false → n ≤ m
from_not_less m n h = search (rules, tests)

and_true : (a c : Bool) → a ≡ true → c ≡ true → (a && c) ≡ true
and_true a c h k = search rules

module _ {X : Type 0} (b : Box) (s : Strides) (part : Box) (of : Coord → X) (xs : List X) where
  -- nothing is filled before the first row
  pub rows_none : (p : Coord) → p ≡ part.min → IsLaid b s (is_first part (rank part p)) of xs xs
  rows_none p at_min = laid_none b s (is_first part (rank part p)) of xs (λ q. none q (rank part p) (rank_min part p at_min))
    where
      below_none : (a : Bool) (m n : ℕ) → n ≡ 0 → (a && nat_lt m n) ≡ false
      below_none true m n e = search (rules, tests)
      below_none false m n e = refl

      none : (q : Coord) (n : ℕ) → n ≡ 0 → is_first part n q ≡ false
      none q n e = below_none (is_inside part q) (rank part q) n e

-- the array has an element for each voxel of a row
module _ (b : Box) (s : Strides) (apart : IsTrue (are_apart b s)) (along : s.z ≡ 1) (part : Box) (within : (q : Coord) → IsTrue (is_inside part q) → IsTrue (is_inside b q)) (p : Coord) (inside : IsTrue (is_inside part p)) where
  voxel_place : (i : ℕ) → place b s (along_z p i) ≡ place b s p + i
  voxel_place i = row_place b p (within p inside) s i ∙ by (place b s p) i s.z along
    where
      once : (a i : ℕ) → a + i * 1 ≡ a + i
      once a i = omega arith

      by : (a i z : ℕ) → z ≡ 1 → a + i * z ≡ a + i
      by a i z e = ap (λ (n : ℕ). a + i * n) e ∙ once a i

  room_of : (len : ℕ) → place b s b.max < len → place b s p + (int_gap p.z part.max.z + 1) ≤ len
  room_of len h =
      let last = int_gap p.z part.max.z in
      let at = voxel_place last in
      let most = place_at_most b s (along_z p last) (within (along_z p last) (row_inside part p inside last (row_ends part p inside last (omega arith)))) in
      omega (arith, h, at, most)

module _ {X : Type 0} (b : Box) (s : Strides) (apart : IsTrue (are_apart b s)) (along : s.z ≡ 1) (part : Box) (within : (q : Coord) → IsTrue (is_inside part q) → IsTrue (is_inside b q))
    (p : Coord) (inside : IsTrue (is_inside part p)) (of : Coord → X) where
  abbrev size : ℕ
  size = int_gap p.z part.max.z + 1

  abbrev behind : ℕ
  behind = rank part (coord p.x p.y part.max.z) + 1

  -- how many voxels there are up to the end of the row
  behind_is : behind ≡ rank part p + size
  behind_is = ap (λ (q : Coord). rank part q + 1) (sym (end_is part p inside)) ∙ more (rank part (along_z p (int_gap p.z part.max.z))) (rank part p) (int_gap p.z part.max.z) (row_rank part p inside (int_gap p.z part.max.z))
    where
      more : (a r g : ℕ) → a ≡ r + g → a + 1 ≡ r + (g + 1)
      more a r g e = omega (arith, e)

  voxel_inside : (i : ℕ) → i < size → IsTrue (is_inside part (along_z p i))
  voxel_inside i l = row_inside part p inside i (row_ends part p inside i l)

  abbrev in_row : Coord → Bool
  in_row q = is_inside part q && (nat_lt (rank part q) behind && nat_lt (rank part p) (rank part q + 1))

  voxel_in_row : (i : ℕ) → i < size → IsTrue (in_row (along_z p i))
  voxel_in_row i l =
      let at = row_rank part p inside i in
      let end = behind_is in
      and_true (is_inside part (along_z p i)) _ (voxel_inside i l)
      (and_true (nat_lt (rank part (along_z p i)) behind) (nat_lt (rank part p) (rank part (along_z p i) + 1)) (less (rank part (along_z p i)) behind (omega (arith, at, end, l))) (less (rank part p) (rank part (along_z p i) + 1) (omega (arith, at))))

  -- a voxel of the row by its number in it
  row_voxel : (q : Coord) → IsTrue (in_row q) → (i : ℕ) × (i < size) × (q ≡ along_z p i)
  row_voxel q h =
      let i = both (is_inside part q) (nat_lt (rank part q) behind && nat_lt (rank part p) (rank part q + 1)) h in
      let ends = both (nat_lt (rank part q) behind) (nat_lt (rank part p) (rank part q + 1)) i.1 in
      let most = from_less (rank part q) behind ends.0 in
      let least = from_less (rank part p) (rank part q + 1) ends.1 in
      let n : ℕ = rank part q - rank part p in
      let is : rank part q ≡ rank part p + n = omega (arith, least) in
      let end = behind_is in
      let l : n < size = omega (arith, is, most, end) in
      (n, l, same_place part (dense part) (dense_apart part p inside) q (along_z p n) i.0 (voxel_inside n l) (is ∙ sym (row_rank part p inside n)))

  module _ (run : ℕ → X → Type 0) (is : (i : ℕ) (x : X) → i < size → run i x → x ≡ of (along_z p i)) (xs ys zs : List X) (room : place b s p + size ≤ length ys)
      (first n : ℕ) (at : first ≡ place b s p) (many : n ≡ size) (given : HasRun first n run ys zs) where
    copied : HasRun (place b s p) size run ys zs
    copied = subst (λ (m : ℕ). HasRun m size run ys zs) at (subst (λ (m : ℕ). HasRun first m run ys zs) many given)

    at_voxel : (q : Coord) (d : X) (i : ℕ) → i < size → q ≡ along_z p i → get_or zs (place b s q) d ≡ of q
    at_voxel q d i l e =
        subst (λ (r : Coord). get_or zs (place b s r) d ≡ of r) (sym e)
        (subst (λ (n : ℕ). get_or zs n d ≡ of (along_z p i)) (sym (voxel_place b s apart along part within p inside i)) (is i (get_or zs (place b s p + i) d) l (copied.elements i d l (omega (arith, l, room)))))

    elsewhere : (n : ℕ) (d : X) → ((q : Coord) → IsTrue (in_row q) → place b s q ≡ n → ⊥) → (nat_lt n (place b s p) ≡ true) ⊎ (nat_lt n (place b s p) ≡ false)
        → (nat_lt n (place b s p + size) ≡ true) ⊎ (nat_lt n (place b s p + size) ≡ false) → get_or zs n d ≡ get_or ys n d
    elsewhere n d other (inl before) second = copied.before n d (from_less n (place b s p) before)
    elsewhere n d other (inr past) (inr after) = copied.after n d (from_not_less n (place b s p + size) after)
    elsewhere n d other (inr past) (inl before) =
        let least = from_not_less n (place b s p) past in
        let most = from_less n (place b s p + size) before in
        let i : ℕ = n - place b s p in
        let is : n ≡ place b s p + i = omega (arith, least) in
        let l : i < size = omega (arith, is, most) in
        absurd (other (along_z p i) (voxel_in_row i l) (voxel_place b s apart along part within p inside i ∙ sym is))

    row_laid : IsLaid b s in_row of ys zs
    row_laid = record {
      size = copied.len;
      voxels = λ q d i _. let v = row_voxel q i in at_voxel q d v.0 v.1 v.2;
      others = λ n d other. elsewhere n d other (either_way (nat_lt n (place b s p))) (either_way (nat_lt n (place b s p + size)));
    }

    before_or_in : (q : Coord) → IsTrue (is_first part behind q) → in_row q ≡ false → IsTrue (is_first part (rank part p) q)
    before_or_in q h out = elim (either_way (nat_lt (rank part q) (rank part p))) [
      | inl l ↦ and_true (is_inside part q) (nat_lt (rank part q) (rank part p)) i.0 l
      | inr l ↦ (
          let least = from_not_less (rank part q) (rank part p) l in
          absurd (false_true (in_row q) out (and_true (is_inside part q) _ i.0 (and_true (nat_lt (rank part q) behind) (nat_lt (rank part p) (rank part q + 1)) i.1 (less (rank part p) (rank part q + 1) (omega (arith, least))))))
          )
    ]
      where
        i : (is_inside part q ≡ true) × (nat_lt (rank part q) behind ≡ true)
        i = both (is_inside part q) (nat_lt (rank part q) behind) h

    -- a row after those before it
    pub rows_on : IsLaid b s (is_first part (rank part p)) of xs ys → IsLaid b s (is_first part behind) of xs zs
    rows_on before =
        laid_over b s apart (is_first part (rank part p)) in_row (is_first part behind) of of of xs ys zs
        (λ q h. within q (both (is_inside part q) (nat_lt (rank part q) (rank part p)) h).0)
        (λ q h. within q (both (is_inside part q) (nat_lt (rank part q) behind && nat_lt (rank part p) (rank part q + 1)) h).0)
        (λ q h. let i = both (is_inside part q) (nat_lt (rank part q) (rank part p)) h in let l = from_less (rank part q) (rank part p) i.1 in let end = behind_is in
        and_true (is_inside part q) (nat_lt (rank part q) behind) i.0 (less (rank part q) behind (omega (arith, l, end))))
        (λ q h. let i = both (is_inside part q) (nat_lt (rank part q) behind && nat_lt (rank part p) (rank part q + 1)) h in
        and_true (is_inside part q) (nat_lt (rank part q) behind) i.0 (both (nat_lt (rank part q) behind) (nat_lt (rank part p) (rank part q + 1)) i.1).0)
        before_or_in (λ q h. refl) (λ q h out. refl) before row_laid

-- the rows before the next one are those up to the end of this row
module _ {X : Type 0} (b : Box) (s : Strides) (part : Box) (of : Coord → X) (end : Coord) (inside : IsTrue (is_inside part end)) (xs ys : List X) (h : IsLaid b s (is_first part (rank part end + 1)) of xs ys) where
  pub rows_next : (next : Coord) → IsNextVoxel part end (Some next) → IsLaid b s (is_first part (rank part next)) of xs ys
  rows_next next n = subst (λ (k : ℕ). IsLaid b s (is_first part k) of xs ys) (sym (rank_next part end inside next n)) h

  pub rows_all : IsNextVoxel part end None → IsLaid b s (is_inside part) of xs ys
  rows_all last =
      let all = subst (λ (k : ℕ). IsLaid b s (is_first part k) of xs ys) (rank_last part end inside last) h in
      laid_within b s (is_first part (volume part)) (is_inside part) of xs ys (λ q. whole q (is_inside part q) refl) all
    where
      whole : (q : Coord) (c : Bool) → is_inside part q ≡ c → is_first part (volume part) q ≡ is_inside part q
      whole q true i = first_all part q i ∙ sym i
      whole q false i = ap (λ (a : Bool). a && nat_lt (rank part q) (volume part)) i ∙ sym i

-- ---- a row of a leaf, as the code copies it to its part of the array

part_size : {A : Type 0} (xs : List A) (first n : ℕ) → first + n ≤ length xs → length (take (first + n - first) (drop first xs)) ≡ n
part_size xs first n h = let rest = length-drop first xs in let is : first + n - first ≡ n = omega arith in length-take-le (first + n - first) (drop first xs) (omega (arith, h, rest)) ∙ is

module _ {X : Type 0} (b : Box) (s : Strides) (apart : IsTrue (are_apart b s)) (along : s.z ≡ 1) (part : Box) (within : (q : Coord) → IsTrue (is_inside part q) → IsTrue (is_inside b q)) (block : IsInOneLeaf vdb part)
    (p : Coord) (inside : IsTrue (is_inside part p)) (xs ys : List X) (places : place b s b.max < length xs) (same : length ys ≡ length xs) (first n : ℕ) (at : first ≡ place b s p) (many : n ≡ int_gap p.z part.max.z + 1) where
  pub row_room : first + n ≤ length ys
  row_room = let all = room_of b s apart along part within p inside (length xs) places in omega (arith, all, at, many, same)

  in_leaf : (i : ℕ) → i < int_gap p.z part.max.z + 1 → block_number vdb leaf_level p ≡ block_number vdb leaf_level (along_z p i)
  in_leaf i l = block p (along_z p i) inside (row_inside part p inside i (row_ends part p inside i l))

  module _ (offset_p : ℕ) (offset_is : offset_p ≡ offset vdb leaf_level p) where
    pub row_in_leaf : offset_p + length (take (first + n - first) (drop first ys)) ≤ 512
    row_in_leaf =
        let fits = row_fits p (int_gap p.z part.max.z) (in_leaf (int_gap p.z part.max.z) (omega arith)) in
        let size = part_size ys first n row_room in
        omega (arith, fits, offset_is, size, many)

    module _ (mid : List X) (length_is : length mid ≡ length (take (first + n - first) (drop first ys))) where
      run_of : (run : ℕ → X → Type 0) → ((i : ℕ) (d : X) → i < n → run i (get_or mid i d)) → HasRun first n run ys (put_mid first (first + n - first) ys mid)
      run_of run each = run_put first n _ run ys mid (omega arith) row_room (length_is ∙ part_size ys first n row_room) each

      pub row_keeps_size : length (put_mid first (first + n - first) ys mid) ≡ length xs
      row_keeps_size = (run_of (λ i x. x ≡ x) (λ i d l. refl)).len ∙ same

      -- the voxels up to the end of the row
      pub row_copied : (value : ℕ → X) → ((i : ℕ) (d : X) → i < length (take (first + n - first) (drop first ys)) → get_or mid i d ≡ value (offset_p + i)) → (end : Coord) → end ≡ coord p.x p.y part.max.z
          → IsLaid b s (is_first part (rank part p)) (λ q. value (offset vdb leaf_level q)) xs ys
          → IsLaid b s (is_first part (rank part end + 1)) (λ q. value (offset vdb leaf_level q)) xs (put_mid first (first + n - first) ys mid)
      row_copied value each end is before =
          subst (λ (e : Coord). IsLaid b s (is_first part (rank part e + 1)) (λ q. value (offset vdb leaf_level q)) xs (put_mid first (first + n - first) ys mid)) (sym is)
          (rows_on b s apart along part within p inside (λ q. value (offset vdb leaf_level q)) (λ i x. x ≡ value (offset_p + i))
          (λ i x l e. e ∙ ap value (ap (λ (m : ℕ). m + i) offset_is ∙ sym (row_offset p i (in_leaf i l))))
          xs ys _ (subst (λ (m : ℕ). m + (int_gap p.z part.max.z + 1) ≤ length ys) at (subst (λ (m : ℕ). first + m ≤ length ys) many row_room)) first n at many
          (run_of (λ i x. x ≡ value (offset_p + i)) (λ i d l. each i d (subst (λ (m : ℕ). i < m) (sym (part_size ys first n row_room)) l))) before)
