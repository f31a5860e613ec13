-- Whether a block has an active voxel, by their count.
use Rattle.vdb_tree.proofs.Common.{◌≡◌, inl, inr, ◌<◌, Bool, true, false, List, [], ◌∷◌, length, arith, refl, sym, ap, subst, ◌∙◌, IsTrue, count_by, filter, is_member, length-filter, block_around, block_number, Box, coord_eq, coordinates, is_inside, Bits, Coord, Level, both, not_true, count_at_least, member_passing, coord_equiv, coord_exact, inside_numbered, number_in_block, HasActive, IsInactive, count, Field}
use Rattle.vdb_tree.proofs.Blocks.{never}
use Rattle.vdb_tree.proofs.RootCounts.{nothing_apart}
use Rattle.vdb_tree.proofs.Rooted.{one_more, or_cases, or_first}

-- ---- a test that holds at some coordinate of a box, or at none

module _ (b : Box) (t : Coord → Bool) where
  some_passes : 0 < count_by t (coordinates b) → (q : Coord) × IsTrue (is_inside b q) × (t q ≡ true)
  some_passes more = by (filter t (coordinates b)) refl
    where
      by : (qs : List Coord) → filter t (coordinates b) ≡ qs → (q : Coord) × IsTrue (is_inside b q) × (t q ≡ true)
      by [] e =
          let size = length-filter t (coordinates b) in
          let none : length (filter t (coordinates b)) ≡ 0 = ap length e in
          absurd (omega (arith, size, none, more))
      by (q ∷ qs) e =
          let listed : is_member coord_eq (filter t (coordinates b)) q ≡ true =
          subst (λ (ks : List Coord). is_member coord_eq ks q ≡ true) (sym e) (or_first (coord_eq q q) (is_member coord_eq qs q) (coord_equiv.refl q)) in
          let hs = both (is_inside b q) (t q) (sym (member_passing b t q) ∙ listed) in
          (q, hs.0, hs.1)

  none_passes : count_by t (coordinates b) ≡ 0 → (q : Coord) → IsTrue (is_inside b q) → t q ≡ false
  none_passes none q inside = not_true (t q) (λ passes.
      let one = count_at_least b t (q ∷ []) (one_more q [] nothing_apart refl) (λ k m. elim (or_cases (coord_eq k q) false m) [
        | inl s ↦ subst (λ (n : Coord). IsTrue (is_inside b n) × (t n ≡ true)) (sym (coord_exact k q s)) (inside, passes)
        | inr s ↦ absurd (never refl s)
      ]) in
      let size = length-filter t (coordinates b) in
      omega (arith, one, size, none))

module _ {V : Type 0} (bits : Bits) (f : Field V) (level : Level) (p : Coord) where
  pub active_counted : 0 < count f (block_around bits level p) → HasActive bits f level p
  active_counted more =
      let q = some_passes (block_around bits level p) (λ r. (f.cell r).on) more in
      (q.0, number_in_block bits level (block_number bits level p) q.0 q.1, q.2)

  pub inactive_counted : count f (block_around bits level p) ≡ 0 → IsInactive bits f level p
  inactive_counted none q b = none_passes (block_around bits level p) (λ r. (f.cell r).on) none q (inside_numbered bits level (block_number bits level p) q b)
