-- The bytes of all root blocks determine the whole field.
use Rattle.vdb_file.proofs.Common.{◌≡◌, ℕ, suc, ℤ, pos, negsuc, ◌<◌, ◌≤◌, ◌^◌, Bool, true, false, List, get_or, sym, ap, subst, ◌∙◌, arith, inl, inr, FitsSigned, w32, AllByRecursion, Contains, cases_Bool, ints, recursion_from_All, block, block_number, block_numbers, AreBits, Box, coord_eq, coordinates, everywhere, is_inside, Bits, Coord, Upper, number_of_corner, coord_equiv, coord_exact, roots, Field, off, key_bytes, root_body}
use Rattle.std.proofs.Common.{◌*ℤ◌}
use Rattle.std.proofs.Math.Nat.{le-mul_of_pos_right}
use Rattle.std.proofs.Math.Pow.{pow_pos}
use Rattle.std.proofs.lemmas.List.Sums.{AllPass-from_list_all}
use Rattle.std.proofs.lemmas.Map.Made.{is_member-Decides}
use Rattle.vdb_coord.specs.Blocks.{block_bits}
use Rattle.vdb_coord.specs.Components.{number_at}
use Rattle.vdb_coord.specs.Space.{is_between}
use Rattle.vdb_coord.proofs.Boxes.{three}
use Rattle.vdb_coord.proofs.Coordinates.{all_coordinates}
use Rattle.vdb_coord.proofs.InRange.{number_in_range}
use Rattle.vdb_coord.proofs.Meeting.{numbered_fits}
use Rattle.vdb_coord.proofs.Members.{member_coordinates}
use Rattle.vdb_coord.proofs.Nesting.{inside_around}
use Rattle.vdb_file.specs.Bodies.{roots_bytes}
use Rattle.vdb_file.proofs.Unambiguous.{Says, says_map}
use Rattle.vdb_file.proofs.Numbers.{FitsKey, says_key, says_u32}
use Rattle.vdb_file.proofs.Agreement.{Agree, AreAlike, AreValues, says_listed}
use Rattle.vdb_file.proofs.Bodies.{says_root}

-- ---- keys

-- a number fits if a multiple of it does
times_fits : (z : ℤ) (m : ℕ) → 0 < m → FitsSigned w32 (z *ℤ pos m) → FitsSigned w32 z
times_fits (pos n) m h f = let more = le-mul_of_pos_right n h in grind (arith, ints, more)
times_fits (negsuc n) m h f = let more = le-mul_of_pos_right (suc n) h in grind (arith, ints, more)

-- the number of a root block along an axis has 32 bits
number_fits : (k : ℕ) (z : ℤ) → k ≤ 15 → is_between (number_at k (negsuc 2147483647)) (number_at k (pos 2147483647)) z ≡ true → FitsSigned w32 z
number_fits k z few h = times_fits z (2 ^ k) (pow_pos k) (numbered_fits k z few h).0

-- the three components of a root block's key have 32 bits each
pub key_fits : (bits : Bits) → AreBits bits → (k : Coord) → is_inside (block_numbers bits Upper) k ≡ true → FitsKey k
key_fits bits few k inside =
    let n = block_bits bits Upper in
    let small : n ≤ 15 = omega arith in
    let between : ℤ → Bool = is_between (number_at n (negsuc 2147483647)) (number_at n (pos 2147483647)) in
    let hs = three (between k.x) (between k.y) (between k.z) inside in
    record { x = number_fits n k.x small hs.0; y = number_fits n k.y small hs.1; z = number_fits n k.z small hs.2 }

-- what each coordinate of a box has, each coordinate in its list has
pub all_coordinates_have : (P : Coord → Type 0) (b : Box) → ((p : Coord) → is_inside b p ≡ true → P p) → AllByRecursion P (coordinates b)
all_coordinates_have P b h =
    let inside = AllPass-from_list_all (is_inside b) (coordinates b) (all_coordinates (is_inside b) b (λ p i. i)) in
    recursion_from_All P (coordinates b) (λ i d l. h (get_or (coordinates b) i d) (inside i d l))

-- the list of a box's coordinates has each of them
pub coordinates_have : (b : Box) (p : Coord) → is_inside b p ≡ true → Contains (coordinates b) p
coordinates_have b p inside = (is_member-Decides (λ p q. (coord_exact p q, λ e. ap (coord_eq p) (sym e) ∙ coord_equiv.refl p)) (coordinates b) p).0 (member_coordinates b p ∙ inside)

-- ---- fields

module _ {V : Type 0} {eq : V → V → Bool} {value_bytes : V → List ℕ} {P : V → Type 0} (values : AreValues eq value_bytes P) (bits : Bits) (few : AreBits bits) (f g : Field V) (alike : AreAlike P f g) where
  -- the body of a root block determines its cells
  pub says_root_block : (k : Coord) → let b = block bits Upper k in Says (root_body eq value_bytes bits f b) (root_body eq value_bytes bits g b) (Agree f g b)
  says_root_block k =
      let body : Field V → Box → List ℕ = root_body eq value_bytes bits in
      subst (λ n. Says (body f (block bits Upper n)) (body g (block bits Upper n)) (Agree f g (block bits Upper n))) (number_of_corner bits Upper k) (says_root values bits few f g alike (block bits Upper k).min)

  -- the count and the root blocks determine the cells of all coordinates
  pub says_roots : roots eq bits f < 2 ^ 32 → roots eq bits g < 2 ^ 32 → Says (roots_bytes eq value_bytes bits f) (roots_bytes eq value_bytes bits g) (Agree f g everywhere)
  unfolding roots_bytes
  says_roots small_f small_g =
      let numbers = block_numbers bits Upper in
      let body : Field V → Box → List ℕ = root_body eq value_bytes bits in
      says_map (λ all. record {
        same = λ p inside. (all (block_number bits Upper p) (coordinates_have numbers (block_number bits Upper p) (number_in_range bits Upper p inside))).same p (inside_around bits Upper p);
      })
      (says_listed values f g alike (block bits Upper) FitsKey key_bytes says_key (body f) (body g) (λ k fits. says_root_block k) (coordinates numbers) (all_coordinates_have FitsKey numbers (key_fits bits few))
      (says_u32 (roots eq bits f) (roots eq bits g) small_f small_g))

-- two fields are equal if they have the same cells at all coordinates, and the same background beyond those
pub same_field : {V : Type 0} (f g : Field V) → f.background ≡ g.background → Agree f g everywhere → ((p : Coord) → is_inside everywhere p ≡ false → f.cell p ≡ off f.background)
    → ((p : Coord) → is_inside everywhere p ≡ false → g.cell p ≡ off g.background) → f ≡ g
same_field f g e agree out_f out_g =
    let cells : (p : Coord) → f.cell p ≡ g.cell p = λ p.
    elim (cases_Bool (is_inside everywhere p)) [
      | inl inside ↦ agree.same p inside
      | inr outside ↦ out_f p outside ∙ ap off e ∙ sym (out_g p outside)
    ] in
    λ j. record { background = e j; cell = λ p. cells p j }
