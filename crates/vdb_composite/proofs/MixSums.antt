-- Whether some two values of two fields have no sum, and that some root block is background in both.
use Rattle.vdb_composite.proofs.Common.{◌≡◌, inl, inr, refl, sym, ap, ◌∙◌, ℕ, ◌+◌, ◌*◌, ◌<◌, ◌≤◌, Bool, true, false, not, ◌||◌, List, [], ◌∷◌, length, arith, IsTrue, Option, Some, None, IsSome, option_map, is_member, block, block_numbers, AreBits, coord_eq, everywhere, is_inside, Bits, Coord, Upper, coord_equiv, is_background, roots, Field, off, never, uniform_block, bool_cases, or_first, or_second}
use Rattle.std.proofs.Common.{zero, suc, pos, negsuc, ◌&&◌, filter}
use Rattle.std.proofs.Math.Nat.{mul-le-mul_left}
use Rattle.std.specs.Prelude.{is_none}
use Rattle.std.specs.List.{list_all, list_any}
use Rattle.vdb_coord.specs.Blocks.{block_bits}
use Rattle.vdb_coord.specs.Components.{number_at}
use Rattle.vdb_coord.specs.Space.{coordinates, extent, volume}
use Rattle.vdb_coord.proofs.Coordinates.{all_coordinates, each_coordinate}
use Rattle.vdb_coord.proofs.InRange.{corner_in_range, number_of_corner}
use Rattle.vdb_coord.proofs.Members.{member_coordinates}
use Rattle.vdb_coord.proofs.Volume.{length_coordinates}
use Rattle.vdb_tree.specs.Field.{lacks_sum}
use Rattle.vdb_composite.proofs.Mixed.{cell_of}

-- ---- values without a sum

-- one passes the test exactly if not all fail it
any_unless_all : {A : Type 0} (test : A → Bool) (xs : List A) → list_any test xs ≡ not (list_all (λ x. not (test x)) xs)
any_unless_all test [] = refl
any_unless_all test (x ∷ xs) = by (test x) (list_any test xs) (list_all (λ y. not (test y)) xs) (any_unless_all test xs)
  where
    by : (a b c : Bool) → b ≡ not c → (a || b) ≡ not (not a && c)
    by true b c h = refl
    by false b c h = h

some_isnt_none : {A B : Type 0} (make : A → B) (o : Option A) → IsSome (option_map make o) → not (is_none o) ≡ true
some_isnt_none make (Some x) h = refl
some_isnt_none make None h = absurd (never refl h)

module _ {V : Type 0} (plus : V → V → Option V) (f g : Field V) where
  pub lacks : (q : Coord) → IsTrue (is_inside everywhere q) → plus (f.cell q).value (g.cell q).value ≡ None → lacks_sum plus f g ≡ true
  lacks q inside none =
      let test : Coord → Bool = λ p. is_none (plus (f.cell p).value (g.cell p).value) in
      elim (bool_cases (list_all (λ p. not (test p)) (coordinates everywhere))) [
        | inl all ↦ absurd (never (ap not (ap is_none none)) (each_coordinate (λ p. not (test p)) everywhere all q inside))
        | inr some ↦ any_unless_all test (coordinates everywhere) ∙ ap not some
      ]

  pub lacks_none : ((q : Coord) → IsTrue (is_inside everywhere q) → IsSome (option_map (λ (v : V). cell_of ((f.cell q).on || (g.cell q).on) v) (plus (f.cell q).value (g.cell q).value))) → lacks_sum plus f g ≡ false
  lacks_none each =
      let test : Coord → Bool = λ p. is_none (plus (f.cell p).value (g.cell p).value) in
      any_unless_all test (coordinates everywhere)
      ∙ ap not (all_coordinates (λ p. not (test p)) everywhere (λ p inside. some_isnt_none (λ (v : V). cell_of ((f.cell p).on || (g.cell p).on) v) (plus (f.cell p).value (g.cell p).value) (each p inside)))

pub none_from_map : {A B : Type 0} (make : A → B) (o : Option A) → option_map make o ≡ None → o ≡ None
none_from_map make (Some x) h = cc
none_from_map make None h = refl

-- ---- root blocks that are background in both

-- if two tests together pass fewer than the list has, some element passes neither
neither : (s t : Coord → Bool) (xs : List Coord) → length (filter s xs) + length (filter t xs) < length xs → (x : Coord) × (is_member coord_eq xs x ≡ true) × (s x ≡ false) × (t x ≡ false)
neither s t [] h = absurd (nothing h)
  where
    nothing : 0 < 0 → ⊥
    nothing h = omega (arith, h)
neither s t (x ∷ xs) h = by (s x) (t x) refl refl (neither s t xs)
  where
    rest : ((length (filter s xs) + length (filter t xs) < length xs) → (y : Coord) × (is_member coord_eq xs y ≡ true) × (s y ≡ false) × (t y ≡ false)) → length (filter s xs) + length (filter t xs) < length xs
        → (y : Coord) × (is_member coord_eq (x ∷ xs) y ≡ true) × (s y ≡ false) × (t y ≡ false)
    rest before k = let found = before k in (found.0, or_second (coord_eq found.0 x) (is_member coord_eq xs found.0) found.1, found.2, found.3)

    counted : (test : Coord → Bool) → test x ≡ true → length (filter test (x ∷ xs)) ≡ length (filter test xs) + 1
    counted test e = rw e (omega arith)

    passed : (test : Coord → Bool) → test x ≡ false → length (filter test (x ∷ xs)) ≡ length (filter test xs)
    passed test e = rw e refl

    by : (a b : Bool) → s x ≡ a → t x ≡ b → ((length (filter s xs) + length (filter t xs) < length xs) → (y : Coord) × (is_member coord_eq xs y ≡ true) × (s y ≡ false) × (t y ≡ false))
        → (y : Coord) × (is_member coord_eq (x ∷ xs) y ≡ true) × (s y ≡ false) × (t y ≡ false)
    by true true e k before = let m = counted s e in let n = counted t k in rest before (omega (arith, h, m, n))
    by true false e k before = let m = counted s e in let n = passed t k in rest before (omega (arith, h, m, n))
    by false true e k before = let m = passed s e in let n = counted t k in rest before (omega (arith, h, m, n))
    by false false e k before = (x, or_first (coord_eq x x) (is_member coord_eq xs x) (coord_equiv.refl x), e, k)

-- ---- there are many root blocks

-- how many root blocks lie along an axis
abbrev along : ℕ → ℕ
along n = extent (number_at n (negsuc 2147483647)) (number_at n (pos 2147483647))

many_along : (n : ℕ) → n ≤ 15 → 131072 ≤ along n
many_along zero h = let e : along 0 ≡ 4294967296 = refl in omega (arith, e)
many_along (suc zero) h = let e : along 1 ≡ 2147483648 = refl in omega (arith, e)
many_along (suc (suc zero)) h = let e : along 2 ≡ 1073741824 = refl in omega (arith, e)
many_along (suc (suc (suc zero))) h = let e : along 3 ≡ 536870912 = refl in omega (arith, e)
many_along (suc (suc (suc (suc zero)))) h = let e : along 4 ≡ 268435456 = refl in omega (arith, e)
many_along (suc (suc (suc (suc (suc zero))))) h = let e : along 5 ≡ 134217728 = refl in omega (arith, e)
many_along (suc (suc (suc (suc (suc (suc zero)))))) h = let e : along 6 ≡ 67108864 = refl in omega (arith, e)
many_along (suc (suc (suc (suc (suc (suc (suc zero))))))) h = let e : along 7 ≡ 33554432 = refl in omega (arith, e)
many_along (suc (suc (suc (suc (suc (suc (suc (suc zero)))))))) h = let e : along 8 ≡ 16777216 = refl in omega (arith, e)
many_along (suc (suc (suc (suc (suc (suc (suc (suc (suc zero))))))))) h = let e : along 9 ≡ 8388608 = refl in omega (arith, e)
many_along (suc (suc (suc (suc (suc (suc (suc (suc (suc (suc zero)))))))))) h = let e : along 10 ≡ 4194304 = refl in omega (arith, e)
many_along (suc (suc (suc (suc (suc (suc (suc (suc (suc (suc (suc zero))))))))))) h = let e : along 11 ≡ 2097152 = refl in omega (arith, e)
many_along (suc (suc (suc (suc (suc (suc (suc (suc (suc (suc (suc (suc zero)))))))))))) h = let e : along 12 ≡ 1048576 = refl in omega (arith, e)
many_along (suc (suc (suc (suc (suc (suc (suc (suc (suc (suc (suc (suc (suc zero))))))))))))) h = let e : along 13 ≡ 524288 = refl in omega (arith, e)
many_along (suc (suc (suc (suc (suc (suc (suc (suc (suc (suc (suc (suc (suc (suc zero)))))))))))))) h = let e : along 14 ≡ 262144 = refl in omega (arith, e)
many_along (suc (suc (suc (suc (suc (suc (suc (suc (suc (suc (suc (suc (suc (suc (suc zero))))))))))))))) h = let e : along 15 ≡ 131072 = refl in omega (arith, e)
many_along (suc (suc (suc (suc (suc (suc (suc (suc (suc (suc (suc (suc (suc (suc (suc (suc n)))))))))))))))) h = absurd (few n h)
  where
    few : (m : ℕ) → (suc (suc (suc (suc (suc (suc (suc (suc (suc (suc (suc (suc (suc (suc (suc (suc m)))))))))))))))) ≤ 15 → ⊥
    few m h = omega (arith, h)

grown : (e a b : ℕ) → 131072 ≤ e → e * 131072 ≤ a → a * 131072 ≤ b → 8589934592 < b
grown e a b h i j = omega (arith, h, i, j)

cube : (e : ℕ) → 131072 ≤ e → 8589934592 < e * e * e
cube e h = grown e (e * e) (e * e * e) h (mul-le-mul_left e h) (mul-le-mul_left (e * e) h)

bits_few : (bits : Bits) → AreBits bits → block_bits bits Upper ≤ 15
bits_few bits h = let a = h.0.1 in let b = h.1.1 in let c = h.2.1 in omega (arith, a, b, c)

many_blocks : (bits : Bits) → AreBits bits → 8589934592 < volume (block_numbers bits Upper)
many_blocks bits configured = cube (along (block_bits bits Upper)) (many_along (block_bits bits Upper) (bits_few bits configured))

module _ {V : Type 0} (eq : V → V → Bool) (exact : (x y : V) → eq x y ≡ true → x ≡ y) (itself : (x : V) → eq x x ≡ true) (bits : Bits) (configured : AreBits bits) (f g : Field V) where
  -- two trees within 32-bit limits leave some coordinate background in both
  pub background_in_both : (l m : ℕ) → roots eq bits f ≤ l → l < 4294967296 → roots eq bits g ≤ m → m < 4294967296
      → (q : Coord) × IsTrue (is_inside everywhere q) × (f.cell q ≡ off f.background) × (g.cell q ≡ off g.background)
  background_in_both l m a b c d =
      let numbers = block_numbers bits Upper in
      let many = many_blocks bits configured in
      let size = length_coordinates numbers in
      let found = neither (λ n. not (is_background eq f (block bits Upper n))) (λ n. not (is_background eq g (block bits Upper n))) (coordinates numbers) (omega (arith, a, b, c, d, many, size)) in
      let n = found.0 in
      let corner = (block bits Upper n).min in
      let number = number_of_corner bits Upper n in
      let inside : IsTrue (is_inside numbers n) = sym (member_coordinates numbers n) ∙ found.1 in (
        corner,
        corner_in_range bits Upper configured n inside,
        uniform_block eq exact itself bits Upper f n (off f.background) (allowed (is_background eq f (block bits Upper n)) found.2) corner number,
        uniform_block eq exact itself bits Upper g n (off g.background) (allowed (is_background eq g (block bits Upper n)) found.3) corner number,
      )
    where
      allowed : (b : Bool) → not b ≡ false → b ≡ true
      allowed true h = refl
      allowed false h = cc

  -- if the backgrounds have no sum, some coordinate has none
  pub backgrounds_lack : (plus : V → V → Option V) (l m : ℕ) → roots eq bits f ≤ l → l < 4294967296 → roots eq bits g ≤ m → m < 4294967296 → plus f.background g.background ≡ None → lacks_sum plus f g ≡ true
  backgrounds_lack plus l m a b c d none =
      let found = background_in_both l m a b c d in
      lacks plus f g found.0 found.1 (rw (found.2, found.3) none)
