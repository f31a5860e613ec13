-- The coordinates of a box are sorted.
use Rattle.vdb_file.proofs.Common.{◌≡◌, ℕ, zero, suc, ℤ, pos, ◌+◌, ◌<◌, ◌≤◌, List, [], ◌∷◌, ◌++◌, arith, refl, sym, ap, subst, ◌∙◌, inl, inr, ints, map, AllByRecursion, flat_map, range_with_len, Ordering, Less, Box, coord, coord_cmp, Coord}
use Rattle.std.proofs.Common.{◌+ℤ◌, ◌<ℤ◌, subst₂}
use Rattle.std.specs.List.Sorted.{IsStrictlySortedBy}
use Rattle.vdb_coord.specs.Space.{coordinates, extent, range}
use Rattle.vdb_coord.proofs.BlockOrder.{key_less}

-- ---- lists whose members all have something

module _ {K : Type 0} where
  all_append : (P : K → Type 0) (xs ys : List K) → AllByRecursion P xs → AllByRecursion P ys → AllByRecursion P (xs ++ ys)
  all_append P [] ys h k = k
  all_append P (x ∷ xs) ys h k = (h.0, all_append P xs ys h.1 k)

  all_weaker : (P Q : K → Type 0) (xs : List K) → ((x : K) → P x → Q x) → AllByRecursion P xs → AllByRecursion Q xs
  all_weaker P Q [] f h = tt
  all_weaker P Q (x ∷ xs) f h = (f x h.0, all_weaker P Q xs f h.1)

  -- ---- sorted lists

  module _ (cmp : K → K → Ordering) where
    -- two sorted lists, if each member of the first comes before each of the second
    sorted_append : (P Q : K → Type 0) (xs ys : List K) → IsStrictlySortedBy cmp xs → IsStrictlySortedBy cmp ys → AllByRecursion P xs → AllByRecursion Q ys → ((x y : K) → P x → Q y → cmp x y ≡ Less) → IsStrictlySortedBy cmp (xs ++ ys)
    unfolding IsStrictlySortedBy
    sorted_append P Q [] ys s t h k before = t
    sorted_append P Q (x ∷ xs) ys s t h k before =
        (all_append (λ l. cmp x l ≡ Less) xs ys s.0 (all_weaker Q (λ l. cmp x l ≡ Less) ys (λ l q. before x l h.0 q) k), sorted_append P Q xs ys s.1 t h.1 k before)

    module _ (group : ℕ → List K) (In : ℕ → K → Type 0) (each : (k : ℕ) → AllByRecursion (In k) (group k)) (sorted : (k : ℕ) → IsStrictlySortedBy cmp (group k))
        (before : (k l : ℕ) (x y : K) → k < l → In k x → In l y → cmp x y ≡ Less) where
      -- a member of a group from this one on
      abbrev From : ℕ → K → Type 0
      From a x = (k : ℕ) × (a ≤ k) × In k x

      all_from : (a n : ℕ) → AllByRecursion (From a) (flat_map group (range_with_len a n))
      all_from a zero = tt
      all_from a (suc n) =
          all_append (From a) (group a) (flat_map group (range_with_len (a + 1) n)) (all_weaker (In a) (From a) (group a) (λ x h. (a, omega arith, h)) (each a))
          (all_weaker (From (a + 1)) (From a) (flat_map group (range_with_len (a + 1) n)) (λ x h. (h.0, let e = h.1 in omega (arith, e), h.2)) (all_from (a + 1) n))

      -- groups one after another
      sorted_groups : (a n : ℕ) → IsStrictlySortedBy cmp (flat_map group (range_with_len a n))
      unfolding IsStrictlySortedBy
      sorted_groups a zero = tt
      sorted_groups a (suc n) =
          sorted_append (In a) (From (a + 1)) (group a) (flat_map group (range_with_len (a + 1) n)) (sorted a) (sorted_groups (a + 1) n) (each a) (all_from (a + 1) n)
          (λ x y h k. before a k.0 x y (let e = k.1 in omega (arith, e)) h k.2)

-- ---- coordinates

one : (c : Coord) → IsStrictlySortedBy coord_cmp (c ∷ [])
unfolding IsStrictlySortedBy
one c = (tt, tt)

mapped : {A B C : Type 0} (f : A → B) (g : B → List C) (xs : List A) → flat_map g (map f xs) ≡ flat_map (λ x. g (f x)) xs
mapped f g [] = refl
mapped f g (x ∷ xs) = ap (λ l. g (f x) ++ l) (mapped f g xs)

singles : {A B C : Type 0} (f : A → B) (g : B → C) (xs : List A) → map g (map f xs) ≡ flat_map (λ x. g (f x) ∷ []) xs
singles f g [] = refl
singles f g (x ∷ xs) = ap (λ l. g (f x) ∷ l) (singles f g xs)

module _ (b : Box) where
  -- a row of coordinates along z
  abbrev row : ℤ → ℤ → List Coord
  row x y = map (λ z. coord x y z) (range b.min.z b.max.z)

  -- the rows one after another along y
  abbrev slab : ℤ → List Coord
  slab x = flat_map (row x) (range b.min.y b.max.y)

  later : (low : ℤ) (k l : ℕ) → k < l → (low +ℤ pos k) <ℤ (low +ℤ pos l)
  later low k l h = omega (arith, ints, h)

  module _ (x : ℤ) where
    module _ (y : ℤ) where
      abbrev OnRow : ℕ → Coord → Type 0
      OnRow k c = c ≡ coord x y (b.min.z +ℤ pos k)

      sorted_row : IsStrictlySortedBy coord_cmp (row x y)
      sorted_row =
          subst (IsStrictlySortedBy coord_cmp) (sym (singles (λ k. b.min.z +ℤ pos k) (λ z. coord x y z) (range_with_len 0 (extent b.min.z b.max.z))))
          (sorted_groups coord_cmp (λ k. coord x y (b.min.z +ℤ pos k) ∷ []) OnRow (λ k. (refl, tt)) (λ k. one (coord x y (b.min.z +ℤ pos k)))
          (λ k l c d h e f. rw (e, f) (key_less (coord x y (b.min.z +ℤ pos k)) (coord x y (b.min.z +ℤ pos l)) (inr (refl, inr (refl, later b.min.z k l h))))) 0 (extent b.min.z b.max.z))

      in_row : (n : ℕ) (m : ℕ) → AllByRecursion (λ (c : Coord). (c.x ≡ x) × (c.y ≡ y)) (map (λ z. coord x y z) (map (λ k. b.min.z +ℤ pos k) (range_with_len n m)))
      in_row n zero = tt
      in_row n (suc m) = ((refl, refl), in_row (n + 1) m)

    abbrev OnSlab : ℕ → Coord → Type 0
    OnSlab k c = (c.x ≡ x) × (c.y ≡ b.min.y +ℤ pos k)

    sorted_slab : IsStrictlySortedBy coord_cmp (slab x)
    sorted_slab =
        subst (IsStrictlySortedBy coord_cmp) (sym (mapped (λ k. b.min.y +ℤ pos k) (row x) (range_with_len 0 (extent b.min.y b.max.y))))
        (sorted_groups coord_cmp (λ k. row x (b.min.y +ℤ pos k)) OnSlab (λ k. in_row (b.min.y +ℤ pos k) 0 (extent b.min.z b.max.z)) (λ k. sorted_row (b.min.y +ℤ pos k))
        (λ k l c d h e f. key_less c d (inr (e.0 ∙ sym f.0, inl (subst₂ (λ (u v : ℤ). u <ℤ v) (sym e.1) (sym f.1) (later b.min.y k l h))))) 0 (extent b.min.y b.max.y))

    in_slab : (n m : ℕ) → AllByRecursion (λ (c : Coord). c.x ≡ x) (flat_map (row x) (map (λ k. b.min.y +ℤ pos k) (range_with_len n m)))
    in_slab n zero = tt
    in_slab n (suc m) =
        all_append (λ (c : Coord). c.x ≡ x) (row x (b.min.y +ℤ pos n)) (flat_map (row x) (map (λ k. b.min.y +ℤ pos k) (range_with_len (n + 1) m)))
        (all_weaker (λ (c : Coord). (c.x ≡ x) × (c.y ≡ b.min.y +ℤ pos n)) (λ (c : Coord). c.x ≡ x) (row x (b.min.y +ℤ pos n)) (λ c h. h.0) (in_row (b.min.y +ℤ pos n) 0 (extent b.min.z b.max.z)))
        (in_slab (n + 1) m)

  -- the coordinates of a box are sorted
  pub coordinates_sorted : IsStrictlySortedBy coord_cmp (coordinates b)
  unfolding coordinates
  coordinates_sorted =
      subst (IsStrictlySortedBy coord_cmp) (sym (mapped (λ k. b.min.x +ℤ pos k) slab (range_with_len 0 (extent b.min.x b.max.x))))
      (sorted_groups coord_cmp (λ k. slab (b.min.x +ℤ pos k)) (λ k (c : Coord). c.x ≡ b.min.x +ℤ pos k) (λ k. in_slab (b.min.x +ℤ pos k) 0 (extent b.min.y b.max.y)) (λ k. sorted_slab (b.min.x +ℤ pos k))
      (λ k l c d h e f. key_less c d (inl (subst₂ (λ (u v : ℤ). u <ℤ v) (sym e) (sym f) (later b.min.x k l h)))) 0 (extent b.min.x b.max.x))
