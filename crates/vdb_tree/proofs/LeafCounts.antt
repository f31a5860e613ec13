-- The active voxels of a leaf extent, counted by the states of its leaf.
use Rattle.vdb_tree.proofs.Common.{◌≡◌, ◌⊎◌, inl, inr, sym, ap, ◌∙◌, refl, subst, ℕ, zero, suc, ◌+◌, ◌<◌, ◌≤◌, Bool, true, false, ◌&&◌, cond, List, [], ◌∷◌, length, arith, IsTrue, filter, is_member, length-filter, block_around, block_number, entries, offset, sub_block, AreBits, Box, coord_eq, coordinates, everywhere, is_inside, Bits, Coord, Leaf, and_true, both, not_true, count_by_members, block_in_range, coord_equiv, coord_exact, corner_of_entry, inside_numbered, number_in_block, voxel_from_leaf, offset_below, is_on, Field, off, IsLeafAround, count, Cell}
use Rattle.std.specs.List.{IsDistinct, range_with_len}
use Rattle.vdb_coord.proofs.Boxes.{same_truth}
use Rattle.vdb_mask.specs.Mask.{on_count}
use Rattle.vdb_node.specs.Leaf.{Leaf as LeafOf}
use Rattle.vdb_tree.proofs.Rooted.{one_more, or_cases, or_first, or_second}

nothing_apart : IsDistinct coord_eq []
unfolding IsDistinct
nothing_apart = tt

first_or_later : (i j : ℕ) → i ≤ j → (i ≡ j) ⊎ (i + 1 ≤ j)
first_or_later i j h = grind arith

module _ (bits : Bits) (p : Coord) (mask : List Bool) where
  -- the voxel of an entry of the leaf around p
  abbrev corner : ℕ → Coord
  corner i = (sub_block bits Leaf (block_around bits Leaf p) i).min

  -- the voxels of those of m entries, from entry a on, whose states are on
  abbrev keys : ℕ → ℕ → List Coord
  keys a zero = []
  keys a (suc m) = cond (is_on mask a) (corner a ∷ keys (a + 1) m) (keys (a + 1) m)

  size : (a m : ℕ) → length (keys a m) ≡ length (filter (is_on mask) (range_with_len a m))
  size a zero = refl
  size a (suc m) = step (is_on mask a) (keys (a + 1) m) (filter (is_on mask) (range_with_len (a + 1) m)) (size (a + 1) m)
    where
      step : (b : Bool) (ks : List Coord) (is : List ℕ) → length ks ≡ length is → length (cond b (corner a ∷ ks) ks) ≡ length (cond b (a ∷ is) is)
      step true ks is e = ap suc e
      step false ks is e = e

  -- a voxel of the leaf around p, in an entry from a on, whose state is on
  abbrev IsOnFrom : ℕ → Coord → Type 0
  IsOnFrom a q = (block_number bits Leaf q ≡ block_number bits Leaf p) × (a ≤ offset bits Leaf q) × (is_on mask (offset bits Leaf q) ≡ true)

  here : (a : ℕ) (q : Coord) → a < entries bits Leaf → is_on mask a ≡ true → coord_eq q (corner a) ≡ true → IsOnFrom a q
  here a q small on e =
      let at = corner_of_entry bits Leaf p a small in
      let same = sym (coord_exact q (corner a) e) in
      subst (IsOnFrom a) same (at.0, (let o = at.1 in omega (arith, o)), ap (is_on mask) at.1 ∙ on)

  further : (a : ℕ) (q : Coord) → IsOnFrom (a + 1) q → IsOnFrom a q
  further a q r = (r.0, (let o = r.1 in omega (arith, o)), r.2)

  sound : (a m : ℕ) → a + m ≤ entries bits Leaf → (q : Coord) → is_member coord_eq (keys a m) q ≡ true → IsOnFrom a q
  sound a zero small q h = cc
  sound a (suc m) small q h = step (sound (a + 1) m (omega (arith, small)) q) (is_on mask a) refl h
    where
      step : (is_member coord_eq (keys (a + 1) m) q ≡ true → IsOnFrom (a + 1) q) → (b : Bool) → is_on mask a ≡ b → is_member coord_eq (cond b (corner a ∷ keys (a + 1) m) (keys (a + 1) m)) q ≡ true → IsOnFrom a q
      step later true on k = elim (or_cases (coord_eq q (corner a)) (is_member coord_eq (keys (a + 1) m) q) k) [
        | inl e ↦ here a q (omega (arith, small)) on e
        | inr l ↦ further a q (later l)
      ]
      step later false on k = further a q (later k)

  complete : (a m : ℕ) → a + m ≤ entries bits Leaf → (q : Coord) → IsOnFrom a q → offset bits Leaf q < a + m → is_member coord_eq (keys a m) q ≡ true
  complete a zero small q h before = absurd (let from = h.1 in omega (arith, from, before))
  complete a (suc m) small q h before =
      step (λ from. complete (a + 1) m (omega (arith, small)) q (h.0, from, h.2) (omega (arith, before))) (is_on mask a) refl
    where
      found : a ≡ offset bits Leaf q → coord_eq q (corner a) ≡ true
      found e =
          let at = corner_of_entry bits Leaf p a (omega (arith, small)) in
          let same : q ≡ corner a = voxel_from_leaf bits q (corner a) (h.0 ∙ sym at.0) (sym e ∙ sym at.1) in
          subst (λ (r : Coord). coord_eq q r ≡ true) same (coord_equiv.refl q)

      step : (a + 1 ≤ offset bits Leaf q → is_member coord_eq (keys (a + 1) m) q ≡ true) → (b : Bool) → is_on mask a ≡ b → is_member coord_eq (cond b (corner a ∷ keys (a + 1) m) (keys (a + 1) m)) q ≡ true
      step rest true on = elim (first_or_later a (offset bits Leaf q) h.1) [
        | inl e ↦ or_first (coord_eq q (corner a)) (is_member coord_eq (keys (a + 1) m) q) (found e)
        | inr l ↦ or_second (coord_eq q (corner a)) (is_member coord_eq (keys (a + 1) m) q) (rest l)
      ]
      step rest false off = elim (first_or_later a (offset bits Leaf q) h.1) [
        | inl e ↦ absurd (let never : false ≡ true = sym off ∙ ap (is_on mask) e ∙ h.2 in cc)
        | inr l ↦ rest l
      ]

  apart : (a m : ℕ) → a + m ≤ entries bits Leaf → IsDistinct coord_eq (keys a m)
  apart a zero small = nothing_apart
  apart a (suc m) small = step (apart (a + 1) m (omega (arith, small))) (is_on mask a)
    where
      alone : is_member coord_eq (keys (a + 1) m) (corner a) ≡ false
      alone = not_true (is_member coord_eq (keys (a + 1) m) (corner a)) (λ h.
          let from = (sound (a + 1) m (omega (arith, small)) (corner a) h).1 in
          let at = (corner_of_entry bits Leaf p a (omega (arith, small))).1 in
          omega (arith, from, at))

      step : IsDistinct coord_eq (keys (a + 1) m) → (b : Bool) → IsDistinct coord_eq (cond b (corner a ∷ keys (a + 1) m) (keys (a + 1) m))
      step others true = one_more (corner a) (keys (a + 1) m) others alone
      step others false = others

  -- all entries: the voxels of the block whose states are on
  abbrev block : Box
  block = block_around bits Leaf p

  all : (t : Coord → Bool) → ((q : Coord) → is_inside block q ≡ true → t q ≡ is_on mask (offset bits Leaf q)) → (q : Coord) → is_member coord_eq (keys 0 (entries bits Leaf)) q ≡ (is_inside block q && t q)
  all t states q =
      same_truth (is_member coord_eq (keys 0 (entries bits Leaf)) q) (is_inside block q && t q)
      (λ h.
      let r = sound 0 (entries bits Leaf) (omega arith) q h in
      let inside = inside_numbered bits Leaf (block_number bits Leaf p) q r.0 in
      and_true (is_inside block q) (t q) inside (states q inside ∙ r.2))
      (λ h.
      let hs = both (is_inside block q) (t q) h in
      let within = offset_below bits Leaf q in
      complete 0 (entries bits Leaf) (omega arith) q (number_in_block bits Leaf (block_number bits Leaf p) q hs.0, omega arith, sym (states q hs.0) ∙ hs.1) (omega (arith, within)))

  block_counted : (t : Coord → Bool) → ((q : Coord) → is_inside block q ≡ true → t q ≡ is_on mask (offset bits Leaf q)) → length (filter t (coordinates block)) ≡ on_count mask (entries bits Leaf)
  unfolding on_count
  block_counted t states = count_by_members block t (keys 0 (entries bits Leaf)) (apart 0 (entries bits Leaf) (omega arith)) (all t states)
      ∙ size 0 (entries bits Leaf) ∙ length-filter (is_on mask) (range_with_len 0 (entries bits Leaf))

-- the block of a leaf
pub leaf_counted : {V : Type 0} (bits : Bits) → AreBits bits → (f : Field V) (p : Coord) (leaf : LeafOf V) → IsTrue (is_inside everywhere p) → IsLeafAround bits f p leaf
    → on_count leaf.states (entries bits Leaf) ≡ count f (block_around bits Leaf p)
leaf_counted bits configured f p leaf here around =
    let on : Coord → Bool = λ q. (f.cell q).on in
    sym (block_counted bits p leaf.states on (λ q inside.
    let same = number_in_block bits Leaf (block_number bits Leaf p) q inside in
    ap (λ (c : Cell _). c.on) (around q (block_in_range bits Leaf configured p q here same) same)))
    ∙ length-filter on (coordinates (block_around bits Leaf p))
