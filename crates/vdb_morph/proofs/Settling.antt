-- A box of active voxels in an iteration of erosion, face by face.
use Rattle.vdb_morph.proofs.Common.{◌≡◌, ◌⊎◌, inl, inr, refl, ap, subst, sym, ◌∙◌, ℕ, ◌+◌, ◌<◌, ◌≤◌, ℤ, pos, ◌+ℤ◌, ◌-ℤ◌, Bool, true, false, not, cond, ◌&&◌, List, [], ◌∷◌, length, arith, IsTrue, filter_map, list_all, get_or, ints, faces, neighbour, toward, Box, coord_eq, everywhere, is_inside, Coord, Face, MinusX, PlusX, MinusY, PlusY, MinusZ, PlusZ, and_true, coord_exact, Field, bool_cases, or_cases, is_behind, opposite, Erodes, IsEither, IsEroded}
use Rattle.std.specs.List.{count_by}
use Rattle.std.specs.Set.{is_member}
use Rattle.std.proofs.lemmas.List.Sums.{count_by-le-length, sum_by-cons}
use Rattle.vdb_coord.specs.Space.{coordinates, volume}
use Rattle.vdb_coord.proofs.Members.{member_coordinates}
use Rattle.vdb_coord.proofs.Volume.{length_coordinates}
use Rattle.vdb_tree.specs.ConstantBlocks.{count}
use Rattle.vdb_morph.specs.internal.Eroding.{IsSettled}
use Rattle.vdb_morph.proofs.Eroding.{on_eroded, still_eroded}

-- ---- a box that has as many active voxels as voxels

module _ (p : Coord → Bool) where
  one_less : (b : Bool) (n m : ℕ) → n ≤ m → cond b 1 0 + n ≡ 1 + m → (b ≡ true) × (n ≡ m)
  one_less true n m few e = (refl, omega (arith, e))
  one_less false n m few e = absurd (omega (arith, e, few))

  all_counted : (xs : List Coord) → count_by p xs ≡ length xs → (q : Coord) → is_member coord_eq xs q ≡ true → p q ≡ true
  all_counted [] e q m = cc
  all_counted (x ∷ xs) e q m =
      let parts = one_less (p x) (count_by p xs) (length xs) (count_by-le-length p xs) (sym (sum_by-cons (λ y. cond (p y) 1 0) x xs) ∙ e ∙ omega arith) in
      elim (or_cases (coord_eq q x) (is_member coord_eq xs q) m) [
        | inl same ↦ ap p (coord_exact q x same) ∙ parts.0
        | inr later ↦ all_counted xs parts.1 q later
      ]

-- all of them are active
pub all_active : {V : Type 0} (f : Field V) (box : Box) → count f box ≡ volume box → (q : Coord) → IsTrue (is_inside box q) → (f.cell q).on ≡ true
all_active f box e q i = all_counted (λ p. (f.cell p).on) (coordinates box) (e ∙ sym (length_coordinates box)) q (member_coordinates box q ∙ i)

-- ---- behind a face and back

same_coord : (p q : Coord) → p.x ≡ q.x → p.y ≡ q.y → p.z ≡ q.z → p ≡ q
same_coord p q x y z = λ i. record { x = x i; y = y i; z = z i }

down_up : (x : ℤ) → (x -ℤ pos 1) +ℤ pos 1 ≡ x
down_up x = omega (arith, ints)

up_down : (x : ℤ) → (x +ℤ pos 1) -ℤ pos 1 ≡ x
up_down x = omega (arith, ints)

back : (face : Face) (q : Coord) → toward (opposite face) (toward face q) ≡ q
back MinusX q = same_coord _ q (down_up q.x) refl refl
back PlusX q = same_coord _ q (up_down q.x) refl refl
back MinusY q = same_coord _ q refl (down_up q.y) refl
back PlusY q = same_coord _ q refl (up_down q.y) refl
back MinusZ q = same_coord _ q refl refl (down_up q.z)
back PlusZ q = same_coord _ q refl refl (up_down q.z)

twice : (face : Face) → opposite (opposite face) ≡ face
twice MinusX = refl
twice PlusX = refl
twice MinusY = refl
twice PlusY = refl
twice MinusZ = refl
twice PlusZ = refl

module _ (face : Face) (box : Box) where
  not_left : (b : Bool) → (true && not b) ≡ false → b ≡ true
  not_left true h = refl
  not_left false h = cc

  and_not : (a b : Bool) → b ≡ true → (a && not b) ≡ false
  and_not true b e = rw e refl
  and_not false b e = refl

  -- the neighbour of a voxel of the box lies in it, if it doesn't lie behind the face
  beside_inside : (q : Coord) → IsTrue (is_inside box q) → is_behind face box (toward face q) ≡ false → is_inside box (toward face q) ≡ true
  beside_inside q i out = not_left (is_inside box (toward face q)) (
      sym (ap (λ (b : Bool). b && not (is_inside box (toward face q))) (ap (is_inside box) (back face q) ∙ i)) ∙ out)

  module _ {V : Type 0} (f : Field V) (on : (q : Coord) → IsTrue (is_inside box q) → (f.cell q).on ≡ true) (states : Field Bool) where
    -- nothing lies behind the face
    pub settled_nowhere : ((q : Coord) → IsTrue (is_inside everywhere q) → is_behind face box q ≡ false) → (q : Coord) → IsTrue (is_inside box q) → IsSettled f states face q
    settled_nowhere none q i = inl (λ there. on (toward face q) (beside_inside q i (none (toward face q) there)))

    module _ (slab : Box) (is : (q : Coord) → is_inside slab q ≡ is_behind face box q) where
      -- the voxels behind the face are active
      pub settled_full : count f slab ≡ volume slab → (q : Coord) → IsTrue (is_inside box q) → IsSettled f states face q
      settled_full full q i = inl (λ there. elim (bool_cases (is_behind face box (toward face q))) [
        | inl out ↦ all_active f slab full (toward face q) (is (toward face q) ∙ out)
        | inr within ↦ on (toward face q) (beside_inside q i within)
      ])

      -- a voxel of the box whose neighbour lies in the slab lies behind the other face of the slab
      layered : (q : Coord) → IsTrue (is_inside box q) → is_behind face box (toward face q) ≡ true → is_behind (opposite face) slab q ≡ true
      layered q i out =
          and_true (is_inside slab (toward (opposite (opposite face)) q)) (not (is_inside slab q))
          (ap (λ (g : Face). is_inside slab (toward g q)) (twice face) ∙ (is (toward face q) ∙ out))
          (ap not (is q ∙ and_not (is_inside box (toward (opposite face) q)) (is_inside box q) i))

      -- the voxels behind the slab have the states from after the iteration
      pub settled_layer : (layer : Box) → ((q : Coord) → is_inside layer q ≡ is_behind (opposite face) slab q) → ((q : Coord) → IsTrue (is_inside layer q) → IsEroded f states q)
          → (q : Coord) → IsTrue (is_inside box q) → IsSettled f states face q
      settled_layer layer same done q i = elim (bool_cases (is_behind face box (toward face q))) [
        | inl out ↦ inr (done q (same q ∙ layered q i out))
        | inr within ↦ inl (λ there. on (toward face q) (beside_inside q i within))
      ]

      -- nothing lies behind the slab
      pub settled_no_layer : ((q : Coord) → IsTrue (is_inside everywhere q) → IsTrue (is_inside box q) → is_behind (opposite face) slab q ≡ false) → (q : Coord) → IsTrue (is_inside everywhere q) → IsTrue (is_inside box q) → IsSettled f states face q
      settled_no_layer none q there i = elim (bool_cases (is_behind face box (toward face q))) [
        | inl out ↦ absurd (apart (sym (layered q i out) ∙ none q there i))
        | inr within ↦ inl (λ there. on (toward face q) (beside_inside q i within))
      ]
        where
          apart : true ≡ false → ⊥
          apart e = cc

-- ---- all faces

module _ {V : Type 0} (f : Field V) where
  -- a settled voxel stays settled
  pub still_settled : (s t : Field Bool) → Erodes f s t → (face : Face) (q : Coord) → IsSettled f s face q → IsSettled f t face q
  still_settled s t erodes face q had = elim had [ inl on ↦ inl on | inr done ↦ inr (still_eroded f s t erodes q done) ]

  module _ (states : Field Bool) (q : Coord) where
    one_more : (face : Face) (rest : List Face) → (IsTrue (is_inside everywhere (toward face q)) → (f.cell (toward face q)).on ≡ true)
        → list_all (λ r. (f.cell r).on) (filter_map (λ g. neighbour g q) rest) ≡ true → list_all (λ r. (f.cell r).on) (filter_map (λ g. neighbour g q) (face ∷ rest)) ≡ true
    one_more face rest on more = elim (bool_cases (is_inside everywhere (toward face q))) [
      | inl there ↦ rw there (and_true _ _ (on there) more)
      | inr nowhere ↦ rw nowhere more
    ]

    active_beside : (fs : List Face) → ((face : Face) → IsSettled f states face q) → (list_all (λ r. (f.cell r).on) (filter_map (λ face. neighbour face q) fs) ≡ true) ⊎ IsEroded f states q
    active_beside [] settled = inl refl
    active_beside (face ∷ fs) settled = elim (settled face) [
      | inr done ↦ inr done
      | inl on ↦ elim (active_beside fs settled) [ inl more ↦ inl (one_more face fs on more) | inr done ↦ inr done ]
    ]

    -- a voxel all of whose faces are settled has the state from after the iteration
    pub all_settled : IsEither f states q → ((face : Face) → IsSettled f states face q) → IsEroded f states q
    all_settled either settled = elim (active_beside faces settled) [ inl on ↦ on_eroded f states q either on | inr done ↦ done ]

  -- ---- face after face of a box

  below_or_last : (k n : ℕ) → k < n + 1 → (k < n) ⊎ (k ≡ n)
  below_or_last k n h = grind arith

  module _ (box : Box) where
    -- the voxels of the box are settled at the first n faces
    abbrev pub AreSettled : Field Bool → ℕ → Type 0
    AreSettled states n = (k : ℕ) → k < n → (q : Coord) → IsTrue (is_inside box q) → IsSettled f states (get_or faces k MinusX) q

    -- at no face
    pub settled_none : (states : Field Bool) → AreSettled states 0
    settled_none states k h = absurd (no_less k h)
      where
        no_less : (k : ℕ) → k < 0 → ⊥
        no_less k h = omega (arith, h)

    -- at one more face
    pub settled_more : (s t : Field Bool) → Erodes f s t → (n : ℕ) → AreSettled s n → ((q : Coord) → IsTrue (is_inside box q) → IsSettled f t (get_or faces n MinusX) q) → AreSettled t (n + 1)
    settled_more s t erodes n had here k h q i = elim (below_or_last k n h) [
      | inl before ↦ still_settled s t erodes (get_or faces k MinusX) q (had k before q i)
      | inr last ↦ subst (λ (m : ℕ). IsSettled f t (get_or faces m MinusX) q) (sym last) (here q i)
    ]

    -- at all six, the states are those from after the iteration
    pub settled_whole : (states : Field Bool) → AreSettled states 6 → (q : Coord) → IsTrue (is_inside box q) → IsEither f states q → IsEroded f states q
    settled_whole states had q i either = all_settled states q either each
      where
        each : (face : Face) → IsSettled f states face q
        each MinusX = had 0 (omega arith) q i
        each PlusX = had 1 (omega arith) q i
        each MinusY = had 2 (omega arith) q i
        each PlusY = had 3 (omega arith) q i
        each MinusZ = had 4 (omega arith) q i
        each PlusZ = had 5 (omega arith) q i
