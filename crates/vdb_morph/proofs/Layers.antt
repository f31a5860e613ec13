-- The voxels right behind a face of a box: those of the box at the face, a step on.
use Rattle.vdb_morph.proofs.Common.{◌≡◌, ◌∙◌, sym, refl, ap, true, false, Bool, not, ◌&&◌, if◌then◌else◌, ℤ, pos, ◌+ℤ◌, ◌-ℤ◌, Option, Some, None, arith, IfSome, IsNone, ints, is_bounds, neighbour, toward, Box, everywhere, is_box, is_inside, is_within, Coord, Face, MinusX, PlusX, MinusY, PlusY, MinusZ, PlusZ, both, box_from_inside, not_true, is_behind, layer}
use Rattle.std.proofs.Common.{negsuc, int_le}
use Rattle.vdb_coord.specs.Boxes.{box_of}
use Rattle.vdb_coord.specs.Space.{is_between}
use Rattle.vdb_coord.proofs.Boxes.{box_of_none, box_of_some, three, together}

-- ---- one axis

-- the numbers right before some numbers, and right after them
before : (a b x : ℤ) → int_le a b ≡ true → is_between (a -ℤ pos 1) (a -ℤ pos 1) x ≡ (is_between a b (x +ℤ pos 1) && not (is_between a b x))
before a b x h = grind (arith, ints)

after : (a b x : ℤ) → int_le a b ≡ true → is_between (b +ℤ pos 1) (b +ℤ pos 1) x ≡ (is_between a b (x -ℤ pos 1) && not (is_between a b x))
after a b x h = grind (arith, ints)

only : (a x : ℤ) → is_between a a x ≡ true → x ≡ a
only a x h = grind (arith, ints)

along_x : (s x y z : Bool) → ((s && not x) && y && z) ≡ ((s && y && z) && not (x && y && z))
along_x false x y z = refl
along_x true true true true = refl
along_x true true true false = refl
along_x true true false z = refl
along_x true false true true = refl
along_x true false true false = refl
along_x true false false z = refl

along_y : (x s y z : Bool) → (x && (s && not y) && z) ≡ ((x && s && z) && not (x && y && z))
along_y false s y z = refl
along_y true false y z = refl
along_y true true true true = refl
along_y true true true false = refl
along_y true true false true = refl
along_y true true false false = refl

along_z : (x y s z : Bool) → (x && y && (s && not z)) ≡ ((x && y && s) && not (x && y && z))
along_z false y s z = refl
along_z true false s z = refl
along_z true true s z = refl

-- ---- boxes

-- the layer at a face, moved by a step
abbrev slab : Face → Box → Box
slab face b = record { min = toward face (layer face b).min; max = toward face (layer face b).max }

-- contains the voxels behind the face
slab_inside : (b : Box) → is_box b ≡ true → (face : Face) (q : Coord) → is_inside (slab face b) q ≡ is_behind face b q
slab_inside b is MinusX q =
    let ordered = (three (int_le b.min.x b.max.x) (int_le b.min.y b.max.y) (int_le b.min.z b.max.z) is).0 in
    let y = is_between b.min.y b.max.y q.y in
    let z = is_between b.min.z b.max.z q.z in
    ap (λ t. t && y && z) (before b.min.x b.max.x q.x ordered) ∙ along_x (is_between b.min.x b.max.x (q.x +ℤ pos 1)) (is_between b.min.x b.max.x q.x) y z
slab_inside b is PlusX q =
    let ordered = (three (int_le b.min.x b.max.x) (int_le b.min.y b.max.y) (int_le b.min.z b.max.z) is).0 in
    let y = is_between b.min.y b.max.y q.y in
    let z = is_between b.min.z b.max.z q.z in
    ap (λ t. t && y && z) (after b.min.x b.max.x q.x ordered) ∙ along_x (is_between b.min.x b.max.x (q.x -ℤ pos 1)) (is_between b.min.x b.max.x q.x) y z
slab_inside b is MinusY q =
    let ordered = (three (int_le b.min.x b.max.x) (int_le b.min.y b.max.y) (int_le b.min.z b.max.z) is).1 in
    let x = is_between b.min.x b.max.x q.x in
    let z = is_between b.min.z b.max.z q.z in
    ap (λ t. x && t && z) (before b.min.y b.max.y q.y ordered) ∙ along_y x (is_between b.min.y b.max.y (q.y +ℤ pos 1)) (is_between b.min.y b.max.y q.y) z
slab_inside b is PlusY q =
    let ordered = (three (int_le b.min.x b.max.x) (int_le b.min.y b.max.y) (int_le b.min.z b.max.z) is).1 in
    let x = is_between b.min.x b.max.x q.x in
    let z = is_between b.min.z b.max.z q.z in
    ap (λ t. x && t && z) (after b.min.y b.max.y q.y ordered) ∙ along_y x (is_between b.min.y b.max.y (q.y -ℤ pos 1)) (is_between b.min.y b.max.y q.y) z
slab_inside b is MinusZ q =
    let ordered = (three (int_le b.min.x b.max.x) (int_le b.min.y b.max.y) (int_le b.min.z b.max.z) is).2 in
    let x = is_between b.min.x b.max.x q.x in
    let y = is_between b.min.y b.max.y q.y in
    ap (λ t. x && y && t) (before b.min.z b.max.z q.z ordered) ∙ along_z x y (is_between b.min.z b.max.z (q.z +ℤ pos 1)) (is_between b.min.z b.max.z q.z)
slab_inside b is PlusZ q =
    let ordered = (three (int_le b.min.x b.max.x) (int_le b.min.y b.max.y) (int_le b.min.z b.max.z) is).2 in
    let x = is_between b.min.x b.max.x q.x in
    let y = is_between b.min.y b.max.y q.y in
    ap (λ t. x && y && t) (after b.min.z b.max.z q.z ordered) ∙ along_z x y (is_between b.min.z b.max.z (q.z -ℤ pos 1)) (is_between b.min.z b.max.z q.z)

-- ---- the range

abbrev in_range : ℤ → Bool
in_range x = is_between (negsuc 2147483647) (pos 2147483647) x

-- the component along a face's axis
abbrev component : Face → Coord → ℤ
component MinusX p = p.x
component PlusX p = p.x
component MinusY p = p.y
component PlusY p = p.y
component MinusZ p = p.z
component PlusZ p = p.z

-- is in the range
ranged : (face : Face) (q : Coord) → is_inside everywhere q ≡ true → in_range (component face q) ≡ true
ranged MinusX q h = (three (in_range q.x) (in_range q.y) (in_range q.z) h).0
ranged PlusX q h = (three (in_range q.x) (in_range q.y) (in_range q.z) h).0
ranged MinusY q h = (three (in_range q.x) (in_range q.y) (in_range q.z) h).1
ranged PlusY q h = (three (in_range q.x) (in_range q.y) (in_range q.z) h).1
ranged MinusZ q h = (three (in_range q.x) (in_range q.y) (in_range q.z) h).2
ranged PlusZ q h = (three (in_range q.x) (in_range q.y) (in_range q.z) h).2

-- and a step behind the face changes only this component
kept : (face : Face) (q : Coord) → is_inside everywhere q ≡ true → in_range (component face (toward face q)) ≡ true → is_inside everywhere (toward face q) ≡ true
kept MinusX q h k = let hs = three (in_range q.x) (in_range q.y) (in_range q.z) h in together (in_range (q.x -ℤ pos 1)) (in_range q.y) (in_range q.z) k hs.1 hs.2
kept PlusX q h k = let hs = three (in_range q.x) (in_range q.y) (in_range q.z) h in together (in_range (q.x +ℤ pos 1)) (in_range q.y) (in_range q.z) k hs.1 hs.2
kept MinusY q h k = let hs = three (in_range q.x) (in_range q.y) (in_range q.z) h in together (in_range q.x) (in_range (q.y -ℤ pos 1)) (in_range q.z) hs.0 k hs.2
kept PlusY q h k = let hs = three (in_range q.x) (in_range q.y) (in_range q.z) h in together (in_range q.x) (in_range (q.y +ℤ pos 1)) (in_range q.z) hs.0 k hs.2
kept MinusZ q h k = let hs = three (in_range q.x) (in_range q.y) (in_range q.z) h in together (in_range q.x) (in_range q.y) (in_range (q.z -ℤ pos 1)) hs.0 hs.1 k
kept PlusZ q h k = let hs = three (in_range q.x) (in_range q.y) (in_range q.z) h in together (in_range q.x) (in_range q.y) (in_range (q.z +ℤ pos 1)) hs.0 hs.1 k

-- it is the same everywhere in the slab
level : (face : Face) (b : Box) (q : Coord) → is_inside (slab face b) q ≡ true → (component face q ≡ component face (slab face b).min) × (component face q ≡ component face (slab face b).max)
level MinusX b q h = let e = only (b.min.x -ℤ pos 1) q.x (three (is_between (b.min.x -ℤ pos 1) (b.min.x -ℤ pos 1) q.x) (is_between b.min.y b.max.y q.y) (is_between b.min.z b.max.z q.z) h).0 in (e, e)
level PlusX b q h = let e = only (b.max.x +ℤ pos 1) q.x (three (is_between (b.max.x +ℤ pos 1) (b.max.x +ℤ pos 1) q.x) (is_between b.min.y b.max.y q.y) (is_between b.min.z b.max.z q.z) h).0 in (e, e)
level MinusY b q h = let e = only (b.min.y -ℤ pos 1) q.y (three (is_between b.min.x b.max.x q.x) (is_between (b.min.y -ℤ pos 1) (b.min.y -ℤ pos 1) q.y) (is_between b.min.z b.max.z q.z) h).1 in (e, e)
level PlusY b q h = let e = only (b.max.y +ℤ pos 1) q.y (three (is_between b.min.x b.max.x q.x) (is_between (b.max.y +ℤ pos 1) (b.max.y +ℤ pos 1) q.y) (is_between b.min.z b.max.z q.z) h).1 in (e, e)
level MinusZ b q h = let e = only (b.min.z -ℤ pos 1) q.z (three (is_between b.min.x b.max.x q.x) (is_between b.min.y b.max.y q.y) (is_between (b.min.z -ℤ pos 1) (b.min.z -ℤ pos 1) q.z) h).2 in (e, e)
level PlusZ b q h = let e = only (b.max.z +ℤ pos 1) q.z (three (is_between b.min.x b.max.x q.x) (is_between b.min.y b.max.y q.y) (is_between (b.max.z +ℤ pos 1) (b.max.z +ℤ pos 1) q.z) h).2 in (e, e)

-- ---- neighbours

pub apart : false ≡ true → ⊥
apart e = cc

pub no_neighbour : (t : Bool) (p : Coord) → (if t then Some p else None) ≡ None → t ≡ false
no_neighbour true p e = cc
no_neighbour false p e = refl

pub some_neighbour : (t : Bool) (p r : Coord) → (if t then Some p else None) ≡ Some r → r ≡ p
some_neighbour true p r e = cc
some_neighbour false p r e = cc

module _ (b : Box) (bounds : is_bounds b ≡ true) where
  is : is_box b ≡ true
  is = (both (is_box b) (is_within b everywhere) bounds).0

  corners : (is_inside everywhere b.min ≡ true) × (is_inside everywhere b.max ≡ true)
  corners = both (is_inside everywhere b.min) (is_inside everywhere b.max) (both (is_box b) (is_within b everywhere) bounds).1

  low : (in_range b.min.x ≡ true) × (in_range b.min.y ≡ true) × (in_range b.min.z ≡ true)
  low = three (in_range b.min.x) (in_range b.min.y) (in_range b.min.z) corners.0

  high : (in_range b.max.x ≡ true) × (in_range b.max.y ≡ true) × (in_range b.max.z ≡ true)
  high = three (in_range b.max.x) (in_range b.max.y) (in_range b.max.z) corners.1

  -- the corners of a layer are in the range
  layered : (face : Face) → (is_inside everywhere (layer face b).min ≡ true) × (is_inside everywhere (layer face b).max ≡ true)
  layered MinusX = (corners.0, together (in_range b.min.x) (in_range b.max.y) (in_range b.max.z) low.0 high.1 high.2)
  layered PlusX = (together (in_range b.max.x) (in_range b.min.y) (in_range b.min.z) high.0 low.1 low.2, corners.1)
  layered MinusY = (corners.0, together (in_range b.max.x) (in_range b.min.y) (in_range b.max.z) high.0 low.1 high.2)
  layered PlusY = (together (in_range b.min.x) (in_range b.max.y) (in_range b.min.z) low.0 high.1 low.2, corners.1)
  layered MinusZ = (corners.0, together (in_range b.max.x) (in_range b.max.y) (in_range b.min.z) high.0 high.1 low.2)
  layered PlusZ = (together (in_range b.min.x) (in_range b.min.y) (in_range b.max.z) low.0 low.1 high.2, corners.1)

  -- if a coordinate of the range lies behind the face, the corners of the slab do
  reached : (face : Face) (q : Coord) → is_inside everywhere q ≡ true → is_behind face b q ≡ true
      → (is_inside everywhere (slab face b).min ≡ true) × (is_inside everywhere (slab face b).max ≡ true)
  reached face q inside h =
      let e = level face b q (slab_inside b is face q ∙ h) in
      let here = ranged face q inside in
      let ends = layered face in
      (kept face (layer face b).min ends.0 (sym (ap in_range e.0) ∙ here), kept face (layer face b).max ends.1 (sym (ap in_range e.1) ∙ here))

  -- a corner at the face without a neighbour
  stuck : (face : Face) (q : Coord) → is_inside everywhere q ≡ true → (corner : Coord) → (is_behind face b q ≡ true → is_inside everywhere (toward face corner) ≡ true) → neighbour face corner ≡ None → is_behind face b q ≡ false
  stuck face q inside corner in_reach none =
      not_true (is_behind face b q) (λ h. apart (sym (no_neighbour (is_inside everywhere (toward face corner)) (toward face corner) none) ∙ in_reach h))

  pub no_least : (face : Face) (p : Coord) → p ≡ (layer face b).min → neighbour face p ≡ None → (q : Coord) → is_inside everywhere q ≡ true → is_behind face b q ≡ false
  no_least face p e none q inside = stuck face q inside (layer face b).min (λ h. (reached face q inside h).0) (ap (neighbour face) (sym e) ∙ none)

  pub no_greatest : (face : Face) (p : Coord) → p ≡ (layer face b).max → neighbour face p ≡ None → (q : Coord) → is_inside everywhere q ≡ true → is_behind face b q ≡ false
  no_greatest face p e none q inside = stuck face q inside (layer face b).max (λ h. (reached face q inside h).1) (ap (neighbour face) (sym e) ∙ none)

  -- the neighbours of the corners are the corners of the slab
  module _ (face : Face) (p q r s : Coord) (least : p ≡ (layer face b).min) (greatest : q ≡ (layer face b).max) (one : neighbour face p ≡ Some r) (other : neighbour face q ≡ Some s) where
    ends : record { min = r; max = s } ≡ slab face b
    ends =
        let e = some_neighbour (is_inside everywhere (slab face b).min) (slab face b).min r (ap (neighbour face) (sym least) ∙ one) in
        let f = some_neighbour (is_inside everywhere (slab face b).max) (slab face b).max s (ap (neighbour face) (sym greatest) ∙ other) in
        λ i. record { min = e i; max = f i }

    pub slab_some : (o : Option Box) → o ≡ box_of r s → IfSome o (λ slab. (t : Coord) → is_inside slab t ≡ is_behind face b t)
    slab_some None e = tt
    slab_some (Some c) e = λ t. ap (λ (c : Box). is_inside c t) ((box_of_some r s c (sym e)).1 ∙ ends) ∙ slab_inside b is face t

    pub slab_none : (o : Option Box) → o ≡ box_of r s → IsNone o → (t : Coord) → is_behind face b t ≡ false
    slab_none (Some c) e none t = absurd (apart (sym none))
    slab_none None e none t = not_true (is_behind face b t) (λ h.
        apart (sym (box_of_none r s (sym e)) ∙ box_from_inside (record { min = r; max = s }) t (ap (λ (c : Box). is_inside c t) ends ∙ slab_inside b is face t ∙ h)))
