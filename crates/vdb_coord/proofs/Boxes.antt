-- What two boxes have in common.
use Rattle.vdb_coord.proofs.Common.{◌≡◌, ℤ, Bool, true, false, ◌&&◌, int_le, Some, None, arith, refl, ap, sym, ◌∙◌, IfSome, int_max, int_min, ints, box_of, overlap, Box, is_between, is_box, is_inside, Coord}
use Rattle.std.proofs.Common.{if◌then◌else◌}
use Rattle.std.specs.Prelude.{IfNone}

-- ---- booleans

pub both : (a b : Bool) → (a && b) ≡ true → (a ≡ true) × (b ≡ true)
both true true h = (refl, refl)
both true false h = cc
both false b h = cc

pub and_true : (a b : Bool) → a ≡ true → b ≡ true → (a && b) ≡ true
and_true true true h k = refl
and_true true false h k = cc
and_true false b h k = cc

-- the parts of three that hold together
pub three : (a b c : Bool) → (a && b && c) ≡ true → (a ≡ true) × (b ≡ true) × (c ≡ true)
three a b c h = let all = both (a && b) c h in let two = both a b all.0 in (two.0, two.1, all.1)

pub together : (a b c : Bool) → a ≡ true → b ≡ true → c ≡ true → (a && b && c) ≡ true
together a b c h k l = and_true (a && b) c (and_true a b h k) l

-- two tests that follow from each other are equal
pub same_truth : (a b : Bool) → (a ≡ true → b ≡ true) → (b ≡ true → a ≡ true) → a ≡ b
same_truth true b h k = sym (h refl)
same_truth false true h k = k refl
same_truth false false h k = refl

pub not_true : (a : Bool) → (a ≡ true → ⊥) → a ≡ false
not_true true h = absurd (h refl)
not_true false h = refl

and_false : (a : Bool) → (a && false) ≡ false
and_false true = refl
and_false false = refl

and_swap : (p q r s : Bool) → (p && q && (r && s)) ≡ (p && r && (q && s))
and_swap true true true s = refl
and_swap true true false s = refl
and_swap true false true s = refl
and_swap true false false s = refl
and_swap false q r s = refl

and_swap_three : (a b c d e f : Bool) → (a && b && (c && d) && (e && f)) ≡ (a && c && e && (b && d && f))
and_swap_three a b c d e f = ap (λ t. t && (e && f)) (and_swap a b c d) ∙ and_swap (a && c) (b && d) e f

-- ---- numbers

pub below_both : (a b x : ℤ) → int_le (int_max a b) x ≡ (int_le a x && int_le b x)
below_both a b x = grind (arith, ints)

pub above_both : (a b x : ℤ) → int_le x (int_min a b) ≡ (int_le x a && int_le x b)
above_both a b x = grind (arith, ints)

pub le_through : (a x b : ℤ) → int_le a x ≡ true → int_le x b ≡ true → int_le a b ≡ true
le_through a x b h k = grind (arith, ints)

between_both : (a b c d x : ℤ) → is_between (int_max a c) (int_min b d) x ≡ (is_between a b x && is_between c d x)
between_both a b c d x =
    ap (λ t. t && int_le x (int_min b d)) (below_both a c x) ∙ ap (λ t. int_le a x && int_le c x && t) (above_both b d x)
    ∙ and_swap (int_le a x) (int_le c x) (int_le x b) (int_le x d)

-- ---- boxes

-- a box that holds a coordinate has its corners in order
pub box_from_inside : (b : Box) (p : Coord) → is_inside b p ≡ true → is_box b ≡ true
box_from_inside b p h =
    let hs = three (is_between b.min.x b.max.x p.x) (is_between b.min.y b.max.y p.y) (is_between b.min.z b.max.z p.z) h in
    let ordered : (low high x : ℤ) → is_between low high x ≡ true → int_le low high ≡ true
    = λ low high x k. let ks = both (int_le low x) (int_le x high) k in le_through low x high ks.0 ks.1 in
    together (int_le b.min.x b.max.x) (int_le b.min.y b.max.y) (int_le b.min.z b.max.z) (ordered b.min.x b.max.x p.x hs.0) (ordered b.min.y b.max.y p.y hs.1) (ordered b.min.z b.max.z p.z hs.2)

abbrev common : Box → Box → Box
common a b = record {
  min = record { x = int_max a.min.x b.min.x; y = int_max a.min.y b.min.y; z = int_max a.min.z b.min.z };
  max = record { x = int_min a.max.x b.max.x; y = int_min a.max.y b.max.y; z = int_min a.max.z b.max.z };
}

inside_common : (a b : Box) (p : Coord) → is_inside (common a b) p ≡ (is_inside a p && is_inside b p)
inside_common a b p =
    let x = between_both a.min.x a.max.x b.min.x b.max.x p.x in
    let y = between_both a.min.y a.max.y b.min.y b.max.y p.y in
    let z = between_both a.min.z a.max.z b.min.z b.max.z p.z in
    rw (x, y, z) (and_swap_three (is_between a.min.x a.max.x p.x) (is_between b.min.x b.max.x p.x) (is_between a.min.y a.max.y p.y)
    (is_between b.min.y b.max.y p.y) (is_between a.min.z a.max.z p.z) (is_between b.min.z b.max.z p.z))

some_if : {X : Type 0} (t : Bool) (x : X) (P : X → Type 0) → P x → IfSome (if t then Some x else None) P
some_if true x P h = h
some_if false x P h = tt

none_if : {X : Type 0} (t : Bool) (x : X) (P : Type 0) → (t ≡ false → P) → IfNone (if t then Some x else None) P
none_if true x P h = tt
none_if false x P h = h refl

-- the overlap holds what both hold
pub overlap_both : (a b : Box) → IfSome (overlap a b) (λ c. (p : Coord) → is_inside c p ≡ (is_inside a p && is_inside b p))
overlap_both a b = some_if (is_box (common a b)) (common a b) (λ c. (p : Coord) → is_inside c p ≡ (is_inside a p && is_inside b p)) (inside_common a b)

-- if the overlap is none, no coordinate is inside both
pub overlap_none : (a b : Box) → IfNone (overlap a b) ((p : Coord) → (is_inside a p && is_inside b p) ≡ false)
overlap_none a b = none_if (is_box (common a b)) (common a b) ((p : Coord) → (is_inside a p && is_inside b p) ≡ false)
    (λ e p. not_true (is_inside a p && is_inside b p) (λ h.
    let never : false ≡ true = sym e ∙ box_from_inside (common a b) p (inside_common a b p ∙ h) in cc))

-- what an answer of `box_of` says
pub box_of_none : (min max : Coord) → box_of min max ≡ None → is_box (record { min = min; max = max }) ≡ false
box_of_none min max h = unmade (is_box (record { min = min; max = max })) (record { min = min; max = max }) h
  where
    unmade : (t : Bool) (b : Box) → (if t then Some b else None) ≡ None → t ≡ false
    unmade true b e = cc
    unmade false b e = refl

pub box_of_some : (min max : Coord) (b : Box) → box_of min max ≡ Some b → (is_box (record { min = min; max = max }) ≡ true) × (b ≡ record { min = min; max = max })
box_of_some min max b h = made (is_box (record { min = min; max = max })) (record { min = min; max = max }) h
  where
    made : (t : Bool) (c : Box) → (if t then Some c else None) ≡ Some b → (t ≡ true) × (b ≡ c)
    made true c e = (refl, cc)
    made false c e = cc
