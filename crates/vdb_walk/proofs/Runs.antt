-- Runs of voxels that follow one another along z, with their values in groups of eight.
use Rattle.vdb_walk.proofs.Common.{◌≡◌, ◌∙◌, Bool, false, is_some, option_map, IfSome, List, entries, offset_below, IsNextSet, ap, sym, subst, Option, None, ℕ, ℤ, pos, ◌+◌, ◌-◌, ◌*◌, ◌<◌, ◌≤◌, ◌^◌, ◌+ℤ◌, ◌-ℤ◌, ◌≤ℤ◌, ◌<ℤ◌, unsigned_abs, true, Some, arith, int_min, ints, offset, is_bounds, Box, coord, everywhere, is_box, is_inside, is_within, Bits, Coord, Leaf, both, within_each, inside_parts, off, Layout, field_of, IsPartOfLeaf, TreeWalk, Cell, IsActivePast, IsFirst, IsListing, Held}
use Rattle.std.proofs.Common.{◌/◌, ◌%◌, negsuc, slice_index_or}
use Rattle.std.proofs.lemmas.Int.{clamps}
use Rattle.std.proofs.lemmas.Nat.{pow-add}
use Rattle.vdb_node.specs.Leaf.{Leaf as LeafOf}
use Rattle.vdb_walk.specs.declared.held.Run.{Run}
use Rattle.vdb_walk.specs.internal.Listings.{IsAhead, IsRun, IsRunOf}
use Rattle.vdb_walk.proofs.LeafSeeks.{in_first_block, later_in_leaf, past_entry}
use Rattle.vdb_walk.proofs.VoxelRows.{further_voxel}
use Rattle.vdb_walk.proofs.PartSeeks.{first_of_all, listing_past}

-- ---- groups of eight entries

-- the entries of a leaf are groups of eight
pub group_within : (b entry : ℕ) → 1 ≤ b → entry < 2 ^ (3 * b) → entry / 8 * 8 + 8 ≤ 2 ^ (3 * b)
group_within b entry some h =
    let more : 3 * b ≡ 3 + (3 * b - 3) = omega (arith, some) in
    let groups : 2 ^ (3 * b) ≡ 8 * 2 ^ (3 * b - 3) = ap (λ (k : ℕ). 2 ^ k) more ∙ pow-add 2 3 (3 * b - 3) in
    omega (arith, h, groups)

-- an entry of the group is where its rest by eight says
pub in_group : (entry k : ℕ) → entry < k → k < entry / 8 * 8 + 8 → entry / 8 * 8 + k % 8 ≡ k
in_group entry k h l = omega (arith, h, l)

pub same_least : (z : ℤ) → int_min z z ≡ z
same_least z = grind (arith, ints, clamps)

-- ---- the next voxel of a leaf

pub set_at : (bits : Bits) (states : List Bool) (box : Box) (from : ℕ) (found : Option (ℕ × Coord)) → IsNextSet bits states box from found → IfSome found (λ next. offset bits Leaf next.1 ≡ next.0)
set_at bits states box from (Some next) h = h.at
set_at bits states box from None h = tt

pub set_within : (bits : Bits) (states : List Bool) (box : Box) (from n : ℕ) → entries bits Leaf ≡ n → (found : Option (ℕ × Coord)) → IsNextSet bits states box from found → IfSome found (λ next. next.0 < n)
set_within bits states box from n e (Some next) h = rw (h.at, e) at (offset_below bits Leaf next.1)
set_within bits states box from n e None h = tt

-- ---- the next voxel of a run

-- one number further along z, the rest of the run is one shorter
one_less : (entry end : ℕ) (z most : ℤ) → end ≤ entry + unsigned_abs (most -ℤ z) → (z +ℤ pos 1) ≤ℤ most → end ≤ entry + 1 + unsigned_abs (most -ℤ (z +ℤ pos 1))
one_less entry end z most h l = grind (arith, ints, clamps)

some_left : (entry end reach : ℕ) → entry < end → end ≤ entry + reach → 1 ≤ reach
some_left entry end reach some h = omega (arith, some, h)

from_same : (m n k : ℕ) → m ≡ n → n ≤ k → m ≤ k
from_same m n k e h = omega (arith, e, h)

module _ {V : Type 0} (bits : Bits) (t : Layout V) (box : Box) (p : Coord) (run : Run V) (is : IsRun bits t box p run) (some : run.entry < run.end) where
  abbrev pub next : Coord
  next = coord p.x p.y (p.z +ℤ pos 1)

  step : (is_inside box next ≡ true) × (offset bits Leaf next ≡ offset bits Leaf p + 1)
  step =
      let order = (both (is_box box) (is_within box everywhere) is.bounds).0 in
      let reach : 1 ≤ unsigned_abs (box.max.z -ℤ p.z) = some_left run.entry run.end _ some is.near in
      further_voxel bits box box (in_first_block bits box is.block order) p is.inside is.inside 1 (subst (λ (z : ℤ). 1 ≤ unsigned_abs (z -ℤ p.z)) (sym (same_least box.max.z)) reach)

  at : offset bits Leaf next ≡ run.entry
  at = step.1 ∙ sym is.at

  from_entry : run.entry ≤ offset bits Leaf next
  from_entry = from_same _ _ _ (sym at) (omega arith)

  below_end : offset bits Leaf next < run.end
  below_end = subst (λ (n : ℕ). n < run.end) (sym at) some

  -- the next number along z fits
  pub next_fits : (negsuc 2147483647 ≤ℤ next.z) × (next.z ≤ℤ pos 2147483647)
  next_fits = (inside_parts everywhere next (within_each box everywhere next (both (is_box box) (is_within box everywhere) is.bounds).1 step.0)).2

  pub next_value : (e : V) → slice_index_or run.values (run.entry % 8) e ≡ ((field_of bits t).cell next).value
  next_value e = subst (λ (n : ℕ). slice_index_or run.values (n % 8) e ≡ ((field_of bits t).cell next).value) at (is.values next e step.0 from_entry below_end)

  -- it is the first active voxel of the box past p
  pub next_first : IsFirst bits (IsActivePast bits (Some p) (field_of bits t)) box (Some next)
  next_first =
      let split = past_entry bits box is.block p is.inside run.entry is.at in (
        step.0,
        ((split next step.0).1 from_entry, is.on next step.0 from_entry below_end),
        λ q i k. later_in_leaf bits next q (is.block next q step.0 i) (from_same _ _ _ at ((split q i).0 k.0)),
      )

  -- the rest of the run follows it
  pub next_run : IsRun bits t box next (record { entry = run.entry + 1; end = run.end; values = run.values })
  next_run = record {
    bounds = is.bounds;
    block = is.block;
    inside = step.0;
    at = ap (λ (n : ℕ). n + 1) (sym at);
    near = one_less run.entry run.end p.z box.max.z is.near (inside_parts box next step.0).2.1;
    on = λ q i from to. is.on q i (omega (arith, from)) to;
    values = λ q e i from to. is.values q e i (omega (arith, from)) to;
  }

-- ---- a run of a leaf

-- the run of a leaf around the box is a run of the tree
pub leaf_run : {V : Type 0} (bits : Bits) (t : Layout V) (box : Box) (leaf : LeafOf V) → is_bounds box ≡ true → IsPartOfLeaf bits (field_of bits t) box leaf
    → (p : Coord) (entry : ℕ) (run : Run V) → is_inside box p ≡ true → offset bits Leaf p ≡ entry → IsRunOf leaf box p entry run → IsRun bits t box p run
leaf_run bits t box leaf bounds part p entry run inside at is = record {
  bounds = bounds;
  block = part.block;
  inside = inside;
  at = is.at ∙ ap (λ (n : ℕ). n + 1) (sym at);
  near = is.near;
  on = λ q i from to. ap (λ (c : Cell _). c.on) (part.cells q i) ∙ is.on (offset bits Leaf q) from to;
  values = λ q e i from to. is.values (offset bits Leaf q) (off (field_of bits t).background) e from to ∙ sym (ap (λ (c : Cell _). c.value) (part.cells q i));
}

-- ---- the next voxel of a listing in a run

module _ {V : Type 0} (bits : Bits) (t : Layout V) (p : Coord) (walk : TreeWalk V) (run : Run V) (some : run.entry < run.end) where
  abbrev following : Coord
  following = coord p.x p.y (p.z +ℤ pos 1)

  -- what a listing yields after p from its run, and what it is then
  pub record Follows (last : Option Coord) (part : Option (Held V)) (item : Coord × V) (rest : Run V) : Type 0 where
    pub first : IsFirst bits (IsActivePast bits last (field_of bits t)) walk.box (Some item.0)
    pub value : item.1 ≡ ((field_of bits t).cell item.0).value
    pub listing : IsListing bits t (Some item.0) walk part
    pub ahead : IsAhead bits t (Some item.0) part rest

  fits_of : (part : Option (Held V)) → IsAhead bits t (Some p) part run → p.z <ℤ pos 2147483647
  fits_of None ahead = absurd (ahead some)
  fits_of (Some held) ahead = let fits = (next_fits bits t held.bounds p run (ahead some) some).1 in omega (arith, ints, fits)

  after_p : (part : Option (Held V)) → IsListing bits t (Some p) walk part → IsAhead bits t (Some p) part run → (value : V) → ((e : V) → slice_index_or run.values (run.entry % 8) e ≡ value)
      → Follows (Some p) part (following, value) (record { entry = run.entry + 1; end = run.end; values = run.values })
  after_p None listing ahead value is = absurd (ahead some)
  after_p (Some held) listing ahead value is =
      let r = ahead some in
      let first = next_first bits t held.bounds p run r some in
      record {
        first = first_of_all bits t (Some p) walk held listing following first;
        value = sym (is value) ∙ next_value bits t held.bounds p run r some value;
        listing = listing_past bits t (Some p) walk held listing following first.1.0;
        ahead = λ _. next_run bits t held.bounds p run r some;
      }

  module _ (last : Option Coord) (part : Option (Held V)) (was : last ≡ Some p) (ahead : IsAhead bits t last part run) where
    pub step_fits : p.z <ℤ pos 2147483647
    step_fits = fits_of part (subst (λ (o : Option Coord). IsAhead bits t o part run) was ahead)

    pub follows : IsListing bits t last walk part → (item : Coord × V) → item.0 ≡ following → ((e : V) → slice_index_or run.values (run.entry % 8) e ≡ item.1)
        → (rest : Run V) → rest ≡ record { entry = run.entry + 1; end = run.end; values = run.values } → Follows last part item rest
    follows listing item voxel is rest same =
        let f = after_p part (subst (λ (o : Option Coord). IsListing bits t o walk part) was listing) (subst (λ (o : Option Coord). IsAhead bits t o part run) was ahead) item.1 is in
        record {
          first = subst (λ (o : Option Coord). IsFirst bits (IsActivePast bits o (field_of bits t)) walk.box (Some item.0)) (sym was) (subst (λ (q : Coord). IsFirst bits (IsActivePast bits (Some p) (field_of bits t)) walk.box (Some q)) (sym voxel) f.first);
          value = f.value ∙ ap (λ (q : Coord). ((field_of bits t).cell q).value) (sym voxel);
          listing = subst (λ (q : Coord). IsListing bits t (Some q) walk part) (sym voxel) f.listing;
          ahead = subst (λ (q : Coord). IsAhead bits t (Some q) part rest) (sym voxel) (subst (λ (r : Run V). IsAhead bits t (Some following) part r) (sym same) f.ahead);
        }

-- no run follows where nothing was found
pub not_ahead : {V : Type 0} (bits : Bits) (t : Layout V) (found : Option (Coord × V)) (part : Option (Held V)) (run : Run V) → is_some found ≡ false → IsAhead bits t (option_map (λ item. item.0) found) part run → run.entry < run.end → ⊥
not_ahead bits t None part run none ahead some = ahead some
not_ahead bits t (Some item) part run none ahead some = cc
