-- Accessors of a grid, one by one.
use Rattle.std.proofs.Common.{◌≡◌, ℕ, ◌+◌, ◌<◌, ◌≤◌, List, length, refl, sym, ap, ◌∙◌, arith, inl, inr, ◌⊎◌, get_or-set_same, get_or-set_other, replicate}
use Rattle.std.specs.Prelude.{Option, Some, None, slice_index_or, slice_set}
use Rattle.std.proofs.lemmas.List.{get_or_past, get_or-replicate, length-replicate}
use Rattle.std.proofs.lemmas.Grind.{common_steps}
use Rattle.std.proofs.lemmas.Bool.Decides.{eqb_tells}
use Rattle.vdb_coord.specs.Blocks.{vdb}
use Rattle.vdb_coord.specs.declared.Coord.{Coord}
use Rattle.vdb_tree.specs.Layout.{Layout}
use Rattle.vdb_tree.specs.Paths.{IsWhole, Lives, TreePath}
use Rattle.vdb_tree.specs.declared.path.PathOf.TheVariants.{Empty, ToUpper, ToLower, ToLeaf}
use Rattle.vdb_grid.specs.Grid.{ArePathsWhole, AreUnusedEmpty, IsNear, last, path}

below_or : (a b : ℕ) → (a < b) ⊎ (b ≤ a)
below_or a b = grind arith

pub none_apart : (q : Coord) → ◌≡◌ {A = Option Coord} None (Some q) → ⊥
none_apart q e = cc

some_same : (p q : Coord) → ◌≡◌ {A = Option Coord} (Some p) (Some q) → p ≡ q
some_same p q e = cc

-- past the last accessor there is no coordinate
past : (coords : List (Option Coord)) (k : ℕ) (p : Coord) → length coords ≤ k → last coords k ≡ Some p → ⊥
past coords k p b e = none_apart p (sym (get_or_past coords k None b) ∙ e)

-- an accessor that has a coordinate is one of the grid's
pub there : (coords : List (Option Coord)) (k : ℕ) (p : Coord) → last coords k ≡ Some p → k < length coords
there coords k p e =
    elim (below_or k (length coords)) [
      | inl b ↦ b
      | inr b ↦ absurd (past coords k p b e)
    ]

-- the coordinate of an accessor that was given one, and that of another one
given : (coords : List (Option Coord)) (k : ℕ) (p q : Coord) → k < length coords → last (slice_set coords k (Some p)) k ≡ Some q → p ≡ q
given coords k p q b e = some_same p q (sym (get_or-set_same coords k (Some p) None b) ∙ e)

-- a list that repeats a value has this value at each index, if it stands for the ones past the end, too
repeated : {A : Type 0} (n k : ℕ) (x : A) → slice_index_or (replicate n x) k x ≡ x
repeated n k x =
    elim (below_or k n) [
      | inl h ↦ get_or-replicate n k x x h
      | inr h ↦ get_or_past (replicate n x) k x (rw length-replicate h)
    ]

pub nothing_last : (n k : ℕ) → last (replicate n None) k ≡ None
nothing_last n k = repeated n k None

pub nothing_path : {V : Type 0} (n k : ℕ) → ◌≡◌ {A = TreePath V} (path (replicate n Empty) k) Empty
nothing_path n k = repeated n k Empty

length_set : (coords : List (Option Coord)) (k : ℕ) (p : Coord) → length (slice_set coords k (Some p)) ≡ length coords
length_set coords k p = grind (arith, common_steps)

module _ {V : Type 0} (t : Layout V) where
  whole_as : (p q : Coord) (a b : TreePath V) → p ≡ q → a ≡ b → IsWhole vdb t a p → IsWhole vdb t b q
  whole_as p q a b e f h = rw (← e, ← f) h

  -- all paths stay whole if one accessor gets a coordinate and a whole path to it
  pub whole_set : (coords : List (Option Coord)) (paths : List (TreePath V)) (k : ℕ) (p : Coord) (cached : TreePath V) → k < length coords → k < length paths
      → ArePathsWhole t coords paths → IsWhole vdb t cached p → ArePathsWhole t (slice_set coords k (Some p)) (slice_set paths k cached)
  whole_set coords paths k p cached b d h w j q e =
      elim (eqb_tells j k) [
        | inl s ↦
            let f = given coords k p q b (sym (ap (last (slice_set coords k (Some p))) s.1) ∙ e) in
            let g = sym (get_or-set_same paths k cached Empty d) ∙ sym (ap (path (slice_set paths k cached)) s.1) in
            whole_as p q cached _ f g w
        | inr s ↦
            let f = sym (get_or-set_other coords k j (Some p) None s.1) ∙ e in
            whole_as q q _ _ refl (sym (get_or-set_other paths k j cached Empty s.1)) (h j q f)
      ]

  -- all paths stay whole if one accessor gets a coordinate for which its path is whole
  pub whole_moved : (coords : List (Option Coord)) (paths : List (TreePath V)) (k : ℕ) (p : Coord)
      → ArePathsWhole t coords paths → IsWhole vdb t (path paths k) p → ArePathsWhole t (slice_set coords k (Some p)) paths
  whole_moved coords paths k p h w j q e =
      elim (eqb_tells j k) [
        | inl s ↦
            elim (below_or k (length coords)) [
              | inl b ↦
                  let f = given coords k p q b (sym (ap (last (slice_set coords k (Some p))) s.1) ∙ e) in
                  whole_as p q _ _ f (sym (ap (path paths) s.1)) w
              | inr b ↦
                  let f = get_or_past (slice_set coords k (Some p)) j None (omega (arith, s.1, b, length_set coords k p)) in
                  absurd (none_apart q (sym f ∙ e))
            ]
        | inr s ↦ h j q (sym (get_or-set_other coords k j (Some p) None s.1) ∙ e)
      ]

  -- the first n accessors have whole paths
  abbrev pub AreWholeBelow : List (Option Coord) → List (TreePath V) → ℕ → Type 0
  AreWholeBelow coords paths n = (k : ℕ) (p : Coord) → k < n → last coords k ≡ Some p → IsWhole vdb t (path paths k) p

  -- one more accessor has a whole path after its path was traced
  pub whole_next : (coords : List (Option Coord)) (paths : List (TreePath V)) (i : ℕ) (p : Coord) (cached : TreePath V) → i < length paths
      → AreWholeBelow coords paths i → last coords i ≡ Some p → IsWhole vdb t cached p → AreWholeBelow coords (slice_set paths i cached) (i + 1)
  whole_next coords paths i p cached b h s w k q l e =
      elim (eqb_tells k i) [
        | inl f ↦
            let same = some_same p q (sym s ∙ sym (ap (last coords) f.1) ∙ e) in
            whole_as p q cached _ same (sym (get_or-set_same paths i cached Empty b) ∙ sym (ap (path (slice_set paths i cached)) f.1)) w
        | inr f ↦ whole_as q q _ _ refl (sym (get_or-set_other paths i k cached Empty f.1)) (h k q (omega (arith, f.1, l)) e)
      ]

  pub set_length : (paths : List (TreePath V)) (i : ℕ) (cached : TreePath V) → length (slice_set paths i cached) ≡ length paths
  set_length paths i cached = grind (arith, common_steps)

  -- one more accessor has a whole path if it was given no coordinate
  pub none_next : (coords : List (Option Coord)) (paths : List (TreePath V)) (i : ℕ) → AreWholeBelow coords paths i → last coords i ≡ None → AreWholeBelow coords paths (i + 1)
  none_next coords paths i h s k q l e =
      elim (eqb_tells k i) [
        | inl f ↦ absurd (none_apart q (sym s ∙ sym (ap (last coords) f.1) ∙ e))
        | inr f ↦ h k q (omega (arith, f.1, l)) e
      ]

  pub whole_all : (coords : List (Option Coord)) (paths : List (TreePath V)) → AreWholeBelow coords paths (length coords) → ArePathsWhole t coords paths
  whole_all coords paths h k p e = h k p (there coords k p e) e

  pub nothing_whole : (n : ℕ) (paths : List (TreePath V)) → ArePathsWhole t (replicate n None) paths
  nothing_whole n paths k p e = absurd (none_apart p (sym (nothing_last n k) ∙ e))

  -- an empty path is live
  pub empty_lives : (paths : List (TreePath V)) (k : ℕ) (p : Coord) → path paths k ≡ Empty → Lives vdb t (path paths k) p
  empty_lives paths k p e = rw e tt

module _ {V : Type 0} where
  -- the paths of accessors without a coordinate stay empty if one accessor gets a coordinate
  pub unused_moved : (coords : List (Option Coord)) (paths : List (TreePath V)) (k : ℕ) (p : Coord) → AreUnusedEmpty coords paths → AreUnusedEmpty (slice_set coords k (Some p)) paths
  unused_moved coords paths k p h j e =
      elim (eqb_tells j k) [
        | inl s ↦
            elim (below_or k (length coords)) [
              | inl b ↦ absurd (none_apart p (sym e ∙ ap (last (slice_set coords k (Some p))) s.1 ∙ get_or-set_same coords k (Some p) None b))
              | inr b ↦ h j (get_or_past coords j None (omega (arith, s.1, b)))
            ]
        | inr s ↦ h j (sym (get_or-set_other coords k j (Some p) None s.1) ∙ e)
      ]

  -- the same if an accessor that has a coordinate gets a path
  pub unused_traced : (coords : List (Option Coord)) (paths : List (TreePath V)) (k : ℕ) (p : Coord) (cached : TreePath V)
      → last coords k ≡ Some p → AreUnusedEmpty coords paths → AreUnusedEmpty coords (slice_set paths k cached)
  unused_traced coords paths k p cached g h j e =
      elim (eqb_tells j k) [
        | inl s ↦ absurd (none_apart p (sym e ∙ ap (last coords) s.1 ∙ g))
        | inr s ↦ get_or-set_other paths k j cached Empty s.1 ∙ h j e
      ]

  -- the same if one accessor gets a coordinate and a path
  pub unused_set : (coords : List (Option Coord)) (paths : List (TreePath V)) (k : ℕ) (p : Coord) (cached : TreePath V)
      → k < length coords → AreUnusedEmpty coords paths → AreUnusedEmpty (slice_set coords k (Some p)) (slice_set paths k cached)
  unused_set coords paths k p cached b h =
      unused_traced (slice_set coords k (Some p)) paths k p cached (get_or-set_same coords k (Some p) None b) (unused_moved coords paths k p h)

  -- a path without nodes is near
  pub near_nothing : (t : Layout V) (p : Coord) → IsNear t Empty p
  near_nothing t p = record { lives = tt; whole = tt }

  -- a whole path is near
  pub near_whole : (t : Layout V) (cached : TreePath V) (p : Coord) → IsWhole vdb t cached p → IsNear t cached p
  near_whole t Empty p w = near_nothing t p
  near_whole t (ToUpper u) p w = record { lives = w.lives; whole = w }
  near_whole t (ToLower u l) p w = record { lives = w.lives; whole = w }
  near_whole t (ToLeaf u l f) p w = record { lives = w.lives; whole = w }

  -- it stays near if every whole path stays whole
  pub near_kept : (old new : Layout V) (cached : TreePath V) (p : Coord) → ((other : TreePath V) (r : Coord) → IsWhole vdb old other r → IsWhole vdb new other r)
      → IsNear old cached p → IsNear new cached p
  near_kept old new Empty p keeps h = near_nothing new p
  near_kept old new (ToUpper u) p keeps h = near_whole new (ToUpper u) p (keeps (ToUpper u) p h.whole)
  near_kept old new (ToLower u l) p keeps h = near_whole new (ToLower u l) p (keeps (ToLower u l) p h.whole)
  near_kept old new (ToLeaf u l f) p keeps h = near_whole new (ToLeaf u l f) p (keeps (ToLeaf u l f) p h.whole)
