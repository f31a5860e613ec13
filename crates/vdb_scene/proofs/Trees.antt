-- The trees after commands, from facts about them.
use Rattle.vdb_scene.proofs.Common.{◌≡◌, ◌∙◌, refl, sym, ap, subst, ℕ, Bool, true, false, not, cond, List, [], ◌∷◌, Option, Some, None, lookup, set_value, Coord, Write, TreeRefusal, Memory, RootLimit, LeavesTrees, PutsGrid, changed_name, coords_by, grid_coords, coord_of, is_named, first_of_all, of_tree, other_form, out_of_range, write_command, AnyGrid, GridEntry, Done, Refusal, Command, Literal, Num, Point}
use Rattle.vdb_tree.specs.declared.Write.TheVariants as writes
use Rattle.vdb_scene.specs.Doing.{GivesBack, IsInLeafAt, IsNearby, KeepsGrids, PutsAccessed}
use Rattle.vdb_scene.specs.Grids.{IsInLeafOf, coords_after}
use Rattle.vdb_scene.specs.Arguments.{accessor_of}
use Rattle.vdb_scene.specs.declared.answer.Answer.TheVariants.{Refused}
use Rattle.vdb_scene.specs.declared.answer.Refusal.TheVariants as refusals
use Rattle.vdb_scene.specs.declared.scene.Scene.{Scene}
use Rattle.vdb_scene.proofs.Entries.{set_value-found}

-- the grids if one was borrowed and comes back unchanged
pub same_back : (grids after : List (List ℕ × GridEntry)) (name : List ℕ) (entry : GridEntry) → lookup (is_named name) grids ≡ Some entry → after ≡ set_value (is_named name) grids entry → after ≡ grids
same_back grids after name entry there back = back ∙ set_value-found (is_named name) grids entry there

-- an error that no tree has
abbrev pub is_of_tree : Refusal → Bool
is_of_tree refusals.RootLimit = true
is_of_tree refusals.Memory = true
is_of_tree r = false

no_tree : true ≡ false → ⊥
no_tree e = cc

pub others_keep : (old new : Scene) (c : Command) (r : Refusal) → is_of_tree r ≡ false → KeepsGrids old new → LeavesTrees c (Refused r) old new
others_keep old new c refusals.RootLimit none keeps = absurd (no_tree none)
others_keep old new c refusals.Memory none keeps = absurd (no_tree none)
others_keep old new c r none keeps = keeps

-- no error of a value is one of a tree
pub value_refused : (fits within : Bool) (r : Refusal) → first_of_all (other_form fits ∷ out_of_range within ∷ []) ≡ Some r → is_of_tree r ≡ false
value_refused false within r h = ap is_of_tree (by h)
  where
    by : Some refusals.Kind ≡ Some r → r ≡ refusals.Kind
    by h = cc
value_refused true false r h = ap is_of_tree (by h)
  where
    by : Some refusals.ValueRange ≡ Some r → r ≡ refusals.ValueRange
    by h = cc
value_refused true true r h = cc

module _ (old new : Scene) (c : Command) (name : List ℕ) (is : changed_name c ≡ Some name) (entry : GridEntry) (puts : PutsGrid old name entry new) where
  -- an error of the grid's tree
  pub tree_refused_leaves : (was : GridEntry) → lookup (is_named name) old.grids.entries ≡ Some was → grid_coords entry.grid ≡ coords_by c (grid_coords was.grid)
      → (e : TreeRefusal) → (e ≡ Memory → GivesBack c entry.grid) → LeavesTrees c (Refused (of_tree e)) old new
  tree_refused_leaves was there last RootLimit left = rw is (was, entry, there, puts, last, tt)
  tree_refused_leaves was there last Memory left = rw is (was, entry, there, puts, last, left refl)

-- no error of a box is one of a tree
pub corners_refused : (placed ordered : Bool) (r : Refusal) → first_of_all (out_of_range placed ∷ cond (not ordered) (Some refusals.Box) None ∷ []) ≡ Some r → is_of_tree r ≡ false
corners_refused false ordered r h = ap is_of_tree (by h)
  where
    by : Some refusals.ValueRange ≡ Some r → r ≡ refusals.ValueRange
    by h = cc
corners_refused true false r h = ap is_of_tree (by h)
  where
    by : Some refusals.Box ≡ Some r → r ≡ refusals.Box
    by h = cc
corners_refused true true r h = cc

-- the grid that a write changes
pub write_changes : (name : List ℕ) (k : Option Num) (p : Point) (w : Write Literal) → changed_name (write_command name k p w) ≡ Some name
write_changes name k p (writes.On v) = refl
write_changes name k p (writes.Off v) = refl
write_changes name k p (writes.State on) = refl
write_changes name k p (writes.Value v) = refl

-- the coordinates of its accessors then
pub write_moves : (name : List ℕ) (k : Option Num) (p : Point) (w : Write Literal) → coords_by (write_command name k p w) ≡ coords_after (accessor_of k) (coord_of p)
write_moves name k p (writes.On v) = refl
write_moves name k p (writes.Off v) = refl
write_moves name k p (writes.State on) = refl
write_moves name k p (writes.Value v) = refl

-- and which may be any grid after an allocation failure
pub write_gives : (name : List ℕ) (k : Option Num) (p : Point) (w : Write Literal) (g : AnyGrid) → GivesBack (write_command name k p w) g
write_gives name k p (writes.On v) g = tt
write_gives name k p (writes.Off v) g = tt
write_gives name k p (writes.State on) g = tt
write_gives name k p (writes.Value v) g = tt

-- the coordinate given to an accessor, by the numbers of the line
pub accessed : (k : Option Num) (p : Point) (number : Option ℕ) (q : Coord) (was coords : List (Option Coord)) → number ≡ accessor_of k → coord_of p ≡ q
    → coords ≡ coords_after number q was → coords ≡ coords_after (accessor_of k) (coord_of p) was
accessed k p number q was coords e f h = rw (← e, f) h

-- a leaf of the line's grid holds the voxel and the last coordinate
pub in_leaf_by : (s : Scene) (name : List ℕ) (k : Option Num) (p : Point) (entry : GridEntry) (number : Option ℕ) (q : Coord) → lookup (is_named name) s.grids.entries ≡ Some entry
    → number ≡ accessor_of k → coord_of p ≡ q → IsInLeafAt s name k p → IsInLeafOf entry.grid number q
in_leaf_by s name k p entry number q there e f near = rw (e, ← f) (subst (λ (was : GridEntry). IsInLeafOf was.grid (accessor_of k) (coord_of p)) (one near.0 (sym near.1 ∙ there)) near.2)
  where
    one : (was : GridEntry) → Some was ≡ Some entry → was ≡ entry
    one was h = cc

-- the same for a write
pub write_in_leaf_by : (s : Scene) (name : List ℕ) (k : Option Num) (p : Point) (w : Write Literal) → IsNearby (write_command name k p w) s → IsInLeafAt s name k p
write_in_leaf_by s name k p (writes.On v) near = near
write_in_leaf_by s name k p (writes.Off v) near = near
write_in_leaf_by s name k p (writes.State on) near = near
write_in_leaf_by s name k p (writes.Value v) near = near

-- a write
pub write_leaves : (old new : Scene) (name : List ℕ) (k : Option Num) (p : Point) (w : Write Literal) (was g : GridEntry) → PutsAccessed old name k p was g new → LeavesTrees (write_command name k p w) Done old new
write_leaves old new name k p (writes.On v) was g puts = (was, g, puts)
write_leaves old new name k p (writes.Off v) was g puts = (was, g, puts)
write_leaves old new name k p (writes.State on) was g puts = (was, g, puts)
write_leaves old new name k p (writes.Value v) was g puts = (was, g, puts)
