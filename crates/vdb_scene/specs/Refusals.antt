-- The errors of a command, each with the test that finds it.
use Rattle.std.specs.Prelude.{ℕ, Bool, not, ◌||◌, if◌then◌else◌, List, [], ◌∷◌, length, Option, Some, None, is_some, is_none, nat_le, nat_lt}
use Rattle.vdb_coord.specs.Blocks.{vdb}
use Rattle.vdb_coord.specs.Space.{Box, extent, is_box, volume}
use Rattle.vdb_value.specs.Values.{has_sums}
use Rattle.vdb_tree.specs.Field.{Field, lacks_sum}
use Rattle.vdb_tree.specs.ConstantBlocks.{roots}
use Rattle.vdb_tree.specs.declared.refusal.TreeRefusal.{TreeRefusal}
use Rattle.vdb_tree.specs.declared.refusal.TreeRefusal.TheVariants.{Memory, RootLimit}
use Rattle.vdb_scene.specs.Metas.{may_set}
use Rattle.vdb_scene.specs.Arguments.{are_coords, box_between, is_accessor}
use Rattle.vdb_scene.specs.Scalars.{kind_eq, kind_of, scalar_eq, scalar_sum}
use Rattle.vdb_scene.specs.Scene.{Scene, field_at, grid_at, is_named, limit_at, pairs_at}
use Rattle.vdb_scene.specs.declared.answer.Refusal.{Refusal}
use Rattle.vdb_scene.specs.declared.answer.Refusal.TheVariants as refusals
use Rattle.vdb_scene.specs.declared.command.Corners.{Corners}
use Rattle.vdb_scene.specs.declared.command.Num.{Num}
use Rattle.vdb_scene.specs.declared.scalar.Scalar.{Scalar}

-- the error of a grid's tree for a change
abbrev pub of_tree : TreeRefusal → Refusal
of_tree RootLimit = refusals.RootLimit
of_tree Memory = refusals.Memory

-- the error if a test holds
abbrev pub refused_if : Bool → Refusal → Option Refusal
refused_if test r = if test then Some r else None

-- more root blocks of a field than the given number hold a cell other than the inactive background
abbrev pub beyond_limit : ℕ → Field Scalar → Option Refusal
beyond_limit limit f = refused_if (nat_lt limit (roots scalar_eq vdb f)) refusals.RootLimit

module _ (s : Scene) where
  -- the grid does not exist
  abbrev pub no_grid : List ℕ → Option Refusal
  no_grid name = refused_if (is_none (grid_at s name)) refusals.NoGrid

  -- the name is taken
  abbrev pub name_taken : List ℕ → Option Refusal
  name_taken name = refused_if (is_some (grid_at s name)) refusals.NameTaken

  -- the scene has 64 grids
  abbrev pub too_many_grids : Option Refusal
  too_many_grids = refused_if (nat_le 64 (length s)) refusals.GridLimit

  -- after this change more root blocks than the grid's limit would hold a cell other than the inactive background
  abbrev pub root_limit : List ℕ → (Field Scalar → Field Scalar) → Option Refusal
  root_limit name change = beyond_limit (limit_at s name) (change (field_at s name))

  -- the grid has 16 metadata pairs, and none of them has the key
  abbrev pub meta_limit : List ℕ → List ℕ → Option Refusal
  meta_limit name key = refused_if (not (may_set (pairs_at s name) key)) refusals.MetaLimit

-- a value has another form than the grid's type
abbrev pub other_form : Bool → Option Refusal
other_form fits = refused_if (not fits) refusals.Kind

-- a value or number doesn't fit its range
abbrev pub out_of_range : Bool → Option Refusal
out_of_range fits = refused_if (not fits) refusals.ValueRange

-- no such accessor
abbrev pub no_accessor : Option Num → Option Refusal
no_accessor k = refused_if (not (is_accessor k)) refusals.NoAccessor

-- a minimum is greater than its maximum
abbrev pub no_box : Corners → Option Refusal
no_box c = refused_if (not (is_box (box_between c))) refusals.Box

-- a box has more voxels than the given number
abbrev pub too_large : ℕ → Box → Option Refusal
too_large most box = refused_if (nat_lt most (volume box)) refusals.TooLarge

-- a slice has more columns or rows than the given number
abbrev pub too_wide : ℕ → Box → Option Refusal
too_wide most box = refused_if (nat_lt most (extent box.min.x box.max.x) || nat_lt most (extent box.min.y box.max.y)) refusals.TooLarge

-- the errors of the box of a line, if the line has one
abbrev pub tried_region : Option Corners → List (Option Refusal)
tried_region None = []
tried_region (Some c) = out_of_range (are_coords c) ∷ no_box c ∷ []

-- a command on two grids names one grid twice
abbrev pub same_grid : List ℕ → List ℕ → Option Refusal
same_grid name other = refused_if (is_named name other) refusals.SameGrid

-- two grids have different types
abbrev pub other_kind : Field Scalar → Field Scalar → Option Refusal
other_kind f g = refused_if (not (kind_eq (kind_of f.background) (kind_of g.background))) refusals.Kind

-- booleans have no sum
abbrev pub no_sum : Field Scalar → Option Refusal
no_sum f = refused_if (not (has_sums (kind_of f.background))) refusals.NoSum

-- at some coordinate, active or not, the sum of two values lies outside the type
abbrev pub sum_range : Field Scalar → Field Scalar → Option Refusal
sum_range f g = refused_if (lacks_sum scalar_sum f g) refusals.SumRange

-- the first error of a list, if any
abbrev pub first_of_all : List (Option Refusal) → Option Refusal
first_of_all [] = None
first_of_all (None ∷ rest) = first_of_all rest
first_of_all (Some r ∷ rest) = Some r
