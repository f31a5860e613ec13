-- The codes that a call returns.
use Rattle.std.specs.Prelude.{ℤ, pos, Result, Ok, Err}
use Rattle.vdb_tree.specs.declared.refusal.TreeRefusal.{TreeRefusal}
use Rattle.vdb_tree.specs.declared.refusal.TreeRefusal.TheVariants as trees
use Rattle.vdb_scene.specs.declared.answer.Refusal.{Refusal}
use Rattle.vdb_scene.specs.declared.answer.Refusal.TheVariants as refusals

-- the call is done
abbrev pub done : ℤ
done = pos 0

-- the handle is empty
abbrev pub empty : ℤ
empty = pos 1

-- an allocation failed
abbrev pub memory : ℤ
memory = pos 2

-- more root blocks than the limit would have a cell other than the inactive background
abbrev pub root_limit : ℤ
root_limit = pos 3

-- an argument is out of its range
abbrev pub out_of_range : ℤ
out_of_range = pos 4

-- a sum lies outside the type
abbrev pub sum_range : ℤ
sum_range = pos 5

-- two grids have different types
abbrev pub other_kind : ℤ
other_kind = pos 6

-- booleans have no sum
abbrev pub no_sum : ℤ
no_sum = pos 7

-- the scene has no such grid
abbrev pub no_grid : ℤ
no_grid = pos 8

-- the bytes are no name
abbrev pub no_name : ℤ
no_name = pos 9

-- the scene has a grid of the name
abbrev pub name_taken : ℤ
name_taken = pos 10

-- the scene has 64 grids
abbrev pub grid_limit : ℤ
grid_limit = pos 11

-- the grid has 16 metadata pairs
abbrev pub meta_limit : ℤ
meta_limit = pos 12

-- the grid has no such metadata pair
abbrev pub no_meta : ℤ
no_meta = pos 13

-- the bytes are no text
abbrev pub no_text : ℤ
no_text = pos 14

-- the buffer is too small
abbrev pub too_small : ℤ
too_small = pos 15

-- a file would have more bytes than it may have
abbrev pub too_long : ℤ
too_long = pos 35

-- the code of a change of one grid
abbrev pub tree_code : Result (Unit {0}) TreeRefusal → ℤ
tree_code (Ok _) = done
tree_code (Err trees.RootLimit) = root_limit
tree_code (Err trees.Memory) = memory

-- the code of an error of a scene; those of a command's text come from no call
abbrev pub refusal_code : Refusal → ℤ
refusal_code refusals.RootLimit = root_limit
refusal_code refusals.Memory = memory
refusal_code refusals.SumRange = sum_range
refusal_code refusals.Kind = other_kind
refusal_code refusals.NoSum = no_sum
refusal_code refusals.NoGrid = no_grid
refusal_code refusals.NameTaken = name_taken
refusal_code refusals.GridLimit = grid_limit
refusal_code refusals.MetaLimit = meta_limit
refusal_code _ = out_of_range

-- the code of a change that a scene may refuse
abbrev pub scene_code : Result (Unit {0}) Refusal → ℤ
scene_code (Ok _) = done
scene_code (Err r) = refusal_code r
