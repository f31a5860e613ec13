-- The step of a scene by a command: its error, its answer, and the scene after it.
use Rattle.std.specs.Prelude.{◌≡◌, ◌⊎◌, ℕ, Bool, true, false, not, ◌&&◌, List, [], ◌∷◌, Option, Some, None, IsTrue, Result, Ok, Err}
use Rattle.vdb_coord.specs.Blocks.{block_around, vdb}
use Rattle.vdb_coord.specs.Space.{Box}
use Rattle.vdb_coord.specs.declared.Level.TheVariants.{Leaf}
use Rattle.vdb_coord.specs.declared.Coord.{Coord}
use Rattle.vdb_value.specs.declared.Cell.{Cell}
use Rattle.vdb_tree.specs.declared.Write.{Write}
use Rattle.vdb_tree.specs.declared.Write.TheVariants as writes
use Rattle.vdb_tree.specs.Field.{Field, as_write_of, clip, dilate, erode, fill, iterations, write, written}
use Rattle.vdb_tree.specs.ConstantBlocks.{cell_eq, count, is_constant}
use Rattle.vdb_walk.specs.Reports.{IsActiveBounds, active, census}
use Rattle.vdb_scene.specs.Metas.{Pairs, has_pair, with_pair, without_pair}
use Rattle.vdb_scene.specs.Arguments.{are_coords, box_between, count_of, flat, is_limit, is_coord, is_root_limit, is_iteration_count, coord_of, region, root_limit_of}
use Rattle.vdb_scene.specs.Refusals.{first_of_all, meta_limit, too_many_grids, name_taken, no_accessor, no_box, no_grid, other_form, out_of_range, root_limit, same_grid, too_large, too_wide, tried_region}
use Rattle.vdb_scene.specs.Replies.{Bounds, Census, Count, Done, Pairs as PairsReply, Refused, Reply, Slice, Value, listing, rows}
use Rattle.vdb_scene.specs.Scalars.{has_form, has_value, scalar, scalar_eq}
use Rattle.vdb_scene.specs.Scene.{Grid, Scene, field_at, kind_at, limit_at, new_grid, pairs_at, the_grid, with_changed, with_grid, without_grid}
use Rattle.vdb_scene.specs.TwoGrids.{made_of, tried_of}
use Rattle.vdb_scene.specs.declared.command.Command.{Command}
use Rattle.vdb_scene.specs.declared.command.Command.TheVariants as commands
use Rattle.vdb_scene.specs.declared.command.Literal.{Literal}
use Rattle.vdb_scene.specs.declared.command.Num.{Num}
use Rattle.vdb_scene.specs.declared.command.Point.{Point}
use Rattle.vdb_scene.specs.declared.answer.Refusal.{Refusal}
use Rattle.vdb_scene.specs.declared.answer.Refusal.TheVariants as refusals
use Rattle.vdb_scene.specs.declared.scalar.Scalar.{Scalar}
use Rattle.vdb_scene.specs.declared.two_grids.Operation.{Operation}
use Rattle.vdb_scene.specs.declared.two_grids.Operation.TheVariants.{States, Values}
use Rattle.vdb_scene.specs.declared.two_grids.Composite.TheVariants as composites
use Rattle.vdb_tree.specs.declared.pairs.StateRule.TheVariants as rules

-- ---- writes of voxels

-- the command that asks for a write
abbrev pub write_command : List ℕ → Option Num → Point → Write Literal → Command
write_command name k p (writes.On v) = commands.Set name k p v
write_command name k p (writes.Off v) = commands.Unset name k p v
write_command name k p (writes.Value v) = commands.Only name k p v
write_command name k p (writes.State on) = commands.State name k p on

-- whether the written value, if any, passes a test
abbrev pub passes : {V : Type 0} → (V → Bool) → Write V → Bool
passes test (writes.On v) = test v
passes test (writes.Off v) = test v
passes test (writes.State on) = true
passes test (writes.Value v) = test v

-- the scene with the field of a name changed
abbrev pub changed : Scene → List ℕ → (Field Scalar → Field Scalar) → Scene
changed s name change = with_changed s name (record (the_grid s name) { field = change (field_at s name) })

-- the scene with the metadata pairs of a name changed
abbrev pub with_pairs : Scene → List ℕ → (Pairs → Pairs) → Scene
with_pairs s name change = with_changed s name (record (the_grid s name) { pairs = change (pairs_at s name) })

-- what a line writes to a voxel of a grid
abbrev pub write_at : Scene → List ℕ → Write Literal → Write Scalar
write_at s name w = as_write_of (scalar (kind_at s name)) w

-- the scene with one voxel of a grid written
abbrev pub after_write : Scene → List ℕ → Point → Write Literal → Scene
after_write s name p w = changed s name (write (coord_of p) (write_at s name w))

-- the cell that a line writes to each voxel of a box
abbrev pub cell_of_line : Scene → List ℕ → Literal → Bool → Cell Scalar
cell_of_line s name v on = record { value = scalar (kind_at s name) v; on = on }

-- the errors of a write of a voxel
abbrev pub tried_write : Scene → List ℕ → Option Num → Point → Write Literal → List (Option Refusal)
tried_write s name k p w =
    no_grid s name ∷ other_form (passes (has_form (kind_at s name)) w) ∷ out_of_range (is_coord p && passes (has_value (kind_at s name)) w)
    ∷ no_accessor k ∷ root_limit s name (write (coord_of p) (write_at s name w)) ∷ []

-- whether a write may allocate: if the cell changes, and the cells of the leaf extent around it are all equal
abbrev pub write_takes_memory : Field Scalar → Coord → Write Scalar → Bool
write_takes_memory f p w = not (cell_eq scalar_eq (written w (f.cell p)) (f.cell p)) && is_constant scalar_eq f (block_around vdb Leaf p)

-- whether the write of a line may allocate
abbrev pub line_takes_memory : Scene → List ℕ → Point → Write Literal → Bool
line_takes_memory s name p w = write_takes_memory (field_at s name) (coord_of p) (write_at s name w)

-- ---- what a command means

-- The meaning of a command on a scene: its errors, in the one order of all errors; and if none
-- applies, the scene after it, its answer, and whether it may allocate.
pub record Meaning : Type 1 where
  pub tried : List (Option Refusal)
  pub after : Scene
  pub IsReply : Reply → Type 0
  pub takes_memory : Bool

-- this answer and no other
abbrev pub only : Reply → Reply → Type 0
only answer reply = reply ≡ answer

-- a write of a voxel
abbrev pub meaning_of_write : Scene → List ℕ → Option Num → Point → Write Literal → Meaning
meaning_of_write s name k p w = record {
  tried = tried_write s name k p w;
  after = after_write s name p w;
  IsReply = only Done;
  takes_memory = line_takes_memory s name p w;
}

-- an operation on two grids
abbrev pub meaning_of_two : Operation → Scene → List ℕ → List ℕ → Meaning
meaning_of_two o s name other = record {
  tried = no_grid s name ∷ no_grid s other ∷ same_grid name other ∷ tried_of o (limit_at s name) (field_at s name) (field_at s other);
  after = changed s name (λ f. made_of o f (field_at s other));
  IsReply = only Done;
  takes_memory = true;
}

-- the meaning of each command
abbrev pub meaning : Scene → Command → Meaning
-- a grid that has never been written, with this background and this limit
meaning s (commands.Grid name kind v limit) = record {
  tried = name_taken s name ∷ too_many_grids s ∷ other_form (has_form kind v) ∷ out_of_range (has_value kind v && is_root_limit limit) ∷ [];
  after = with_grid s name (new_grid (scalar kind v) (root_limit_of limit));
  IsReply = only Done;
  takes_memory = true;
}
-- the grid is removed
meaning s (commands.Drop name) = record {
  tried = no_grid s name ∷ [];
  after = without_grid s name;
  IsReply = only Done;
  takes_memory = false;
}
-- a second grid with the field, the limit and the metadata of the first
meaning s (commands.Copy from to) = record {
  tried = no_grid s from ∷ name_taken s to ∷ too_many_grids s ∷ [];
  after = with_grid s to (the_grid s from);
  IsReply = only Done;
  takes_memory = true;
}
-- the cell of a voxel
meaning s (commands.Get name k p) = record {
  tried = no_grid s name ∷ out_of_range (is_coord p) ∷ no_accessor k ∷ [];
  after = s;
  IsReply = only (Value ((field_at s name).cell (coord_of p)));
  takes_memory = false;
}
-- the four writes of a voxel: the value and active, the value and inactive, the value only, the state only
meaning s (commands.Set name k p v) = meaning_of_write s name k p (writes.On v)
meaning s (commands.Unset name k p v) = meaning_of_write s name k p (writes.Off v)
meaning s (commands.Only name k p v) = meaning_of_write s name k p (writes.Value v)
meaning s (commands.State name k p on) = meaning_of_write s name k p (writes.State on)
-- each voxel of the box gets one cell
meaning s (commands.Fill name c v on) = record {
  tried = no_grid s name ∷ other_form (has_form (kind_at s name) v) ∷ out_of_range (are_coords c && has_value (kind_at s name) v) ∷ no_box c
      ∷ root_limit s name (fill (box_between c) (cell_of_line s name v on)) ∷ [];
  after = changed s name (fill (box_between c) (cell_of_line s name v on));
  IsReply = only Done;
  takes_memory = true;
}
-- each voxel outside the box gets the background, inactive
meaning s (commands.Clip name c) = record {
  tried = no_grid s name ∷ out_of_range (are_coords c) ∷ no_box c ∷ [];
  after = changed s name (clip (box_between c));
  IsReply = only Done;
  takes_memory = true;
}
-- no cell changes; Doing specifies the tree
meaning s (commands.Prune name) = record {
  tried = no_grid s name ∷ [];
  after = s;
  IsReply = only Done;
  takes_memory = false;
}
-- no cell changes; Doing specifies the tree
meaning s (commands.Voxelise name c) = record {
  tried = no_grid s name ∷ out_of_range (are_coords c) ∷ no_box c ∷ too_large 2097152 (box_between c) ∷ [];
  after = s;
  IsReply = only Done;
  takes_memory = true;
}
-- the first active voxels of the box in block order, and whether more follow
meaning s (commands.List name c limit) = record {
  tried = no_grid s name ∷ out_of_range (is_limit limit && are_coords c) ∷ no_box c ∷ [];
  after = s;
  IsReply = only (listing (count_of limit) (active vdb (field_at s name) (box_between c)));
  takes_memory = false;
}
-- the cells of a part of a plane, row by row
meaning s (commands.Slice name z a) = record {
  tried = no_grid s name ∷ out_of_range (are_coords (flat z a)) ∷ no_box (flat z a) ∷ too_wide 64 (box_between (flat z a)) ∷ [];
  after = s;
  IsReply = only (Slice (rows (field_at s name) (box_between (flat z a))));
  takes_memory = false;
}
-- the number of active voxels of the box, or of all coordinates
meaning s (commands.Count name c) = record {
  tried = no_grid s name ∷ tried_region c;
  after = s;
  IsReply = only (Count (count (field_at s name) (region c)));
  takes_memory = false;
}
-- the bounding box of the active voxels, if any
meaning s (commands.Bounds name) = record {
  tried = no_grid s name ∷ [];
  after = s;
  IsReply = λ reply. (box : Option Box) × (reply ≡ Bounds box) × IsActiveBounds (field_at s name) box;
  takes_memory = false;
}
-- the size of the smallest tree of the field
meaning s (commands.Census name) = record {
  tried = no_grid s name ∷ [];
  after = s;
  IsReply = only (Census (census scalar_eq vdb (field_at s name)));
  takes_memory = false;
}
-- the seven operations on two grids, which change the first
meaning s (commands.Union name other) = meaning_of_two (States rules.Unite) s name other
meaning s (commands.Difference name other) = meaning_of_two (States rules.Subtract) s name other
meaning s (commands.Intersect name other) = meaning_of_two (States rules.Intersect) s name other
meaning s (commands.Max name other) = meaning_of_two (Values composites.Maximum) s name other
meaning s (commands.Min name other) = meaning_of_two (Values composites.Minimum) s name other
meaning s (commands.Sum name other) = meaning_of_two (Values composites.Sum) s name other
meaning s (commands.Replace name other) = meaning_of_two (Values composites.Replace) s name other
-- in each iteration every voxel with an active face neighbour becomes active
meaning s (commands.Dilate name n) = record {
  tried = no_grid s name ∷ out_of_range (is_iteration_count n) ∷ root_limit s name (iterations (count_of n) dilate) ∷ [];
  after = changed s name (iterations (count_of n) dilate);
  IsReply = only Done;
  takes_memory = true;
}
-- in each iteration every voxel with an inactive face neighbour becomes inactive
meaning s (commands.Erode name n) = record {
  tried = no_grid s name ∷ out_of_range (is_iteration_count n) ∷ [];
  after = changed s name (iterations (count_of n) erode);
  IsReply = only Done;
  takes_memory = true;
}
-- a text for a key of the grid's metadata, which allocates nothing if the key has one
meaning s (commands.Meta name key text) = record {
  tried = no_grid s name ∷ meta_limit s name key ∷ [];
  after = with_pairs s name (λ pairs. with_pair pairs key text);
  IsReply = only Done;
  takes_memory = not (has_pair (pairs_at s name) key);
}
-- the pair of a key is removed, if it exists
meaning s (commands.Unmeta name key) = record {
  tried = no_grid s name ∷ [];
  after = with_pairs s name (λ pairs. without_pair pairs key);
  IsReply = only Done;
  takes_memory = false;
}
-- the grid's metadata pairs, by rising bytes of the keys
meaning s (commands.Metas name) = record {
  tried = no_grid s name ∷ [];
  after = s;
  IsReply = only (PairsReply (pairs_at s name));
  takes_memory = false;
}

-- the errors of a command, in order
abbrev pub tried : Scene → Command → List (Option Refusal)
tried s c = (meaning s c).tried

-- the error of a command, if any
abbrev pub refusal : Scene → Command → Option Refusal
refusal s c = first_of_all (tried s c)

-- The error of a command before an allocation may fail, if any. A dilation meets the root limit as it grows, and an allocation may
-- fail before it does; every other error of any command comes first.
abbrev pub first_refusal : Scene → Command → Option Refusal
first_refusal s (commands.Dilate name n) = first_of_all (no_grid s name ∷ out_of_range (is_iteration_count n) ∷ [])
first_refusal s c = refusal s c

-- the scene after a command that succeeds
abbrev pub after : Scene → Command → Scene
after s c = (meaning s c).after

-- the answer to a command that succeeds
abbrev pub IsReply : Scene → Command → Reply → Type 0
IsReply s c reply = (meaning s c).IsReply reply

-- whether a command may allocate
abbrev pub takes_memory : Scene → Command → Bool
takes_memory s c = (meaning s c).takes_memory

-- ---- one step

-- Either the command fails and the scene stays; or it succeeds with its answer and the scene after it; or no error comes before
-- it allocates, an allocation fails, and the scene stays.
abbrev pub Step : Scene → Command → Reply → Scene → Type 0
Step s c reply next =
    ((r : Refusal) × (refusal s c ≡ Some r) × (reply ≡ Refused r) × (next ≡ s))
    ⊎ ((refusal s c ≡ None) × IsReply s c reply × (next ≡ after s c))
    ⊎ ((first_refusal s c ≡ None) × IsTrue (takes_memory s c) × (reply ≡ Refused refusals.Memory) × (next ≡ s))

-- ---- a grid that a caller inserts

-- the error of inserting a grid under a name, if any
abbrev pub insertion_refusal : Scene → List ℕ → Option Refusal
insertion_refusal s name = first_of_all (name_taken s name ∷ too_many_grids s ∷ [])

-- a result whose error returns something, without that
abbrev pub refusal_alone : {A B : Type 0} → Result A (Refusal × B) → Result A Refusal
refusal_alone (Ok a) = Ok a
refusal_alone (Err e) = Err e.0

-- the grid has its name, or the first error; `Memory` comes only if nothing else applies
abbrev pub Inserts : Scene → List ℕ → Grid → Result (Unit {0}) Refusal → Scene → Type 0
Inserts s name g (Ok _) next = (insertion_refusal s name ≡ None) × (next ≡ with_grid s name g)
Inserts s name g (Err refusals.Memory) next = (insertion_refusal s name ≡ None) × (next ≡ s)
Inserts s name g (Err r) next = (insertion_refusal s name ≡ Some r) × (next ≡ s)
