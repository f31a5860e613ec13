-- Names, errors, answers and scenes of worked examples, found by computing.
use Rattle.vdb_scene.proofs.Common.{◌≡◌, refl, ℕ, ℤ, pos, negsuc, ◌+◌, true, false, List, [], ◌∷◌, map, Some, None, codes, inl, take, range_with_len, coord, Cell, is_name, Scene, field_at, new_grid, first_of_all, Refused, Step, after, first_refusal, refusal, takes_memory, tried, Scalar, I32, Command, Corners, Literal, Number, Truth, Near, Far, Point}
use Rattle.vdb_value.specs.declared.Kind.TheVariants as kinds
use Rattle.vdb_scene.specs.declared.answer.Refusal.TheVariants as refusals
use Rattle.vdb_scene.specs.declared.scalar.Scalar.TheVariants.{Bool as truth}
use Rattle.vdb_scene.specs.declared.command.Command.TheVariants as commands

-- ---- names

sixteen : is_name (codes "abcdefghijklmno_") ≡ true
sixteen = refl

seventeen : is_name (codes "abcdefghijklmnopq") ≡ false
seventeen = refl

capital : is_name (codes "A") ≡ false
capital = refl

empty : is_name [] ≡ false
empty = refl

-- ---- errors

abbrev near : ℤ → Literal
near z = Number (Near z)

abbrev point : ℤ → ℤ → ℤ → Point
point x y z = record { x = Near x; y = Near y; z = Near z }

abbrev a : List ℕ
a = codes "a"

abbrev make_a : Command
make_a = commands.Grid a kinds.I32 (near (pos 0)) None

abbrev with_a : Scene
with_a = after [] make_a

background_out_of_range : refusal [] (commands.Grid a kinds.I32 (near (pos 2147483648)) None) ≡ Some refusals.ValueRange
background_out_of_range = refl

background_of_another_kind : refusal [] (commands.Grid a kinds.I32 (Truth true) None) ≡ Some refusals.Kind
background_of_another_kind = refl

accepted : refusal [] make_a ≡ None
accepted = refl

taken : refusal with_a (commands.Grid a kinds.Bool (near (pos 0)) None) ≡ Some refusals.NameTaken
taken = refl

eighth_accessor : refusal with_a (commands.Set a (Some (Near (pos 8))) (point (pos 0) (pos 0) (pos 0)) (near (pos 1))) ≡ Some refusals.NoAccessor
eighth_accessor = refl

far_accessor : refusal with_a (commands.Get a (Some Far) (point (pos 0) (pos 0) (pos 0))) ≡ Some refusals.NoAccessor
far_accessor = refl

past_the_range : refusal with_a (commands.Set a None (point (pos 0) (pos 0) (pos 2147483648)) (near (pos 1))) ≡ Some refusals.ValueRange
past_the_range = refl

at_the_ends : first_of_all (take 4 (tried with_a (commands.Set a None (point (negsuc 2147483647) (pos 2147483647) (pos 0)) (near (negsuc 2147483647))))) ≡ None
at_the_ends = refl

missing : refusal with_a (commands.Get (codes "b") None (point (pos 0) (pos 0) (pos 0))) ≡ Some refusals.NoGrid
missing = refl

-- the first of several that apply
missing_first : refusal [] (commands.Set a (Some Far) (point (pos 0) (pos 0) (pos 2147483648)) (Truth true)) ≡ Some refusals.NoGrid
missing_first = refl

kind_next : refusal with_a (commands.Set a (Some Far) (point (pos 0) (pos 0) (pos 2147483648)) (Truth true)) ≡ Some refusals.Kind
kind_next = refl

range_next : refusal with_a (commands.Set a (Some Far) (point (pos 0) (pos 0) (pos 2147483648)) (near (pos 1))) ≡ Some refusals.ValueRange
range_next = refl

-- a box from one coordinate to another; with its corners exchanged, and past the range
abbrev between : Point → Point → Corners
between p q = record { min = p; max = q }

abbrev origin : Point
origin = point (pos 0) (pos 0) (pos 0)

abbrev past : Point
past = point (pos 0) (pos 0) (pos 2147483648)

-- a fill fails with the first error that applies, and the value and the corners have one range test
fill_of_none : refusal [] (commands.Fill a (between past origin) (Truth true) true) ≡ Some refusals.NoGrid
fill_of_none = refl

fill_of_another_kind : refusal with_a (commands.Fill a (between past origin) (Truth true) true) ≡ Some refusals.Kind
fill_of_another_kind = refl

fill_past_the_range : refusal with_a (commands.Fill a (between past origin) (near (pos 1)) true) ≡ Some refusals.ValueRange
fill_past_the_range = refl

fill_with_a_value_past_the_range : refusal with_a (commands.Fill a (between (point (pos 1) (pos 0) (pos 0)) origin) (near (pos 2147483648)) true) ≡ Some refusals.ValueRange
fill_with_a_value_past_the_range = refl

fill_of_no_box : refusal with_a (commands.Fill a (between (point (pos 1) (pos 0) (pos 0)) origin) (near (pos 1)) true) ≡ Some refusals.Box
fill_of_no_box = refl

fill_of_one_voxel : first_of_all (take 4 (tried with_a (commands.Fill a (between origin origin) (near (pos 1)) true))) ≡ None
fill_of_one_voxel = refl

clip_of_none : refusal [] (commands.Clip a (between past origin)) ≡ Some refusals.NoGrid
clip_of_none = refl

clip_past_the_range : refusal with_a (commands.Clip a (between past origin)) ≡ Some refusals.ValueRange
clip_past_the_range = refl

clip_to_no_box : refusal with_a (commands.Clip a (between (point (pos 1) (pos 0) (pos 0)) origin)) ≡ Some refusals.Box
clip_to_no_box = refl

clip_to_one_voxel : refusal with_a (commands.Clip a (between origin origin)) ≡ None
clip_to_one_voxel = refl

-- a count of a box fails as a clip does, and a count of all only if the grid does not exist
count_of_none : refusal [] (commands.Count a (Some (between past origin))) ≡ Some refusals.NoGrid
count_of_none = refl

count_past_the_range : refusal with_a (commands.Count a (Some (between past origin))) ≡ Some refusals.ValueRange
count_past_the_range = refl

count_of_no_box : refusal with_a (commands.Count a (Some (between (point (pos 1) (pos 0) (pos 0)) origin))) ≡ Some refusals.Box
count_of_no_box = refl

count_of_all : refusal with_a (commands.Count a None) ≡ None
count_of_all = refl

count_of_all_of_none : refusal [] (commands.Count a None) ≡ Some refusals.NoGrid
count_of_all_of_none = refl

bounds_of_none : refusal [] (commands.Bounds a) ≡ Some refusals.NoGrid
bounds_of_none = refl

census_of_none : refusal [] (commands.Census a) ≡ Some refusals.NoGrid
census_of_none = refl

-- a dilation and an erosion have 1 to 16 iterations
dilate_of_none : refusal [] (commands.Dilate a (Near (pos 17))) ≡ Some refusals.NoGrid
dilate_of_none = refl

dilate_by_no_iteration : refusal with_a (commands.Dilate a (Near (pos 0))) ≡ Some refusals.ValueRange
dilate_by_no_iteration = refl

dilate_by_seventeen : refusal with_a (commands.Dilate a (Near (pos 17))) ≡ Some refusals.ValueRange
dilate_by_seventeen = refl

dilate_by_far_more : refusal with_a (commands.Dilate a Far) ≡ Some refusals.ValueRange
dilate_by_far_more = refl

dilate_by_sixteen : first_of_all (take 2 (tried with_a (commands.Dilate a (Near (pos 16))))) ≡ None
dilate_by_sixteen = refl

erode_of_none : refusal [] (commands.Erode a (Near (pos 17))) ≡ Some refusals.NoGrid
erode_of_none = refl

erode_by_less_than_none : refusal with_a (commands.Erode a (Near (negsuc 0))) ≡ Some refusals.ValueRange
erode_by_less_than_none = refl

erode_by_seventeen : refusal with_a (commands.Erode a (Near (pos 17))) ≡ Some refusals.ValueRange
erode_by_seventeen = refl

erode_by_sixteen : refusal with_a (commands.Erode a (Near (pos 16))) ≡ None
erode_by_sixteen = refl

-- an allocation may fail in an erosion without another error, and in a dilation before its root limit
dilate_before_the_limit : first_refusal with_a (commands.Dilate a (Near (pos 16))) ≡ None
dilate_before_the_limit = refl

dilate_out_of_range_first : first_refusal with_a (commands.Dilate a (Near (pos 17))) ≡ Some refusals.ValueRange
dilate_out_of_range_first = refl

-- a sixty-fifth grid, of a taken name and of a free one
abbrev crowd : Scene
crowd = map (λ k. (97 ∷ (97 + k) ∷ [], new_grid (truth false) 4096)) (range_with_len 0 64)

one_too_many : refusal crowd make_a ≡ Some refusals.GridLimit
one_too_many = refl

taken_first : refusal crowd (commands.Grid (codes "ab") kinds.I32 (near (pos 0)) None) ≡ Some refusals.NameTaken
taken_first = refl

-- a copy of a missing grid, to a taken name, and to a free name, in a scene of 64 grids
copy_of_none : refusal crowd (commands.Copy a (codes "ab")) ≡ Some refusals.NoGrid
copy_of_none = refl

copy_to_itself : refusal crowd (commands.Copy (codes "ab") (codes "ab")) ≡ Some refusals.NameTaken
copy_to_itself = refl

copy_too_many : refusal crowd (commands.Copy (codes "ab") a) ≡ Some refusals.GridLimit
copy_too_many = refl

-- ---- scenes

-- one voxel is set, and no other
abbrev set_seven : Command
set_seven = commands.Set a None (point (negsuc 0) (negsuc 0) (negsuc 0)) (near (pos 7))

abbrev cell_after : ℤ → Cell Scalar
cell_after x = (field_at (after with_a set_seven) a).cell (coord x (negsuc 0) (negsuc 0))

seven : cell_after (negsuc 0) ≡ record { value = I32 (pos 7); on = true }
seven = refl

beside : cell_after (pos 0) ≡ record { value = I32 (pos 0); on = false }
beside = refl

takes_none : takes_memory (after with_a set_seven) set_seven ≡ false
takes_none = refl

-- the voxel is set in a copy, too
copied : (field_at (after (after with_a set_seven) (commands.Copy a (codes "b"))) (codes "b")).cell (coord (negsuc 0) (negsuc 0) (negsuc 0)) ≡ record { value = I32 (pos 7); on = true }
copied = refl

-- a box is filled, and everything outside a box in it is cleared
abbrev filled : Scene
filled = after with_a (commands.Fill a (between (point (negsuc 1) (pos 0) (pos 0)) (point (pos 4) (pos 9) (pos 0))) (near (pos 7)) false)

abbrev clipped : Scene
clipped = after filled (commands.Clip a (between origin (point (pos 9) (pos 9) (pos 9))))

abbrev cell_in : Scene → ℤ → Cell Scalar
cell_in s x = (field_at s a).cell (coord x (pos 9) (pos 0))

in_the_box : cell_in filled (negsuc 1) ≡ record { value = I32 (pos 7); on = false }
in_the_box = refl

beyond_the_box : cell_in filled (pos 5) ≡ record { value = I32 (pos 0); on = false }
beyond_the_box = refl

kept_by_the_clip : cell_in clipped (pos 4) ≡ record { value = I32 (pos 7); on = false }
kept_by_the_clip = refl

cleared_by_the_clip : cell_in clipped (negsuc 0) ≡ record { value = I32 (pos 0); on = false }
cleared_by_the_clip = refl

-- two iterations reach voxels two faces away, and one iteration of erosion removes the outermost
abbrev dilated : Scene
dilated = after (after with_a set_seven) (commands.Dilate a (Near (pos 2)))

abbrev eroded : Scene
eroded = after dilated (commands.Erode a (Near (pos 1)))

abbrev cell_of : Scene → ℤ → ℤ → Cell Scalar
cell_of s x y = (field_at s a).cell (coord x y (negsuc 0))

kept_by_the_dilation : cell_of dilated (negsuc 0) (negsuc 0) ≡ record { value = I32 (pos 7); on = true }
kept_by_the_dilation = refl

two_away : cell_of dilated (pos 0) (pos 0) ≡ record { value = I32 (pos 0); on = true }
two_away = refl

three_away : cell_of dilated (pos 1) (pos 0) ≡ record { value = I32 (pos 0); on = false }
three_away = refl

inside_before_the_erosion : cell_of eroded (pos 0) (negsuc 0) ≡ record { value = I32 (pos 0); on = true }
inside_before_the_erosion = refl

outermost_before_the_erosion : cell_of eroded (pos 0) (pos 0) ≡ record { value = I32 (pos 0); on = false }
outermost_before_the_erosion = refl

-- a step that fails
stays : Step with_a make_a (Refused refusals.NameTaken) with_a
stays = inl (refusals.NameTaken, refl, refl, refl)
