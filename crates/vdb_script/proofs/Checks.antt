-- Lines, tokens, commands and texts, found by computing.
use Rattle.vdb_script.proofs.Common.{refl, ◌≡◌, pos, true, false, [], ◌∷◌, ◌++◌, codes, Some, None, Ok, Err, coord, Refused, Bounds, tokens, number_of, parse, read}
use Rattle.std.proofs.Common.{negsuc, replicate}
use Rattle.std.specs.List.{flat_map}
use Rattle.std.specs.Fmt.{digits}
use Rattle.vdb_value.specs.declared.Kind.TheVariants as kinds
use Rattle.vdb_scene.specs.declared.command.Command.TheVariants as commands
use Rattle.vdb_scene.specs.declared.command.Literal.TheVariants.{Number, Truth}
use Rattle.vdb_scene.specs.declared.command.Num.TheVariants.{Near, Far}
use Rattle.vdb_scene.specs.declared.answer.Refusal.TheVariants as refusals
use Rattle.vdb_scene.specs.declared.scalar.Scalar.TheVariants.{I32, I64}
use Rattle.vdb_scene.specs.Replies.{Done, Value, Count, Census}
use Rattle.vdb_script.specs.Lines.{lines}
use Rattle.vdb_script.specs.Text.{text}

-- ---- lines and tokens

-- an empty line between two newlines
three_lines : lines (codes "a\n\nb") ≡ codes "a" ∷ [] ∷ codes "b" ∷ []
three_lines = refl

-- no line after the last newline if no byte follows it
ended_line : lines (codes "a\n") ≡ codes "a" ∷ []
ended_line = refl

-- tabs and carriage returns separate, and no separator is part of a token
separated : tokens (codes "\t get  a\rb\r") ≡ codes "get" ∷ codes "a" ∷ codes "b" ∷ []
separated = refl

-- separators alone have no token
blank : tokens (codes " \t \r") ≡ []
blank = refl

-- ---- numbers

greatest : number_of (codes "9223372036854775807") ≡ Some (Near (pos 9223372036854775807))
greatest = refl

above_greatest : number_of (codes "9223372036854775808") ≡ Some Far
above_greatest = refl

least : number_of (codes "-9223372036854775808") ≡ Some (Near (negsuc 9223372036854775807))
least = refl

below_least : number_of (codes "-9223372036854775809") ≡ Some Far
below_least = refl

forty_digits : number_of (codes "1234567890123456789012345678901234567890") ≡ Some Far
forty_digits = refl

nought : number_of (codes "0") ≡ Some (Near (pos 0))
nought = refl

minus_nought : number_of (codes "-0") ≡ None
minus_nought = refl

nought_in_front : number_of (codes "01") ≡ None
nought_in_front = refl

plus_sign : number_of (codes "+5") ≡ None
plus_sign = refl

no_bytes : number_of [] ≡ None
no_bytes = refl

sign_alone : number_of (codes "-") ≡ None
sign_alone = refl

letter_behind : number_of (codes "5a") ≡ None
letter_behind = refl

-- ---- commands

grid_number : parse (codes "grid a i32 0") ≡ Ok (Some (commands.Grid (codes "a") kinds.I32 (Number (Near (pos 0))) None))
grid_number = refl

grid_truth : parse (codes "grid a i32 true") ≡ Ok (Some (commands.Grid (codes "a") kinds.I32 (Truth true) None))
grid_truth = refl

other_kind : parse (codes "grid a f32 0") ≡ Err refusals.Syntax
other_kind = refl

capital : parse (codes "grid A i32 0") ≡ Err refusals.Syntax
capital = refl

longest_name : parse (codes "grid abcdefghijklmnop i32 0") ≡ Ok (Some (commands.Grid (codes "abcdefghijklmnop") kinds.I32 (Number (Near (pos 0))) None))
longest_name = refl

longer_name : parse (codes "grid abcdefghijklmnopq i32 0") ≡ Err refusals.Syntax
longer_name = refl

grid_limited : parse (codes "grid a i32 0 65536") ≡ Ok (Some (commands.Grid (codes "a") kinds.I32 (Number (Near (pos 0))) (Some (Near (pos 65536)))))
grid_limited = refl

limit_below_zero : parse (codes "grid a i32 0 -5") ≡ Ok (Some (commands.Grid (codes "a") kinds.I32 (Number (Near (pos 0))) (Some (Near (negsuc 4)))))
limit_below_zero = refl

limit_of_twenty_digits : parse (codes "grid a i32 0 99999999999999999999") ≡ Ok (Some (commands.Grid (codes "a") kinds.I32 (Number (Near (pos 0))) (Some Far)))
limit_of_twenty_digits = refl

limit_of_letters : parse (codes "grid a i32 0 all") ≡ Err refusals.Syntax
limit_of_letters = refl

two_limits : parse (codes "grid a i32 0 1 1") ≡ Err refusals.Syntax
two_limits = refl

set_without_accessor : parse (codes "set a - 0 0 2147483648 1")
    ≡ Ok (Some (commands.Set (codes "a") None (record { x = Near (pos 0); y = Near (pos 0); z = Near (pos 2147483648) }) (Number (Near (pos 1)))))
set_without_accessor = refl

set_with_accessor : parse (codes "set a 8 0 0 0 1")
    ≡ Ok (Some (commands.Set (codes "a") (Some (Near (pos 8))) (record { x = Near (pos 0); y = Near (pos 0); z = Near (pos 0) }) (Number (Near (pos 1)))))
set_with_accessor = refl

get_without_accessor : parse (codes "get b - 0 0 0") ≡ Ok (Some (commands.Get (codes "b") None (record { x = Near (pos 0); y = Near (pos 0); z = Near (pos 0) })))
get_without_accessor = refl

kinds_read : parse (codes "grid a bool true") ≡ Ok (Some (commands.Grid (codes "a") kinds.Bool (Truth true) None))
kinds_read = refl

wide_kind_read : parse (codes "grid a i64 -1") ≡ Ok (Some (commands.Grid (codes "a") kinds.I64 (Number (Near (negsuc 0))) None))
wide_kind_read = refl

unset_read : parse (codes "unset a - 0 0 0 1") ≡ Ok (Some (commands.Unset (codes "a") None (record { x = Near (pos 0); y = Near (pos 0); z = Near (pos 0) }) (Number (Near (pos 1)))))
unset_read = refl

only_read : parse (codes "only a - 0 0 0 1") ≡ Ok (Some (commands.Only (codes "a") None (record { x = Near (pos 0); y = Near (pos 0); z = Near (pos 0) }) (Number (Near (pos 1)))))
only_read = refl

state_read : parse (codes "state a - 0 0 0 off") ≡ Ok (Some (commands.State (codes "a") None (record { x = Near (pos 0); y = Near (pos 0); z = Near (pos 0) }) false))
state_read = refl

state_by_number : parse (codes "state a - 0 0 0 1") ≡ Err refusals.Syntax
state_by_number = refl

prune_read : parse (codes "prune a") ≡ Ok (Some (commands.Prune (codes "a")))
prune_read = refl

drop_read : parse (codes "drop a") ≡ Ok (Some (commands.Drop (codes "a")))
drop_read = refl

copy_read : parse (codes "copy a b_2") ≡ Ok (Some (commands.Copy (codes "a") (codes "b_2")))
copy_read = refl

voxelise_read : parse (codes "voxelise a 0 1 2 3 4 5")
    ≡ Ok (Some (commands.Voxelise (codes "a") (record {
      min = record { x = Near (pos 0); y = Near (pos 1); z = Near (pos 2) };
      max = record { x = Near (pos 3); y = Near (pos 4); z = Near (pos 5) };
    })))
voxelise_read = refl

voxelise_with_a_number_too_few : parse (codes "voxelise a 0 1 2 3 4") ≡ Err refusals.Syntax
voxelise_with_a_number_too_few = refl

fill_read : parse (codes "fill a 0 1 2 3 4 5 6 off")
    ≡ Ok (Some (commands.Fill (codes "a") (record {
      min = record { x = Near (pos 0); y = Near (pos 1); z = Near (pos 2) };
      max = record { x = Near (pos 3); y = Near (pos 4); z = Near (pos 5) };
    }) (Number (Near (pos 6))) false))
fill_read = refl

fill_without_a_state : parse (codes "fill a 0 1 2 3 4 5 6") ≡ Err refusals.Syntax
fill_without_a_state = refl

fill_with_a_truth_value_for_a_state : parse (codes "fill a 0 1 2 3 4 5 6 true") ≡ Err refusals.Syntax
fill_with_a_truth_value_for_a_state = refl

clip_read : parse (codes "clip a 0 1 2 3 4 5")
    ≡ Ok (Some (commands.Clip (codes "a") (record {
      min = record { x = Near (pos 0); y = Near (pos 1); z = Near (pos 2) };
      max = record { x = Near (pos 3); y = Near (pos 4); z = Near (pos 5) };
    })))
clip_read = refl

clip_with_a_number_too_few : parse (codes "clip a 0 1 2 3 4") ≡ Err refusals.Syntax
clip_with_a_number_too_few = refl

count_read : parse (codes "count a 0 1 2 3 4 5")
    ≡ Ok (Some (commands.Count (codes "a") (Some (record {
      min = record { x = Near (pos 0); y = Near (pos 1); z = Near (pos 2) };
      max = record { x = Near (pos 3); y = Near (pos 4); z = Near (pos 5) };
    }))))
count_read = refl

count_of_all_read : parse (codes "count a all") ≡ Ok (Some (commands.Count (codes "a") None))
count_of_all_read = refl

count_of_all_and_a_box : parse (codes "count a all 1 2 3 4 5") ≡ Err refusals.Syntax
count_of_all_and_a_box = refl

count_of_nothing : parse (codes "count a") ≡ Err refusals.Syntax
count_of_nothing = refl

bounds_read : parse (codes "bounds a") ≡ Ok (Some (commands.Bounds (codes "a")))
bounds_read = refl

census_read : parse (codes "census a") ≡ Ok (Some (commands.Census (codes "a")))
census_read = refl

dilate_read : parse (codes "dilate a 3") ≡ Ok (Some (commands.Dilate (codes "a") (Near (pos 3))))
dilate_read = refl

erode_read : parse (codes "erode a -3") ≡ Ok (Some (commands.Erode (codes "a") (Near (negsuc 2))))
erode_read = refl

erode_without_iterations : parse (codes "erode a") ≡ Err refusals.Syntax
erode_without_iterations = refl

dilate_by_a_grid : parse (codes "dilate a b") ≡ Err refusals.Syntax
dilate_by_a_grid = refl

meta_read : parse (codes "meta a k \"x=1\"") ≡ Ok (Some (commands.Meta (codes "a") (codes "k") (codes "\"x=1\"")))
meta_read = refl

meta_with_a_capital_key : parse (codes "meta a K x") ≡ Err refusals.Syntax
meta_with_a_capital_key = refl

meta_without_a_text : parse (codes "meta a k") ≡ Err refusals.Syntax
meta_without_a_text = refl

meta_of_two_words : parse (codes "meta a k x y") ≡ Err refusals.Syntax
meta_of_two_words = refl

least_and_greatest_text : parse (codes "meta a k !~") ≡ Ok (Some (commands.Meta (codes "a") (codes "k") (33 ∷ 126 ∷ [])))
least_and_greatest_text = refl

meta_with_a_delete : parse (codes "meta a k " ++ 127 ∷ []) ≡ Err refusals.Syntax
meta_with_a_delete = refl

longest_meta : parse (codes "meta a k " ++ replicate 64 120) ≡ Ok (Some (commands.Meta (codes "a") (codes "k") (replicate 64 120)))
longest_meta = refl

longer_meta : parse (codes "meta a k " ++ replicate 65 120) ≡ Err refusals.Syntax
longer_meta = refl

unmeta_read : parse (codes "unmeta a k") ≡ Ok (Some (commands.Unmeta (codes "a") (codes "k")))
unmeta_read = refl

unmeta_without_a_key : parse (codes "unmeta a") ≡ Err refusals.Syntax
unmeta_without_a_key = refl

metas_read : parse (codes "metas a") ≡ Ok (Some (commands.Metas (codes "a")))
metas_read = refl

metas_of_two_grids : parse (codes "metas a b") ≡ Err refusals.Syntax
metas_of_two_grids = refl

bounds_of_all : parse (codes "bounds a all") ≡ Err refusals.Syntax
bounds_of_all = refl

other_word : parse (codes "pruned a") ≡ Err refusals.Syntax
other_word = refl

token_too_few : parse (codes "get b - 0 0") ≡ Err refusals.Syntax
token_too_few = refl

token_too_many : parse (codes "get b - 0 0 0 0") ≡ Err refusals.Syntax
token_too_many = refl

many_tokens : parse (codes "get b - 0 0 0 1 2 3 4 5 6 7 8 9") ≡ Err refusals.Syntax
many_tokens = refl

no_tokens : parse (codes " \t\r") ≡ Ok None
no_tokens = refl

comment : parse (codes "  # grid") ≡ Ok None
comment = refl

comment_of_one_token : parse (codes "#grid a i32 0") ≡ Ok None
comment_of_one_token = refl

comment_of_a_hundred_tokens : parse (flat_map (λ b. b ∷ codes " ") (replicate 100 35)) ≡ Ok None
comment_of_a_hundred_tokens = refl

-- ---- the longest line

longest_line : read (replicate 256 35) ≡ Ok None
longest_line = refl

longer_line : read (replicate 257 35) ≡ Err refusals.LineTooLong
longer_line = refl

-- ---- texts

done_text : text Done ≡ codes "ok\n"
done_text = refl

refused_text : text (Refused refusals.NameTaken) ≡ codes "error name-taken\n"
refused_text = refl

active_text : text (Value (record { value = I32 (pos 7); on = true })) ≡ codes "value 7 on\n"
unfolding digits
active_text = refl

least_text : text (Value (record { value = I64 (negsuc 9223372036854775807); on = false })) ≡ codes "value -9223372036854775808 off\n"
unfolding digits
least_text = refl

count_text : text (Count 79228162514264337593543950336) ≡ codes "count 79228162514264337593543950336\n"
unfolding digits
count_text = refl

bounds_text : text (Bounds (Some (record { min = coord (negsuc 4) (negsuc 1) (pos 1); max = coord (pos 3) (pos 40) (pos 1) }))) ≡ codes "bounds -5 -2 1 3 40 1\n"
unfolding digits
bounds_text = refl

no_bounds_text : text (Bounds None) ≡ codes "bounds none\n"
no_bounds_text = refl

census_text : text (Census (record { roots = 4096; upper = 1; lower = 0; leaf = 18446744073709551615 })) ≡ codes "census 4096 1 0 18446744073709551615\n"
unfolding digits
census_text = refl
