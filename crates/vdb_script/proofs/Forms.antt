-- Each form takes a fixed number of tokens.
use Rattle.vdb_script.proofs.Common.{◌≡◌, ◌≢◌, ℕ, ◌+◌, ◌<◌, ◌≤◌, Bool, true, false, cond, List, [], ◌∷◌, Option, Some, None, Ok, Err, length, refl, ap, sym, ◌∙◌, arith, bytes_eq, codes, get_or, ◌⊎◌, inl, inr, option_map, option_and_then, if◌then◌else◌, AllByRecursion, option_and_then_some, Command, Literal, Num, Point, tokens, Form, ◌>>=◌, give, one, point, corners, grid_with, grid, copy, get, voxel_value, two_grids, state, fill, clip, prune, voxelise, all_of, count_box, count_all, count, bounds, census, or_else, list, slice, iterations, meta, unmeta, metas, whole, command_forms, command_of, word_of, is_comment, meaning, parse, name_of, text_of, kind_named, state_of, literal_of, accessor_of, number_of}
use Rattle.vdb_scene.specs.declared.command.Command.TheVariants as commands
use Rattle.vdb_scene.specs.declared.answer.Refusal.TheVariants as refusals
use Rattle.vdb_script.specs.Grammar.{drop}

-- if a form matches, it takes this number of tokens
pub record Takes {A : Type 0} (n : ℕ) (form : Form A) : Type 0 where
  pub count : (tokens : List (List ℕ)) (a : A) (rest : List (List ℕ)) → form tokens ≡ Some (a, rest) → length tokens ≡ n + length rest

-- the tokens after the match
behind : {A : Type 0} → Option (A × List (List ℕ)) → List (List ℕ)
behind None = []
behind (Some found) = found.1

behind_map : {A : Type 0} (found : Option A) (tokens rest : List (List ℕ)) (a : A) → option_map {U = A × List (List ℕ)} (λ a. (a, tokens)) found ≡ Some (a, rest) → tokens ≡ rest
unfolding behind
behind_map None tokens rest a e = cc
behind_map (Some b) tokens rest a e = ap behind e

one_count : {A : Type 0} (read : List ℕ → Option A) (tokens : List (List ℕ)) (a : A) (rest : List (List ℕ)) → one read tokens ≡ Some (a, rest) → length tokens ≡ 1 + length rest
one_count read [] a rest e = cc
one_count read (token ∷ tokens) a rest e = omega (arith, ap length (behind_map (read token) tokens rest a e))

-- one token
pub one_takes : {A : Type 0} (read : List ℕ → Option A) → Takes 1 (one read)
one_takes read = record { count = one_count read }

-- one form after another
pub then_takes : {A B : Type 0} (n m : ℕ) (first : Form A) (rest : A → Form B) → Takes n first → ((a : A) → Takes m (rest a)) → Takes (n + m) (first >>= rest)
then_takes n m first rest p q = record {
  count = λ tokens b after e. option_and_then_some (λ found. rest found.0 found.1) (first tokens) (b, after) e
      (λ found is_found is_rest. omega (arith, p.count tokens found.0 found.1 is_found, (q found.0).count found.1 b after is_rest));
}

-- no token
pub give_takes : {A : Type 0} (a : A) → Takes 0 (give a)
unfolding behind
give_takes a = record { count = λ tokens b after e. omega (arith, ap length (ap behind e)) }

-- a coordinate
point_takes : Takes 3 point
point_takes = then_takes 1 2 _ _ (one_takes number_of) (λ x. then_takes 1 1 _ _ (one_takes number_of) (λ y. then_takes 1 0 _ _ (one_takes number_of) (λ z. give_takes _)))

found_or_not : {A : Type 0} (o : Option A) → ((a : A) × (o ≡ Some a)) ⊎ (o ≡ None)
found_or_not (Some a) = inl (a, refl)
found_or_not None = inr refl

some_none : {A : Type 0} (a : A) → Some a ≡ None → ⊥
some_none a e = cc

-- three tokens that are not a coordinate are none whatever follows them
pub point_none : (x y z : List ℕ) (rest : List (List ℕ)) → point (x ∷ y ∷ z ∷ []) ≡ None → point (x ∷ y ∷ z ∷ rest) ≡ None
point_none x y z rest h = elim (found_or_not (number_of x)) [
  | inr none ↦ rw none refl
  | inl a ↦ elim (found_or_not (number_of y)) [
    | inr none ↦ rw (a.1, none) refl
    | inl b ↦ elim (found_or_not (number_of z)) [
      | inr none ↦ rw (a.1, b.1, none) refl
      | inl c ↦ absurd (some_none _ (rw (a.1, b.1, c.1) at h))
    ]
  ]
]

-- two corners
corners_takes : Takes 6 corners
corners_takes = then_takes 3 3 _ _ point_takes (λ min. then_takes 3 0 _ _ point_takes (λ max. give_takes _))

-- drop NAME
pub drop_takes : Takes 1 drop
drop_takes = then_takes 1 0 _ _ (one_takes name_of) (λ name. give_takes _)

-- copy FROM TO
pub copy_takes : Takes 2 copy
copy_takes = then_takes 1 1 _ _ (one_takes name_of) (λ from. then_takes 1 0 _ _ (one_takes name_of) (λ to. give_takes _))

-- fill NAME X0 Y0 Z0 X1 Y1 Z1 VALUE STATE
pub fill_takes : Takes 9 fill
fill_takes = then_takes 1 8 _ _ (one_takes name_of) (λ name. then_takes 6 2 _ _ corners_takes (λ c. then_takes 1 1 _ _ (one_takes literal_of) (λ v. then_takes 1 0 _ _ (one_takes state_of) (λ on. give_takes _))))

-- clip NAME X0 Y0 Z0 X1 Y1 Z1
pub clip_takes : Takes 7 clip
clip_takes = then_takes 1 6 _ _ (one_takes name_of) (λ name. then_takes 6 0 _ _ corners_takes (λ c. give_takes _))

-- voxelise NAME X0 Y0 Z0 X1 Y1 Z1
pub voxelise_takes : Takes 7 voxelise
voxelise_takes = then_takes 1 6 _ _ (one_takes name_of) (λ name. then_takes 6 0 _ _ corners_takes (λ c. give_takes _))

-- grid NAME KIND BACKGROUND LIMIT
abbrev grid_limited : Form Command
grid_limited = grid_with (one (λ t. option_map Some (number_of t)))

grid_limited_takes : Takes 4 grid_limited
grid_limited_takes = then_takes 1 3 _ _ (one_takes name_of) (λ name. then_takes 1 2 _ _ (one_takes kind_named) (λ kind. then_takes 1 1 _ _ (one_takes literal_of) (λ background. then_takes 1 0 _ _ (one_takes _) (λ most. give_takes _))))

-- grid NAME KIND BACKGROUND
abbrev grid_unlimited : Form Command
grid_unlimited = grid_with (give None)

grid_unlimited_takes : Takes 3 grid_unlimited
grid_unlimited_takes = then_takes 1 2 _ _ (one_takes name_of) (λ name. then_takes 1 1 _ _ (one_takes kind_named) (λ kind. then_takes 1 0 _ _ (one_takes literal_of) (λ background. then_takes 0 0 _ _ (give_takes {A = Option Num} None) (λ most. give_takes (commands.Grid name kind background most)))))

-- NAME OTHER
pub two_grids_takes : (make : List ℕ → List ℕ → Command) → Takes 2 (two_grids make)
two_grids_takes make = then_takes 1 1 _ _ (one_takes name_of) (λ name. then_takes 1 0 _ _ (one_takes name_of) (λ other. give_takes _))

-- NAME ITERATIONS
pub iterations_takes : (make : List ℕ → Num → Command) → Takes 2 (iterations make)
iterations_takes make = then_takes 1 1 _ _ (one_takes name_of) (λ name. then_takes 1 0 _ _ (one_takes number_of) (λ n. give_takes _))

-- meta NAME KEY TEXT
pub meta_takes : Takes 3 meta
meta_takes = then_takes 1 2 _ _ (one_takes name_of) (λ name. then_takes 1 1 _ _ (one_takes name_of) (λ key. then_takes 1 0 _ _ (one_takes text_of) (λ text. give_takes _)))

-- unmeta NAME KEY
pub unmeta_takes : Takes 2 unmeta
unmeta_takes = then_takes 1 1 _ _ (one_takes name_of) (λ name. then_takes 1 0 _ _ (one_takes name_of) (λ key. give_takes _))

-- metas NAME
pub metas_takes : Takes 1 metas
metas_takes = then_takes 1 0 _ _ (one_takes name_of) (λ name. give_takes _)

-- get NAME ACCESSOR X Y Z
pub get_takes : Takes 5 get
get_takes = then_takes 1 4 _ _ (one_takes name_of) (λ name. then_takes 1 3 _ _ (one_takes accessor_of) (λ k. then_takes 3 0 _ _ point_takes (λ at. give_takes _)))

-- NAME ACCESSOR X Y Z VALUE
pub voxel_value_takes : (make : List ℕ → Option Num → Point → Literal → Command) → Takes 6 (voxel_value make)
voxel_value_takes make = then_takes 1 5 _ _ (one_takes name_of) (λ name. then_takes 1 4 _ _ (one_takes accessor_of) (λ k. then_takes 3 1 _ _ point_takes (λ at. then_takes 1 0 _ _ (one_takes literal_of) (λ v. give_takes _))))

-- state NAME ACCESSOR X Y Z STATE
pub state_takes : Takes 6 state
state_takes = then_takes 1 5 _ _ (one_takes name_of) (λ name. then_takes 1 4 _ _ (one_takes accessor_of) (λ k. then_takes 3 1 _ _ point_takes (λ at. then_takes 1 0 _ _ (one_takes state_of) (λ on. give_takes _))))

-- prune NAME
pub prune_takes : Takes 1 prune
prune_takes = then_takes 1 0 _ _ (one_takes name_of) (λ name. give_takes _)

-- list NAME X0 Y0 Z0 X1 Y1 Z1 LIMIT
pub list_takes : Takes 8 list
list_takes = then_takes 1 7 _ _ (one_takes name_of) (λ name. then_takes 6 1 _ _ corners_takes (λ c. then_takes 1 0 _ _ (one_takes number_of) (λ limit. give_takes _)))

-- slice NAME Z X0 Y0 X1 Y1
pub slice_takes : Takes 6 slice
slice_takes =
    then_takes 1 5 _ _ (one_takes name_of) (λ name. then_takes 1 4 _ _ (one_takes number_of) (λ z. then_takes 1 3 _ _ (one_takes number_of) (λ x0. then_takes 1 2 _ _ (one_takes number_of)
    (λ y0. then_takes 1 1 _ _ (one_takes number_of) (λ x1. then_takes 1 0 _ _ (one_takes number_of) (λ y1. give_takes _))))))

-- count NAME X0 Y0 Z0 X1 Y1 Z1
count_box_takes : Takes 7 count_box
count_box_takes = then_takes 1 6 _ _ (one_takes name_of) (λ name. then_takes 6 0 _ _ corners_takes (λ c. give_takes _))

-- count NAME all
count_all_takes : Takes 2 count_all
count_all_takes = then_takes 1 1 _ _ (one_takes name_of) (λ name. then_takes 1 0 _ _ (one_takes all_of) (λ c. give_takes _))

-- bounds NAME
pub bounds_takes : Takes 1 bounds
bounds_takes = then_takes 1 0 _ _ (one_takes name_of) (λ name. give_takes _)

-- census NAME
pub census_takes : Takes 1 census
census_takes = then_takes 1 0 _ _ (one_takes name_of) (λ name. give_takes _)

no_whole : (found : Option (Command × List (List ℕ))) → ((c : Command) → found ≡ Some (c, []) → ⊥) → Err refusals.Syntax ≡ whole found
no_whole None other = refl
no_whole (Some (c, [])) other = absurd (other c refl)
no_whole (Some (c, token ∷ tokens)) other = refl

-- seven items, one by one
pub seven : {A : Type 0} (ts : List A) (d : A) → length ts ≡ 7
    → ts ≡ get_or ts 0 d ∷ get_or ts 1 d ∷ get_or ts 2 d ∷ get_or ts 3 d ∷ get_or ts 4 d ∷ get_or ts 5 d ∷ get_or ts 6 d ∷ []
seven (a ∷ b ∷ c ∷ e ∷ f ∷ g ∷ h ∷ []) d l = refl
seven [] d l = absurd (let n : 0 ≡ 7 = l in omega (arith, n))
seven (a ∷ []) d l = absurd (let n : 1 ≡ 7 = l in omega (arith, n))
seven (a ∷ b ∷ []) d l = absurd (let n : 2 ≡ 7 = l in omega (arith, n))
seven (a ∷ b ∷ c ∷ []) d l = absurd (let n : 3 ≡ 7 = l in omega (arith, n))
seven (a ∷ b ∷ c ∷ e ∷ []) d l = absurd (let n : 4 ≡ 7 = l in omega (arith, n))
seven (a ∷ b ∷ c ∷ e ∷ f ∷ []) d l = absurd (let n : 5 ≡ 7 = l in omega (arith, n))
seven (a ∷ b ∷ c ∷ e ∷ f ∷ g ∷ []) d l = absurd (let n : 6 ≡ 7 = l in omega (arith, n))
seven (a ∷ b ∷ c ∷ e ∷ f ∷ g ∷ h ∷ i ∷ more) d l = absurd (omega (arith, l))

-- eight items, one by one
pub eight : {A : Type 0} (ts : List A) (d : A) → length ts ≡ 8
    → ts ≡ get_or ts 0 d ∷ get_or ts 1 d ∷ get_or ts 2 d ∷ get_or ts 3 d ∷ get_or ts 4 d ∷ get_or ts 5 d ∷ get_or ts 6 d ∷ get_or ts 7 d ∷ []
eight (a ∷ ts) d l = ap (λ us. a ∷ us) (seven ts d (omega (arith, l)))
eight [] d l = absurd (let n : 0 ≡ 8 = l in omega (arith, n))

-- nine items, one by one
pub nine : {A : Type 0} (ts : List A) (d : A) → length ts ≡ 9
    → ts ≡ get_or ts 0 d ∷ get_or ts 1 d ∷ get_or ts 2 d ∷ get_or ts 3 d ∷ get_or ts 4 d ∷ get_or ts 5 d ∷ get_or ts 6 d ∷ get_or ts 7 d ∷ get_or ts 8 d ∷ []
nine (a ∷ b ∷ ts) d l = ap (λ us. a ∷ b ∷ us) (seven ts d (omega (arith, l)))
nine (a ∷ []) d l = absurd (let n : 1 ≡ 9 = l in omega (arith, n))
nine [] d l = absurd (let n : 0 ≡ 9 = l in omega (arith, n))

-- any other number of tokens is no command
pub whole_takes : (n : ℕ) (form : Form Command) (tokens : List (List ℕ)) → Takes n form → length tokens ≢ n → Err refusals.Syntax ≡ whole (form tokens)
whole_takes n form tokens takes other = no_whole (form tokens) (λ c e. other (let count : length tokens ≡ n + 0 = takes.count tokens c [] e in omega arith))

or_neither : (a b : Option (Command × List (List ℕ))) → Err refusals.Syntax ≡ whole a → Err refusals.Syntax ≡ whole b → Err refusals.Syntax ≡ whole (or_else a b)
or_neither None b h k = k
or_neither (Some (c, rest)) b h k = h

-- neither of the two forms of count takes another number of tokens
pub no_count : (tokens : List (List ℕ)) → length tokens ≢ 2 → length tokens ≢ 7 → Err refusals.Syntax ≡ whole (count tokens)
no_count tokens two seven =
    or_neither (count_box tokens) (count_all tokens) (whole_takes 7 count_box tokens count_box_takes seven) (whole_takes 2 count_all tokens count_all_takes two)

or_whole : (a b : Option (Command × List (List ℕ))) → Err refusals.Syntax ≡ whole b → whole (or_else a b) ≡ whole a
or_whole None b h = sym h
or_whole (Some (c, rest)) b h = refl

-- seven are a count of a box, or of nothing
pub count_of_seven : (tokens : List (List ℕ)) → length tokens ≡ 7 → whole (count tokens) ≡ whole (count_box tokens)
count_of_seven tokens seven = or_whole (count_box tokens) (count_all tokens) (whole_takes 2 count_all tokens count_all_takes (omega (arith, seven)))

-- neither of the two forms of grid takes another number of tokens
pub no_grid : (tokens : List (List ℕ)) → length tokens ≢ 3 → length tokens ≢ 4 → Err refusals.Syntax ≡ whole (grid tokens)
no_grid tokens three four =
    or_neither (grid_limited tokens) (grid_unlimited tokens) (whole_takes 4 grid_limited tokens grid_limited_takes four) (whole_takes 3 grid_unlimited tokens grid_unlimited_takes three)

picked : (test : Bool) (form : Form Command) (others : Option (Form Command)) (tokens : List (List ℕ)) → Err refusals.Syntax ≡ whole (form tokens)
    → Err refusals.Syntax ≡ whole (option_and_then (λ f. f tokens) others) → Err refusals.Syntax ≡ whole (option_and_then (λ f. f tokens) (cond test (Some form) others))
picked true form others tokens h k = h
picked false form others tokens h k = k

-- a command's form takes at most nine tokens
record TakesFew (command : List ℕ × Form Command) : Type 0 where
  none : (tokens : List (List ℕ)) → 9 < length tokens → Err refusals.Syntax ≡ whole (command.1 tokens)

few : {command : List ℕ × Form Command} (n : ℕ) → n ≤ 9 → Takes n command.1 → TakesFew command
few {command} n bound takes = record { none = λ tokens many. whole_takes n command.1 tokens takes (omega (arith, bound, many)) }

count_takes_few : TakesFew (codes "count", count)
count_takes_few = record { none = λ tokens many. no_count tokens (omega (arith, many)) (omega (arith, many)) }

grid_takes_few : TakesFew (codes "grid", grid)
grid_takes_few = record { none = λ tokens many. no_grid tokens (omega (arith, many)) (omega (arith, many)) }

-- each command's form takes at most nine tokens
commands_take_few : AllByRecursion TakesFew command_forms
commands_take_few = (few 5 (omega arith) get_takes, (few 6 (omega arith) (voxel_value_takes commands.Set), (few 6 (omega arith) (voxel_value_takes commands.Unset), (few 6 (omega arith) (voxel_value_takes commands.Only), (few 6 (omega arith) state_takes, (few 9 (omega arith) fill_takes, (few 7 (omega arith) clip_takes, (few 7 (omega arith) voxelise_takes, (count_takes_few, (few 8 (omega arith) list_takes, (few 6 (omega arith) slice_takes, (grid_takes_few, (few 1 (omega arith) drop_takes, (few 2 (omega arith) copy_takes, (few 1 (omega arith) prune_takes, (few 1 (omega arith) bounds_takes, (few 1 (omega arith) census_takes, (few 3 (omega arith) meta_takes, (few 2 (omega arith) unmeta_takes, (few 1 (omega arith) metas_takes, (few 2 (omega arith) (two_grids_takes commands.Union), (few 2 (omega arith) (two_grids_takes commands.Difference), (few 2 (omega arith) (two_grids_takes commands.Intersect), (few 2 (omega arith) (two_grids_takes commands.Max), (few 2 (omega arith) (two_grids_takes commands.Min), (few 2 (omega arith) (two_grids_takes commands.Sum), (few 2 (omega arith) (two_grids_takes commands.Replace), (few 2 (omega arith) (iterations_takes commands.Dilate), (few 2 (omega arith) (iterations_takes commands.Erode), tt)))))))))))))))))))))))))))))

too_many_for : (commands : List (List ℕ × Form Command)) (word : List ℕ) (tokens : List (List ℕ)) → AllByRecursion TakesFew commands → 9 < length tokens
    → Err refusals.Syntax ≡ whole (option_and_then (λ form. form tokens) (word_of commands word))
too_many_for [] word tokens take many = refl
too_many_for (command ∷ commands) word tokens take many =
    picked (bytes_eq word command.0) command.1 (word_of commands word) tokens (take.0.none tokens many) (too_many_for commands word tokens take.1 many)

-- no command has more than nine tokens after its word
too_many : (word : List ℕ) (tokens : List (List ℕ)) → 9 < length tokens → Err refusals.Syntax ≡ command_of word tokens
too_many word tokens many = too_many_for command_forms word tokens commands_take_few many

meant : (pieces others : List (List ℕ)) (word : List ℕ) → pieces ≡ word ∷ others → is_comment word ≡ false → meaning pieces ≡ command_of word others
meant pieces others word e f = ap meaning e ∙ ap (λ test. if test then Ok None else command_of word others) f

-- a line with a word that begins no comment
pub line_meant : (line word rest : List ℕ) (others : List (List ℕ)) → tokens line ≡ word ∷ tokens rest → is_comment word ≡ false → others ≡ tokens rest → parse line ≡ command_of word others
line_meant line word rest others e f g = meant (tokens line) (tokens rest) word e f ∙ ap (command_of word) (sym g)

-- such a line with too many tokens
pub line_refused : (line word rest : List ℕ) → tokens line ≡ word ∷ tokens rest → is_comment word ≡ false → 9 < length (tokens rest) → Err refusals.Syntax ≡ parse line
line_refused line word rest e f many = too_many word (tokens rest) many ∙ sym (line_meant line word rest (tokens rest) e f refl)
