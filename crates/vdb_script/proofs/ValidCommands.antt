-- The names, keys and texts that the command of a line stores have their forms.
use Rattle.vdb_script.proofs.Common.{◌≡◌, refl, ap, subst, ℕ, Bool, true, false, cond, List, [], ◌∷◌, Option, Some, None, Result, Ok, Err, ◌⊎◌, inl, inr, bytes_eq, option_map, option_and_then, if◌then◌else◌, AllByRecursion, none-some, option_and_then_some, same_Some, HasValidTexts, Command, Literal, Num, Point, Refusal, tokens, Form, ◌>>=◌, give, one, grid_with, grid, copy, get, voxel_value, two_grids, state, fill, clip, prune, voxelise, count_box, count_all, count, bounds, census, or_else, list, slice, iterations, meta, unmeta, metas, whole, command_forms, command_of, word_of, is_comment, meaning, parse, name_of, text_of, kind_named, state_of, literal_of, accessor_of, number_of, all_of, point, corners}
use Rattle.vdb_scene.specs.Metas.{is_text}
use Rattle.vdb_scene.specs.Names.{is_name}
use Rattle.vdb_scene.specs.declared.command.Command.TheVariants as commands
use Rattle.vdb_script.specs.Grammar.{drop}

-- ---- forms

-- if a form matches, its meaning has this property
record Gives {A : Type 0} (P : A → Type 0) (form : Form A) : Type 0 where
  each : (tokens : List (List ℕ)) (a : A) (rest : List (List ℕ)) → form tokens ≡ Some (a, rest) → P a

-- any form, if nothing is asked of its meaning
any : {A : Type 0} {form : Form A} → Gives (λ a. Unit {0}) form
any = record { each = λ tokens a rest e. tt }

-- one form after another
then_gives : {A B : Type 0} {P : A → Type 0} {Q : B → Type 0} (first : Form A) {rest : A → Form B}
    → Gives P first → ((a : A) → P a → Gives Q (rest a)) → Gives Q (first >>= rest)
then_gives first {rest} p q = record {
  each = λ tokens b after e. option_and_then_some (λ found. rest found.0 found.1) (first tokens) (b, after) e
      (λ found is_found is_rest. (q found.0 (p.each tokens found.0 found.1 is_found)).each found.1 b after is_rest);
}

-- one form after another, if nothing is asked of the first meaning
then_any : {A B : Type 0} {Q : B → Type 0} (first : Form A) {rest : A → Form B} → ((a : A) → Gives Q (rest a)) → Gives Q (first >>= rest)
then_any first q = then_gives first any (λ a h. q a)

-- no token
give_gives : {A : Type 0} {P : A → Type 0} (a : A) → P a → Gives P (give a)
give_gives {A} {P} a h = record { each = λ tokens b rest e. subst P (ap (λ found. found.0) (same_Some (a, tokens) (b, rest) e)) h }

-- the token that a match read
read_of : {A : Type 0} (found : Option A) (tokens rest : List (List ℕ)) (a : A)
    → option_map {U = A × List (List ℕ)} (λ a. (a, tokens)) found ≡ Some (a, rest) → found ≡ Some a
read_of None tokens rest a e = absurd (none-some _ e)
read_of (Some b) tokens rest a e = ap (λ found. Some found.0) (same_Some (b, tokens) (a, rest) e)

module _ {A : Type 0} (P : A → Type 0) (read : List ℕ → Option A) (each : (token : List ℕ) (a : A) → read token ≡ Some a → P a) where
  one_of : (tokens : List (List ℕ)) (a : A) (rest : List (List ℕ)) → one read tokens ≡ Some (a, rest) → P a
  one_of [] a rest e = absurd (none-some _ e)
  one_of (token ∷ tokens) a rest e = each token a (read_of (read token) tokens rest a e)

  -- one token, if each token's meaning has the property
  one_gives : Gives P (one read)
  one_gives = record { each = one_of }

-- ---- names and texts

-- a token that passes a test
test_of : {A : Type 0} (test : A → Bool) (token a : A) (passes : Bool)
    → test token ≡ passes → (if passes then Some token else None) ≡ Some a → test a ≡ true
test_of test token a true h e = subst (λ t. test t ≡ true) (same_Some token a e) h
test_of test token a false h e = absurd (none-some a e)

name_gives : Gives (λ name. is_name name ≡ true) (one name_of)
name_gives = one_gives _ name_of (λ token name e. test_of is_name token name (is_name token) refl e)

text_gives : Gives (λ text. is_text text ≡ true) (one text_of)
text_gives = one_gives _ text_of (λ token text e. test_of is_text token text (is_text token) refl e)

-- ---- commands

-- a form of commands whose names, keys and texts have their forms
abbrev Valid : Form Command → Type 0
Valid form = Gives HasValidTexts form

-- grid NAME KIND BACKGROUND, and the tokens after it for the limit
grid_with_valid : (limit : Form (Option Num)) → Valid (grid_with limit)
grid_with_valid limit =
    then_gives (one name_of) name_gives (λ name h. then_any (one kind_named) (λ kind. then_any (one literal_of) (λ background. then_any limit (λ most. give_gives (commands.Grid name kind background most) h))))

either : {A : Type 0} (a b : Option A) (found : A) → or_else a b ≡ Some found → (a ≡ Some found) ⊎ (b ≡ Some found)
either None b found e = inr e
either (Some x) b found e = inl e

-- either of two forms
or_valid : (first other : Form Command) → Valid first → Valid other → Valid (λ tokens. or_else (first tokens) (other tokens))
or_valid first other p q = record {
  each = λ tokens c rest e. elim (either (first tokens) (other tokens) (c, rest) e) [
    | inl e ↦ p.each tokens c rest e
    | inr e ↦ q.each tokens c rest e
  ];
}

grid_valid : Valid grid
grid_valid = or_valid _ _ (grid_with_valid (one (λ t. option_map Some (number_of t)))) (grid_with_valid (give None))

drop_valid : Valid drop
drop_valid = then_any (one name_of) (λ name. give_gives (commands.Drop name) tt)

copy_valid : Valid copy
copy_valid = then_any (one name_of) (λ from. then_gives (one name_of) name_gives (λ to h. give_gives (commands.Copy from to) h))

get_valid : Valid get
get_valid = then_any (one name_of) (λ name. then_any (one accessor_of) (λ k. then_any point (λ p. give_gives (commands.Get name k p) tt)))

voxel_value_valid : (make : List ℕ → Option Num → Point → Literal → Command)
    → ((name : List ℕ) (k : Option Num) (p : Point) (v : Literal) → HasValidTexts (make name k p v)) → Valid (voxel_value make)
voxel_value_valid make valid =
    then_any (one name_of) (λ name. then_any (one accessor_of) (λ k. then_any point (λ p. then_any (one literal_of) (λ v. give_gives (make name k p v) (valid name k p v)))))

state_valid : Valid state
state_valid = then_any (one name_of) (λ name. then_any (one accessor_of) (λ k. then_any point (λ p. then_any (one state_of) (λ on. give_gives (commands.State name k p on) tt))))

fill_valid : Valid fill
fill_valid = then_any (one name_of) (λ name. then_any corners (λ c. then_any (one literal_of) (λ v. then_any (one state_of) (λ on. give_gives (commands.Fill name c v on) tt))))

clip_valid : Valid clip
clip_valid = then_any (one name_of) (λ name. then_any corners (λ c. give_gives (commands.Clip name c) tt))

prune_valid : Valid prune
prune_valid = then_any (one name_of) (λ name. give_gives (commands.Prune name) tt)

voxelise_valid : Valid voxelise
voxelise_valid = then_any (one name_of) (λ name. then_any corners (λ c. give_gives (commands.Voxelise name c) tt))

list_valid : Valid list
list_valid = then_any (one name_of) (λ name. then_any corners (λ c. then_any (one number_of) (λ limit. give_gives (commands.List name c limit) tt)))

slice_valid : Valid slice
slice_valid =
    then_any (one name_of) (λ name. then_any (one number_of) (λ z. then_any (one number_of) (λ x0. then_any (one number_of) (λ y0.
    then_any (one number_of) (λ x1. then_any (one number_of) (λ y1. give_gives (commands.Slice name z (record { min_x = x0; min_y = y0; max_x = x1; max_y = y1 })) tt))))))

count_valid : Valid count
count_valid =
    or_valid count_box count_all (then_any (one name_of) (λ name. then_any corners (λ c. give_gives (commands.Count name (Some c)) tt)))
    (then_any (one name_of) (λ name. then_any (one all_of) (λ c. give_gives (commands.Count name c) tt)))

bounds_valid : Valid bounds
bounds_valid = then_any (one name_of) (λ name. give_gives (commands.Bounds name) tt)

census_valid : Valid census
census_valid = then_any (one name_of) (λ name. give_gives (commands.Census name) tt)

two_grids_valid : (make : List ℕ → List ℕ → Command) → ((name other : List ℕ) → HasValidTexts (make name other)) → Valid (two_grids make)
two_grids_valid make valid = then_any (one name_of) (λ name. then_any (one name_of) (λ other. give_gives (make name other) (valid name other)))

iterations_valid : (make : List ℕ → Num → Command) → ((name : List ℕ) (n : Num) → HasValidTexts (make name n)) → Valid (iterations make)
iterations_valid make valid = then_any (one name_of) (λ name. then_any (one number_of) (λ n. give_gives (make name n) (valid name n)))

meta_valid : Valid meta
meta_valid = then_any (one name_of) (λ name. then_gives (one name_of) name_gives (λ key h. then_gives (one text_of) text_gives (λ text k. give_gives (commands.Meta name key text) (h, k))))

unmeta_valid : Valid unmeta
unmeta_valid = then_any (one name_of) (λ name. then_any (one name_of) (λ key. give_gives (commands.Unmeta name key) tt))

metas_valid : Valid metas
metas_valid = then_any (one name_of) (λ name. give_gives (commands.Metas name) tt)

-- ---- lines

abbrev AreValid : List (List ℕ × Form Command) → Type 0
AreValid forms = AllByRecursion (λ command. Valid command.1) forms

-- all commands
commands_valid : AreValid command_forms
commands_valid = (get_valid, (voxel_value_valid commands.Set (λ name k p v. tt), (voxel_value_valid commands.Unset (λ name k p v. tt), (voxel_value_valid commands.Only (λ name k p v. tt), (state_valid, (fill_valid, (clip_valid, (voxelise_valid, (count_valid, (list_valid, (slice_valid, (grid_valid, (drop_valid, (copy_valid, (prune_valid, (bounds_valid, (census_valid, (meta_valid, (unmeta_valid, (metas_valid, (two_grids_valid commands.Union (λ name other. tt), (two_grids_valid commands.Difference (λ name other. tt), (two_grids_valid commands.Intersect (λ name other. tt), (two_grids_valid commands.Max (λ name other. tt), (two_grids_valid commands.Min (λ name other. tt), (two_grids_valid commands.Sum (λ name other. tt), (two_grids_valid commands.Replace (λ name other. tt), (iterations_valid commands.Dilate (λ name n. tt), (iterations_valid commands.Erode (λ name n. tt), tt)))))))))))))))))))))))))))))

-- the command of a line, if it has one
abbrev pub command_in : Result (Option Command) Refusal → Option Command
command_in (Ok command) = command
command_in (Err r) = None

whole_valid : (found : Option (Command × List (List ℕ))) (c : Command)
    → ((d : Command) (rest : List (List ℕ)) → found ≡ Some (d, rest) → HasValidTexts d) → whole found ≡ Ok (Some c) → HasValidTexts c
whole_valid None c valid e = absurd (none-some c (ap command_in e))
whole_valid (Some (d, [])) c valid e = subst HasValidTexts (same_Some d c (ap command_in e)) (valid d [] refl)
whole_valid (Some (d, token ∷ rest)) c valid e = absurd (none-some c (ap command_in e))

-- the form of the first word that fits
picked : (test : Bool) (form : Form Command) (others : Option (Form Command)) (tokens : List (List ℕ)) (c : Command) → Valid form
    → (whole (option_and_then (λ f. f tokens) others) ≡ Ok (Some c) → HasValidTexts c) → whole (option_and_then (λ f. f tokens) (cond test (Some form) others)) ≡ Ok (Some c) → HasValidTexts c
picked true form others tokens c valid rest e = whole_valid (form tokens) c (valid.each tokens) e
picked false form others tokens c valid rest e = rest e

among_valid : (forms : List (List ℕ × Form Command)) (word : List ℕ) (tokens : List (List ℕ)) (c : Command) → AreValid forms
    → whole (option_and_then (λ form. form tokens) (word_of forms word)) ≡ Ok (Some c) → HasValidTexts c
among_valid [] word tokens c valid e = absurd (none-some c (ap command_in e))
among_valid (command ∷ forms) word tokens c valid e =
    picked (bytes_eq word command.0) command.1 (word_of forms word) tokens c valid.0 (among_valid forms word tokens c valid.1) e

chosen : (comment : Bool) (word : List ℕ) (rest : List (List ℕ)) (c : Command)
    → (if comment then Ok None else command_of word rest) ≡ Ok (Some c) → HasValidTexts c
chosen true word rest c e = absurd (none-some c (ap command_in e))
chosen false word rest c e = among_valid command_forms word rest c commands_valid e

meant : (pieces : List (List ℕ)) (c : Command) → meaning pieces ≡ Ok (Some c) → HasValidTexts c
meant [] c e = absurd (none-some c (ap command_in e))
meant (word ∷ rest) c e = chosen (is_comment word) word rest c e

-- the command of a line
pub parsed_valid : (line : List ℕ) (c : Command) → parse line ≡ Ok (Some c) → HasValidTexts c
parsed_valid line c e = meant (tokens line) c e
