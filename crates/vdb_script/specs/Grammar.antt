-- The grammar of a line: the meaning of its tokens, command by command.
use Rattle.std.specs.Prelude.{ℕ, ◌*◌, ◌+◌, ◌-◌, ℤ, pos, neg_ℤ, Bool, true, false, not, ◌&&◌, ◌==◌, if◌then◌else◌, List, [], ◌∷◌, fold, Option, Some, None, option_map, option_and_then, bytes_eq, codes, Result, Ok, Err}
use Rattle.std.specs.List.{list_all}
use Rattle.std.specs.Char.{is_ascii_digit}
use Rattle.std.specs.Map.{lookup}
use Rattle.vdb_value.specs.Values.{has_number}
use Rattle.vdb_value.specs.declared.Kind.{Kind}
use Rattle.vdb_value.specs.declared.Kind.TheVariants as kinds
use Rattle.vdb_scene.specs.Names.{is_name}
use Rattle.vdb_scene.specs.Metas.{is_text}
use Rattle.vdb_scene.specs.declared.command.Command.{Command}
use Rattle.vdb_scene.specs.declared.command.Command.TheVariants as commands
use Rattle.vdb_scene.specs.declared.command.Corners.{Corners}
use Rattle.vdb_scene.specs.declared.command.Literal.{Literal}
use Rattle.vdb_scene.specs.declared.command.Literal.TheVariants.{Number, Truth}
use Rattle.vdb_scene.specs.declared.command.Num.{Num}
use Rattle.vdb_scene.specs.declared.command.Num.TheVariants.{Near, Far}
use Rattle.vdb_scene.specs.declared.command.Point.{Point}
use Rattle.vdb_scene.specs.declared.answer.Refusal.{Refusal}
use Rattle.vdb_scene.specs.declared.answer.Refusal.TheVariants as refusals
use Rattle.vdb_script.specs.Lines.{tokens}

-- ---- one token

-- a name
abbrev pub name_of : List ℕ → Option (List ℕ)
name_of token = if is_name token then Some token else None

-- the text of a metadata pair
abbrev pub text_of : List ℕ → Option (List ℕ)
text_of token = if is_text token then Some token else None

-- the number that decimal digits write
abbrev pub digits_value : List ℕ → ℕ
digits_value digits = fold (λ n b. n * 10 + (b - 48)) 0 digits

-- a number above 0: digits, the first of them not 0
abbrev pub positive_of : List ℕ → Option ℕ
positive_of [] = None
positive_of (b ∷ bytes) = if not (b == 48) && list_all is_ascii_digit (b ∷ bytes) then Some (digits_value (b ∷ bytes)) else None

-- the number as a line has it
abbrev pub num : ℤ → Num
num z = if has_number kinds.I64 z then Near z else Far

-- a number of any length: 0, or one above 0, with or without a minus sign
abbrev pub number_of : List ℕ → Option Num
number_of [] = None
number_of (b ∷ bytes) =
    if bytes_eq (b ∷ bytes) (codes "0") then Some (num (pos 0))
    else if b == 45 then option_map (λ n. num (neg_ℤ (pos n))) (positive_of bytes)
    else option_map (λ n. num (pos n)) (positive_of (b ∷ bytes))

-- the value beside the token's word in a list of words
abbrev pub word_of : {A : Type 0} → List (List ℕ × A) → List ℕ → Option A
word_of words token = lookup (bytes_eq token) words

-- a type
abbrev pub kind_named : List ℕ → Option Kind
kind_named token = word_of ((codes "bool", kinds.Bool) ∷ (codes "i32", kinds.I32) ∷ (codes "i64", kinds.I64) ∷ []) token

-- a state
abbrev pub state_of : List ℕ → Option Bool
state_of token = word_of ((codes "on", true) ∷ (codes "off", false) ∷ []) token

-- the first, or else the other
abbrev pub or_else : {A : Type 0} → Option A → Option A → Option A
or_else None other = other
or_else (Some a) other = Some a

-- true, false or a number
abbrev pub literal_of : List ℕ → Option Literal
literal_of token = or_else (word_of ((codes "true", Truth true) ∷ (codes "false", Truth false) ∷ []) token) (option_map Number (number_of token))

-- `-` for no accessor, or a number
abbrev pub accessor_of : List ℕ → Option (Option Num)
accessor_of token = or_else (word_of ((codes "-", None) ∷ []) token) (option_map Some (number_of token))

-- ---- tokens in a row

-- the meaning of the first tokens, and the tokens after them
abbrev pub Form : Type 0 → Type 0
Form A = List (List ℕ) → Option (A × List (List ℕ))

-- one form after another
infixl 10 ◌>>=◌
abbrev pub ◌>>=◌ : {A B : Type 0} → Form A → (A → Form B) → Form B
first >>= rest = λ tokens. option_and_then (λ found. rest found.0 found.1) (first tokens)

-- no token
abbrev pub give : {A : Type 0} → A → Form A
give a tokens = Some (a, tokens)

-- one token
abbrev pub one : {A : Type 0} → (List ℕ → Option A) → Form A
one read [] = None
one read (token ∷ tokens) = option_map (λ a. (a, tokens)) (read token)

-- three numbers
abbrev pub point : Form Point
point = do
  x ← one number_of
  y ← one number_of
  z ← one number_of
  give (record { x = x; y = y; z = z })

-- six numbers: the minimum, then the maximum
abbrev pub corners : Form Corners
corners = do
  min ← point
  max ← point
  give (record { min = min; max = max })

-- grid NAME KIND BACKGROUND, and the tokens after it for the limit
abbrev pub grid_with : Form (Option Num) → Form Command
grid_with limit = do
  name ← one name_of
  kind ← one kind_named
  background ← one literal_of
  most ← limit
  give (commands.Grid name kind background most)

-- grid NAME KIND BACKGROUND LIMIT, or without a limit
abbrev pub grid : Form Command
grid tokens = or_else (grid_with (one (λ t. option_map Some (number_of t))) tokens) (grid_with (give None) tokens)

-- drop NAME
abbrev pub drop : Form Command
drop = do
  name ← one name_of
  give (commands.Drop name)

-- copy FROM TO: the name of a grid, then the name of its copy
abbrev pub copy : Form Command
copy = do
  from ← one name_of
  to ← one name_of
  give (commands.Copy from to)

-- get NAME ACCESSOR X Y Z
abbrev pub get : Form Command
get = do
  name ← one name_of
  k ← one accessor_of
  p ← point
  give (commands.Get name k p)

-- NAME ACCESSOR X Y Z VALUE, after the word of a command that writes a value to a voxel
abbrev pub voxel_value : (List ℕ → Option Num → Point → Literal → Command) → Form Command
voxel_value make = do
  name ← one name_of
  k ← one accessor_of
  p ← point
  v ← one literal_of
  give (make name k p v)

-- set NAME ACCESSOR X Y Z VALUE
abbrev pub set : Form Command
set = voxel_value commands.Set

-- unset NAME ACCESSOR X Y Z VALUE
abbrev pub unset : Form Command
unset = voxel_value commands.Unset

-- only NAME ACCESSOR X Y Z VALUE
abbrev pub only : Form Command
only = voxel_value commands.Only

-- state NAME ACCESSOR X Y Z STATE
abbrev pub state : Form Command
state = do
  name ← one name_of
  k ← one accessor_of
  p ← point
  on ← one state_of
  give (commands.State name k p on)

-- fill NAME X0 Y0 Z0 X1 Y1 Z1 VALUE STATE
abbrev pub fill : Form Command
fill = do
  name ← one name_of
  c ← corners
  v ← one literal_of
  on ← one state_of
  give (commands.Fill name c v on)

-- clip NAME X0 Y0 Z0 X1 Y1 Z1
abbrev pub clip : Form Command
clip = do
  name ← one name_of
  c ← corners
  give (commands.Clip name c)

-- prune NAME
abbrev pub prune : Form Command
prune = do
  name ← one name_of
  give (commands.Prune name)

-- voxelise NAME X0 Y0 Z0 X1 Y1 Z1
abbrev pub voxelise : Form Command
voxelise = do
  name ← one name_of
  c ← corners
  give (commands.Voxelise name c)

-- list NAME X0 Y0 Z0 X1 Y1 Z1 LIMIT
abbrev pub list : Form Command
list = do
  name ← one name_of
  c ← corners
  limit ← one number_of
  give (commands.List name c limit)

-- slice NAME Z X0 Y0 X1 Y1
abbrev pub slice : Form Command
slice = do
  name ← one name_of
  z ← one number_of
  x0 ← one number_of
  y0 ← one number_of
  x1 ← one number_of
  y1 ← one number_of
  give (commands.Slice name z (record { min_x = x0; min_y = y0; max_x = x1; max_y = y1 }))

-- the word for all coordinates, which means no box
abbrev pub all_of : List ℕ → Option (Option Corners)
all_of token = word_of ((codes "all", None) ∷ []) token

-- count NAME X0 Y0 Z0 X1 Y1 Z1
abbrev pub count_box : Form Command
count_box = do
  name ← one name_of
  c ← corners
  give (commands.Count name (Some c))

-- count NAME all
abbrev pub count_all : Form Command
count_all = do
  name ← one name_of
  c ← one all_of
  give (commands.Count name c)

-- either form of count
abbrev pub count : Form Command
count tokens = or_else (count_box tokens) (count_all tokens)

-- bounds NAME
abbrev pub bounds : Form Command
bounds = do
  name ← one name_of
  give (commands.Bounds name)

-- census NAME
abbrev pub census : Form Command
census = do
  name ← one name_of
  give (commands.Census name)

-- NAME OTHER, after the word of a command on two grids, which changes the first
abbrev pub two_grids : (List ℕ → List ℕ → Command) → Form Command
two_grids make = do
  name ← one name_of
  other ← one name_of
  give (make name other)

-- NAME ITERATIONS, after the word of a command that dilates or erodes a grid
abbrev pub iterations : (List ℕ → Num → Command) → Form Command
iterations make = do
  name ← one name_of
  n ← one number_of
  give (make name n)

-- meta NAME KEY TEXT: a key has the form of a name
abbrev pub meta : Form Command
meta = do
  name ← one name_of
  key ← one name_of
  text ← one text_of
  give (commands.Meta name key text)

-- unmeta NAME KEY
abbrev pub unmeta : Form Command
unmeta = do
  name ← one name_of
  key ← one name_of
  give (commands.Unmeta name key)

-- metas NAME
abbrev pub metas : Form Command
metas = do
  name ← one name_of
  give (commands.Metas name)

-- ---- the commands

-- the commands on two grids and those of dilation and erosion: the word of each, and the form of the tokens after it
abbrev pub operation_forms : List (List ℕ × Form Command)
operation_forms = (codes "union", two_grids commands.Union) ∷ (codes "difference", two_grids commands.Difference) ∷ (codes "intersect", two_grids commands.Intersect) ∷ (codes "max", two_grids commands.Max) ∷ (codes "min", two_grids commands.Min) ∷ (codes "sum", two_grids commands.Sum) ∷ (codes "replace", two_grids commands.Replace) ∷ (codes "dilate", iterations commands.Dilate) ∷ (codes "erode", iterations commands.Erode) ∷ []

-- the commands on a whole grid, and then those on two grids and of dilation and erosion
abbrev pub grid_forms : List (List ℕ × Form Command)
grid_forms = (codes "grid", grid) ∷ (codes "drop", drop) ∷ (codes "copy", copy) ∷ (codes "prune", prune) ∷ (codes "bounds", bounds) ∷ (codes "census", census) ∷ (codes "meta", meta) ∷ (codes "unmeta", unmeta) ∷ (codes "metas", metas) ∷ operation_forms

-- the commands on a box, and then those on a whole grid, on two grids and of dilation and erosion
abbrev pub box_forms : List (List ℕ × Form Command)
box_forms = (codes "fill", fill) ∷ (codes "clip", clip) ∷ (codes "voxelise", voxelise) ∷ (codes "count", count) ∷ (codes "list", list) ∷ (codes "slice", slice) ∷ grid_forms

-- all commands: those on a voxel, and then those on a box, on a whole grid, on two grids and of dilation and erosion
abbrev pub command_forms : List (List ℕ × Form Command)
command_forms = (codes "get", get) ∷ (codes "set", set) ∷ (codes "unset", unset) ∷ (codes "only", only) ∷ (codes "state", state) ∷ box_forms

-- a command with no token left, or a syntax error
abbrev pub whole : Option (Command × List (List ℕ)) → Result (Option Command) Refusal
whole (Some (c, [])) = Ok (Some c)
whole _ = Err refusals.Syntax

-- the command of a word, among those of these words, and of the tokens after it
abbrev pub command_among : List (List ℕ × Form Command) → List ℕ → List (List ℕ) → Result (Option Command) Refusal
command_among forms word rest = whole (option_and_then (λ form. form rest) (word_of forms word))

-- the command of a word and the tokens after it
abbrev pub command_of : List ℕ → List (List ℕ) → Result (Option Command) Refusal
command_of word rest = command_among command_forms word rest

-- whether a token begins a comment
abbrev pub is_comment : List ℕ → Bool
is_comment [] = false
is_comment (b ∷ bytes) = b == 35

-- nothing for no token and for a comment, otherwise the command
abbrev pub meaning : List (List ℕ) → Result (Option Command) Refusal
meaning [] = Ok None
meaning (word ∷ rest) = if is_comment word then Ok None else command_of word rest

-- the command of a line, nothing for a blank line or a comment, or a syntax error
abbrev pub parse : List ℕ → Result (Option Command) Refusal
parse line = meaning (tokens line)
