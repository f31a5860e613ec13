-- The abstract scenes that a scene can have: those that files encode.
use Rattle.std.specs.Prelude.{◌≡◌, ◌≤◌, ℕ, Bool, true, false, List, length}
use Rattle.std.specs.List.{AllByRecursion}
use Rattle.std.specs.List.Sorted.{IsStrictlySortedBy}
use Rattle.std.specs.Map.{keys_of}
use Rattle.std.specs.Ordering.{nat_cmp}
use Rattle.std.specs.Cmp.Lexicographic.{slice_cmp}
use Rattle.vdb_coord.specs.Blocks.{vdb}
use Rattle.vdb_coord.specs.Space.{everywhere, is_inside}
use Rattle.vdb_coord.specs.declared.Coord.{Coord}
use Rattle.vdb_value.specs.Values.{has_number}
use Rattle.vdb_value.specs.declared.Kind.{Kind}
use Rattle.vdb_value.specs.declared.Kind.TheVariants as kinds
use Rattle.vdb_tree.specs.ConstantBlocks.{roots}
use Rattle.vdb_tree.specs.Field.{Field, off}
use Rattle.vdb_scene.specs.Metas.{HasRisingKeys, Pairs, is_text}
use Rattle.vdb_scene.specs.Names.{is_name}
use Rattle.vdb_scene.specs.Scalars.{kind_of, scalar_eq}
use Rattle.vdb_scene.specs.Scene.{Grid, Scene}
use Rattle.vdb_scene.specs.declared.command.Command.{Command}
use Rattle.vdb_scene.specs.declared.command.Command.TheVariants as commands
use Rattle.vdb_scene.specs.declared.scalar.Scalar.{Scalar}
use Rattle.vdb_scene.specs.declared.scalar.Scalar.TheVariants.{Bool as truth, I32, I64}

-- whether the value has this type (KIND) and lies within its range
abbrev pub is_value_of : Kind → Scalar → Bool
is_value_of kinds.Bool (truth b) = true
is_value_of kinds.I32 (I32 z) = has_number kinds.I32 z
is_value_of kinds.I64 (I64 z) = has_number kinds.I64 z
is_value_of _ _ = false

-- all values have the background's type, and beyond the range of coordinates everything is background
pub record IsField (f : Field Scalar) : Type 0 where
  pub background : is_value_of (kind_of f.background) f.background ≡ true
  pub values : (p : Coord) → is_value_of (kind_of f.background) (f.cell p).value ≡ true
  pub outside : (p : Coord) → is_inside everywhere p ≡ false → f.cell p ≡ off f.background

-- a key and its text
pub record IsPair (pair : List ℕ × List ℕ) : Type 0 where
  pub key : is_name pair.0 ≡ true
  pub text : is_text pair.1 ≡ true

-- at most sixteen pairs, by rising keys
pub record ArePairs (pairs : Pairs) : Type 0 where
  pub few : length pairs ≤ 16
  pub in_order : HasRisingKeys pairs
  pub each : AllByRecursion IsPair pairs

-- a grid keeps to its root limit, which is 1 to 65,536
pub record IsGrid (e : List ℕ × Grid) : Type 0 where
  pub name : is_name e.0 ≡ true
  pub field : IsField e.1.field
  pub positive : 1 ≤ e.1.limit
  pub limited : e.1.limit ≤ 65536
  pub roots : roots scalar_eq vdb e.1.field ≤ e.1.limit
  pub pairs : ArePairs e.1.pairs

-- a scene has at most 64 grids, by rising names
pub record IsScene (s : Scene) : Type 0 where
  pub few : length s ≤ 64
  pub in_order : IsStrictlySortedBy (slice_cmp nat_cmp) (keys_of s)
  pub grids : AllByRecursion IsGrid s

-- the name that a command gives a new grid, and the key and the text that it stores, have their forms
abbrev pub HasValidTexts : Command → Type 0
HasValidTexts (commands.Grid name kind v limit) = is_name name ≡ true
HasValidTexts (commands.Copy from to) = is_name to ≡ true
HasValidTexts (commands.Meta name key text) = (is_name key ≡ true) × (is_text text ≡ true)
HasValidTexts c = Unit {0}
