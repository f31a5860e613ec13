-- The text of an answer.
use Rattle.std.specs.Prelude.{ℕ, Bool, if◌then◌else◌, List, [], ◌∷◌, ◌++◌, Option, Some, None, codes, length, map}
use Rattle.std.specs.Fmt.{decimal, signed_decimal}
use Rattle.std.specs.List.{join_with_byte, flat_map}
use Rattle.vdb_coord.specs.Space.{Box}
use Rattle.vdb_coord.specs.declared.Coord.{Coord}
use Rattle.vdb_value.specs.declared.Cell.{Cell}
use Rattle.vdb_scene.specs.Scalars.{scalar_text}
use Rattle.vdb_scene.specs.Replies.{Reply, Row, Done, Refused, Value, Listing, Slice, Count, Bounds, Census, Pairs}
use Rattle.vdb_scene.specs.declared.answer.Refusal.{Refusal}
use Rattle.vdb_scene.specs.declared.answer.Refusal.TheVariants as refusals
use Rattle.vdb_scene.specs.declared.scalar.Scalar.{Scalar}

-- the word of an error
abbrev pub word : Refusal → List ℕ
word refusals.LineTooLong = codes "line-too-long"
word refusals.Syntax = codes "syntax"
word refusals.NoGrid = codes "no-grid"
word refusals.NameTaken = codes "name-taken"
word refusals.SameGrid = codes "same-grid"
word refusals.GridLimit = codes "grid-limit"
word refusals.Kind = codes "kind"
word refusals.ValueRange = codes "value-range"
word refusals.NoAccessor = codes "no-accessor"
word refusals.Box = codes "box"
word refusals.TooLarge = codes "too-large"
word refusals.NoSum = codes "no-sum"
word refusals.SumRange = codes "sum-range"
word refusals.RootLimit = codes "root-limit"
word refusals.MetaLimit = codes "meta-limit"
word refusals.Memory = codes "memory"

-- the word of a state
abbrev pub state_text : Bool → List ℕ
state_text on = if on then codes "on" else codes "off"

-- a line: its parts with a space between each two, and a newline
abbrev pub line : List (List ℕ) → List ℕ
line parts = join_with_byte 32 parts ++ 10 ∷ []

-- the text of a cell in a slice: its value, in brackets if it is inactive
abbrev pub cell_text : Cell Scalar → List ℕ
cell_text c = if c.on then scalar_text c.value else 40 ∷ scalar_text c.value ++ 41 ∷ []

-- the line of a row of a slice
abbrev pub row_line : Row → List ℕ
row_line r = line (codes "row" ∷ signed_decimal r.y ∷ map cell_text r.cells)

-- the last line of an answer: its word, and the number of the lines before it
abbrev pub last_line : List ℕ → ℕ → List ℕ
last_line word count = line (word ∷ decimal count ∷ [])

-- the components of a coordinate
abbrev pub components : Coord → List (List ℕ)
components p = signed_decimal p.x ∷ signed_decimal p.y ∷ signed_decimal p.z ∷ []

-- the line of a listed voxel
abbrev pub voxel_line : Coord × Scalar → List ℕ
voxel_line voxel = line (components voxel.0 ++ scalar_text voxel.1 ∷ [])

-- the word of the last line of a list
abbrev pub more_word : Bool → List ℕ
more_word more = if more then codes "more" else codes "end"

-- the corners of a box, if it exists
abbrev pub bounds_words : Option Box → List (List ℕ)
bounds_words None = codes "none" ∷ []
bounds_words (Some box) = components box.min ++ components box.max

-- the line of a metadata pair: its key and its text
abbrev pub pair_line : List ℕ × List ℕ → List ℕ
pair_line pair = line (pair.0 ∷ pair.1 ∷ [])

-- the text of an answer
abbrev pub text : Reply → List ℕ
text Done = line (codes "ok" ∷ [])
text (Refused r) = line (codes "error" ∷ word r ∷ [])
text (Value c) = line (codes "value" ∷ scalar_text c.value ∷ state_text c.on ∷ [])
text (Listing voxels more) = flat_map voxel_line voxels ++ last_line (more_word more) (length voxels)
text (Slice rows) = flat_map row_line rows ++ last_line (codes "end") (length rows)
text (Count active) = line (codes "count" ∷ decimal active ∷ [])
text (Bounds box) = line (codes "bounds" ∷ bounds_words box)
text (Census c) = line (codes "census" ∷ decimal c.roots ∷ decimal c.upper ∷ decimal c.lower ∷ decimal c.leaf ∷ [])
text (Pairs pairs) = flat_map pair_line pairs ++ last_line (codes "end") (length pairs)

-- the texts of answers, one after another
abbrev pub answers_text : List Reply → List ℕ
answers_text replies = flat_map text replies
