-- A field gives each coordinate a cell. The definitions here say what each operation makes of a field.
use Rattle.std.specs.Prelude.{ℕ, zero, suc, Bool, true, false, not, ◌&&◌, ◌||◌, if◌then◌else◌, Option, unwrap_or, is_none}
use Rattle.std.specs.List.{list_any, list_all}
use Rattle.vdb_coord.specs.Faces.{neighbours}
use Rattle.vdb_coord.specs.Space.{Box, coord_eq, coordinates, everywhere, is_inside}
use Rattle.vdb_coord.specs.declared.Coord.{Coord}
use Rattle.vdb_value.specs.declared.Cell.{Cell}
use Rattle.vdb_tree.specs.declared.pairs.StateRule.{StateRule}
use Rattle.vdb_tree.specs.declared.pairs.StateRule.TheVariants.{Unite, Subtract, Intersect}
use Rattle.vdb_tree.specs.declared.Write.{Write}
use Rattle.vdb_tree.specs.declared.Write.TheVariants.{On, Off, State, Value}

-- a total function from coordinates to cells, and the background: the value of a voxel that was never written
pub record Field (V : Type 0) : Type 0 where
  pub background : V
  pub cell : Coord → Cell V

module _ {V : Type 0} where
  -- an inactive cell
  abbrev pub off : V → Cell V
  off v = record { value = v; on = false }

  -- the field with these cells at all coordinates; cells outside the range are fixed, so that equal fields are identical
  abbrev pub field : V → (Coord → Cell V) → Field V
  field background cell = record { background = background; cell = λ p. if is_inside everywhere p then cell p else off background }

  -- the field that was never written
  abbrev pub new : V → Field V
  new background = field background (λ _. off background)

  -- a cell after a write
  abbrev pub written : Write V → Cell V → Cell V
  written (On v) old = record { value = v; on = true }
  written (Off v) old = record { value = v; on = false }
  written (State s) old = record { value = old.value; on = s }
  written (Value v) old = record { value = v; on = old.on }

  -- a write to one voxel
  abbrev pub write : Coord → Write V → Field V → Field V
  write q w f = field f.background (λ p. if coord_eq q p then written w (f.cell p) else f.cell p)

  -- each cell of the box becomes this one
  abbrev pub fill : Box → Cell V → Field V → Field V
  fill box cell f = field f.background (λ p. if is_inside box p then cell else f.cell p)

  -- each cell outside the box becomes the inactive background
  abbrev pub clip : Box → Field V → Field V
  clip box f = field f.background (λ p. if is_inside box p then f.cell p else off f.background)

  -- the values of f, with states computed from those of f and of g
  abbrev pub with_states : {U : Type 0} → (Bool → Bool → Bool) → Field V → Field U → Field V
  with_states state f g = field f.background (λ p. record { value = (f.cell p).value; on = state (f.cell p).on (g.cell p).on })

  -- the values of f, active where f or g is
  abbrev pub unite : {U : Type 0} → Field V → Field U → Field V
  unite f g = with_states (λ s t. s || t) f g

  -- the values of f, active where f is and g isn't
  abbrev pub subtract : {U : Type 0} → Field V → Field U → Field V
  subtract f g = with_states (λ s t. s && not t) f g

  -- the values of f, active where both f and g are
  abbrev pub intersect : {U : Type 0} → Field V → Field U → Field V
  intersect f g = with_states (λ s t. s && t) f g

  -- the states of the two combined by a rule
  abbrev pub ruled : {U : Type 0} → StateRule → Field V → Field U → Field V
  ruled Unite f g = unite f g
  ruled Subtract f g = subtract f g
  ruled Intersect f g = intersect f g

  -- the values of both combined, backgrounds too, active where either is: the maximum by the greater value, the minimum by the lesser
  abbrev pub combine : (V → V → V) → Field V → Field V → Field V
  combine both f g = field (both f.background g.background) (λ p. record { value = both (f.cell p).value (g.cell p).value; on = (f.cell p).on || (g.cell p).on })

  -- the sum of both values; where two values have none, the value of f
  abbrev pub sum : (V → V → Option V) → Field V → Field V → Field V
  sum plus f g = combine (λ v w. unwrap_or (plus v w) v) f g

  -- whether two values at some coordinate, active or not, have no sum
  abbrev pub lacks_sum : (V → V → Option V) → Field V → Field V → Bool
  lacks_sum plus f g = list_any (λ p. is_none (plus (f.cell p).value (g.cell p).value)) (coordinates everywhere)

  -- f with the cells of g where g is active
  abbrev pub replace : Field V → Field V → Field V
  replace f g = field f.background (λ p. if (g.cell p).on then g.cell p else f.cell p)

  -- active also where a face neighbour was active
  abbrev pub dilate : Field V → Field V
  dilate f = field f.background (λ p. record { value = (f.cell p).value; on = (f.cell p).on || list_any (λ q. (f.cell q).on) (neighbours p) })

  -- active only where each face neighbour was active, too
  abbrev pub erode : Field V → Field V
  erode f = field f.background (λ p. record { value = (f.cell p).value; on = (f.cell p).on && list_all (λ q. (f.cell q).on) (neighbours p) })

  -- n iterations, each computed from the cells before it
  abbrev pub iterations : ℕ → (Field V → Field V) → Field V → Field V
  iterations zero iteration f = f
  iterations (suc n) iteration f = iterations n iteration (iteration f)

-- ---- values mapped to another type: a tree has one type of values among grids of any

-- a cell with its value mapped
abbrev pub as_cell_of : {V U : Type 0} → (V → U) → Cell V → Cell U
as_cell_of make c = record { value = make c.value; on = c.on }

-- a write with its value mapped
abbrev pub as_write_of : {V U : Type 0} → (V → U) → Write V → Write U
as_write_of make (On v) = On (make v)
as_write_of make (Off v) = Off (make v)
as_write_of make (State s) = State s
as_write_of make (Value v) = Value (make v)

-- the field with each value mapped
abbrev pub as_field_of : {V U : Type 0} → (V → U) → Field V → Field U
as_field_of make f = field (make f.background) (λ p. as_cell_of make (f.cell p))
