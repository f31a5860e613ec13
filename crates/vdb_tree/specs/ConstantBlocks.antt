-- Background and constant blocks of a field, and how many blocks are neither.
use Rattle.std.specs.Prelude.{ℕ, Bool, not, ◌&&◌, List, length, filter, count_by}
use Rattle.std.specs.List.{list_all}
use Rattle.std.proofs.Math.Bool.{beq}
use Rattle.vdb_coord.specs.Space.{Box, coordinates}
use Rattle.vdb_coord.specs.Blocks.{block, block_numbers}
use Rattle.vdb_coord.specs.declared.Coord.{Coord}
use Rattle.vdb_coord.specs.declared.Bits.{Bits}
use Rattle.vdb_coord.specs.declared.Level.{Level}
use Rattle.vdb_coord.specs.declared.Level.TheVariants.{Upper}
use Rattle.vdb_value.specs.declared.Cell.{Cell}
use Rattle.vdb_tree.specs.Field.{Field, off}

module _ {V : Type 0} (eq : V → V → Bool) where
  -- whether two cells have the same value and the same state
  abbrev pub cell_eq : Cell V → Cell V → Bool
  cell_eq a b = eq a.value b.value && beq a.on b.on

  -- whether each cell of the box is this one
  abbrev pub is_uniform : Field V → Box → Cell V → Bool
  is_uniform f box c = list_all (λ p. cell_eq (f.cell p) c) (coordinates box)

  -- whether each cell of the box is the background, inactive
  abbrev pub is_background : Field V → Box → Bool
  is_background f box = is_uniform f box (off f.background)

  -- whether all cells of the box are equal
  abbrev pub is_constant : Field V → Box → Bool
  is_constant f box = is_uniform f box (f.cell box.min)

  -- the keys of the upper extents that hold anything but the background, in their order
  abbrev pub root_keys : Bits → Field V → List Coord
  root_keys bits f = filter (λ n. not (is_background f (block bits Upper n))) (coordinates (block_numbers bits Upper))

  -- how many upper extents hold anything but the background
  abbrev pub roots : Bits → Field V → ℕ
  roots bits f = length (root_keys bits f)

  -- how many blocks of the level aren't constant
  abbrev pub non_constant : Bits → Level → Field V → ℕ
  non_constant bits level f = count_by (λ n. not (is_constant f (block bits level n))) (coordinates (block_numbers bits level))

-- how many coordinates of the box are active
abbrev pub count : {V : Type 0} → Field V → Box → ℕ
count f box = count_by (λ p. (f.cell p).on) (coordinates box)
