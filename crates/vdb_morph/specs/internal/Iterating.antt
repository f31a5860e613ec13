-- The states of a field alone, and how they grow and shrink part by part.
use Rattle.std.specs.Prelude.{Bool, false, ◌&&◌, ◌||◌, if◌then◌else◌, List}
use Rattle.std.specs.List.{list_any}
use Rattle.vdb_coord.specs.Blocks.{block_number, offset}
use Rattle.vdb_coord.specs.Faces.{neighbours}
use Rattle.vdb_coord.specs.Space.{coord_eq}
use Rattle.vdb_coord.specs.declared.Bits.{Bits}
use Rattle.vdb_coord.specs.declared.Coord.{Coord}
use Rattle.vdb_coord.specs.declared.Level.TheVariants.{Leaf}
use Rattle.vdb_mask.specs.Mask.{is_on}
use Rattle.vdb_tree.specs.Field.{Field, as_field_of, field}

module _ {V : Type 0} where
  -- the states of a field alone: each value is false
  abbrev pub topology : Field V → Field Bool
  topology f = as_field_of (λ _. false) f

  -- active also if the test passes
  abbrev pub with_active : (Coord → Bool) → Field V → Field V
  with_active test f = field f.background (λ p. record { value = (f.cell p).value; on = (f.cell p).on || test p })

  -- active also if the test passes for a face neighbour
  abbrev pub spread : (Coord → Bool) → Field V → Field V
  spread test f = with_active (λ p. list_any test (neighbours p)) f

  -- the cells of g if the test passes, and of f otherwise
  abbrev pub taken : (Coord → Bool) → Field V → Field V → Field V
  taken test g f = field f.background (λ p. if test p then g.cell p else f.cell p)

-- whether q lies in p's leaf extent
abbrev pub is_around : Bits → Coord → Coord → Bool
is_around bits p q = coord_eq (block_number bits Leaf q) (block_number bits Leaf p)

-- whether q lies in p's leaf extent, and its entry is on in the mask
abbrev pub is_marked : Bits → Coord → List Bool → Coord → Bool
is_marked bits p mask q = is_around bits p q && is_on mask (offset bits Leaf q)
