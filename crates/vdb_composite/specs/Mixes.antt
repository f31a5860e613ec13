-- How two fields combine, cell by cell: their values blended, or the second's active cells in place of the first's.
use Rattle.std.specs.Prelude.{◌≡◌, ◌≢◌, false, ◌||◌, if◌then◌else◌, Option, Some, None, IsSome, IsTrue}
use Rattle.std.specs.Option.{option_map, unwrap_or}
use Rattle.vdb_coord.specs.Space.{Box, everywhere, is_inside}
use Rattle.vdb_coord.specs.declared.Coord.{Coord}
use Rattle.vdb_value.specs.declared.Cell.{Cell}
use Rattle.vdb_tree.specs.Field.{Field, combine, replace}
use Rattle.vdb_value.specs.declared.blend.Blend.{Blend}
use Rattle.vdb_composite.specs.declared.mix.Mix.{Mix}
use Rattle.vdb_composite.specs.declared.mix.Mix.TheVariants.{Values, Replace}
use Rattle.vdb_composite.specs.declared.search.Sought.{Sought}
use Rattle.vdb_composite.specs.declared.search.Sought.TheVariants.{Nothing, OtherThan}

-- the combination of two cells, if they have one, is what the search looks for
abbrev pub Meets : {V : Type 0} → Sought V → Option (Cell V) → Type 0
Meets Nothing mixed = mixed ≡ None
Meets (OtherThan cell) mixed = mixed ≢ Some cell

-- the combination of two cells isn't what the search looks for
abbrev pub Misses : {V : Type 0} → Sought V → Option (Cell V) → Type 0
Misses Nothing mixed = IsSome mixed
Misses (OtherThan cell) mixed = mixed ≡ Some cell

module _ {V : Type 0} (blend : Blend → V → V → Option V) where
  -- the combination of two background values, if they have one
  abbrev pub mixed_value : Mix → V → V → Option V
  mixed_value (Values how) v w = blend how v w
  mixed_value Replace v w = Some v

  -- the combination of two cells, if they have one
  abbrev pub mixed_cell : Mix → Cell V → Cell V → Option (Cell V)
  mixed_cell (Values how) c d = option_map (λ v. record { value = v; on = c.on || d.on }) (blend how c.value d.value)
  mixed_cell Replace c d = Some (if d.on then d else c)

  -- the combination of two fields; if two values do not combine it has the first
  abbrev pub mixed : Mix → Field V → Field V → Field V
  mixed (Values how) f g = combine (λ v w. unwrap_or (blend how v w) v) f g
  mixed Replace f g = replace f g

  -- each cell of the box combines those of the two fields
  abbrev pub IsMixIn : Mix → Box → Field V → Field V → Field V → Type 0
  IsMixIn mix box f g h = (q : Coord) → IsTrue (is_inside box q) → mixed_cell mix (f.cell q) (g.cell q) ≡ Some (h.cell q)

  -- every two cells combine
  abbrev pub HasMix : Mix → Field V → Field V → Type 0
  HasMix mix f g = (q : Coord) → IsTrue (is_inside everywhere q) → IsSome (mixed_cell mix (f.cell q) (g.cell q))

  -- a box of the new field has the combination of the two, and all else is as before
  pub record Adds (mix : Mix) (box : Box) (f g old new : Field V) : Type 0 where
    pub background : new.background ≡ old.background
    pub here : IsMixIn mix box f g new
    pub there : (q : Coord) → IsTrue (is_inside everywhere q) → is_inside box q ≡ false → new.cell q ≡ old.cell q
