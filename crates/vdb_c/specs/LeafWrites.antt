-- What writes of a box leaf by leaf do.
use Rattle.std.specs.Prelude.{◌≡◌, ◌≢◌, ◌⊎◌, ℕ, IsTrue, Option}
use Rattle.vdb_coord.specs.Blocks.{block_number, offset, vdb}
use Rattle.vdb_coord.specs.Space.{Box, everywhere, is_inside}
use Rattle.vdb_coord.specs.declared.Coord.{Coord}
use Rattle.vdb_coord.specs.declared.Level.TheVariants.{Leaf as leaf_level}
use Rattle.vdb_node.specs.Leaf.{cell_in, Leaf}
use Rattle.vdb_value.specs.declared.Cell.{Cell}
use Rattle.vdb_tree.specs.Field.{Field, as_cell_of}
use Rattle.vdb_tree.specs.Layout.{Layout, field_of}
use Rattle.vdb_tree.specs.Paths.{in_leaf}
use Rattle.vdb_tree.specs.declared.Write.{Write}
use Rattle.vdb_scene.specs.declared.scalar.Scalar.{Scalar}
use Rattle.vdb_c.specs.BoxWrites.{written_any}

-- the voxels of the box in p's leaf extent
abbrev pub IsBeside : Box → Coord → Coord → Type 0
IsBeside b p q = IsTrue (is_inside b q) × (block_number vdb leaf_level q ≡ block_number vdb leaf_level p)

module _ {V : Type 0} (make : V → Scalar) where
  -- the new cell is the old one after a write, if one is given
  abbrev pub IsWritten : Option (Write Scalar) → Cell V → Cell V → Type 0
  IsWritten change old new = as_cell_of make new ≡ written_any change (as_cell_of make old)

  module _ (change : Coord → Option (Write Scalar)) where
    -- a voxel that lies in a leaf, or whose write changes nothing
    abbrev pub IsReady : Layout V → Coord → Type 0
    IsReady t q = IsTrue (is_inside everywhere q) → IsTrue (in_leaf vdb t q) ⊎ IsWritten (change q) ((field_of vdb t).cell q) ((field_of vdb t).cell q)

    -- these voxels of a field are written, and every other stays
    pub record AreWritten (Within : Coord → Type 0) (old new : Field V) : Type 0 where
      pub background : new.background ≡ old.background
      pub voxels : (q : Coord) → IsTrue (is_inside everywhere q) → Within q → IsWritten (change q) (old.cell q) (new.cell q)
      pub others : (q : Coord) → IsTrue (is_inside everywhere q) → (Within q → ⊥) → new.cell q ≡ old.cell q

    -- the voxels of a part of a leaf extent are written in a leaf, and every other entry stays
    pub record AreLaid (Within : Coord → Type 0) (old new : Leaf V) : Type 0 where
      pub voxels : (d : Cell V) (q : Coord) → Within q → IsWritten (change q) (cell_in d old (offset vdb leaf_level q)) (cell_in d new (offset vdb leaf_level q))
      pub others : (d : Cell V) (i : ℕ) → ((q : Coord) → Within q → offset vdb leaf_level q ≢ i) → cell_in d new i ≡ cell_in d old i
