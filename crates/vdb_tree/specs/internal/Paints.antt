-- What a call paints: the part of a box that lies in one block. Only the calls of this crate speak of it.
use Rattle.std.specs.Prelude.{◌≡◌, ℕ, IsTrue}
use Rattle.vdb_coord.specs.Blocks.{block_number, offset}
use Rattle.vdb_coord.specs.Space.{Box, is_inside}
use Rattle.vdb_coord.specs.Walk.{IsBefore}
use Rattle.vdb_coord.specs.declared.Bits.{Bits}
use Rattle.vdb_coord.specs.declared.Coord.{Coord}
use Rattle.vdb_coord.specs.declared.Level.{Level}
use Rattle.vdb_coord.specs.declared.Level.TheVariants.{Leaf}
use Rattle.vdb_node.specs.Leaf.{cell_in, Leaf as LeafOf}
use Rattle.vdb_value.specs.declared.Cell.{Cell}
use Rattle.vdb_tree.specs.Changes.{KeepsHead, SameDescent}
use Rattle.vdb_tree.specs.Layout.{Layout, cell_at}
use Rattle.vdb_tree.specs.SplitBox.{IsSplitAt, IsTiledTo}

-- bits by which each coordinate is a block of its own
abbrev pub voxels : Bits
voxels = record { upper = 0; lower = 0; leaf = 0 }

-- at the offset of each coordinate of the part the leaf has this cell, and elsewhere what it had before
pub record PaintsVoxels {V : Type 0} (bits : Bits) (part : Box) (cell : Cell V) (old new : LeafOf V) : Type 0 where
  pub painted : (q : Coord) → IsTrue (is_inside part q) → (d : Cell V) → cell_in d new (offset bits Leaf q) ≡ cell
  pub others : (i : ℕ) → ((q : Coord) → IsTrue (is_inside part q) → offset bits Leaf q ≡ i → ⊥) → (d : Cell V) → cell_in d new i ≡ cell_in d old i

-- from p up to `last` in the order of coordinates, p's leaf extent has the part's coordinates and no other
pub record IsRun (bits : Bits) (part : Box) (p last : Coord) : Type 0 where
  pub inside : IsTrue (is_inside part last)
  pub same : block_number bits Leaf last ≡ block_number bits Leaf p
  pub behind : IsBefore last p → ⊥
  pub all : (q : Coord) → IsTrue (is_inside part q) → (IsBefore q p → ⊥) → (IsBefore last q → ⊥) → block_number bits Leaf q ≡ block_number bits Leaf p
  pub only : (q : Coord) → block_number bits Leaf q ≡ block_number bits Leaf p → (IsBefore q p → ⊥) → (IsBefore last q → ⊥) → IsTrue (is_inside part q)

module _ {V : Type 0} (bits : Bits) (box : Box) where
  -- each coordinate that the box doesn't have in the level's block with this number keeps its cell and the entries over it
  pub record KeepsOutside (level : Level) (old new : Layout V) (number : Coord) : Type 0 where
    pub head : KeepsHead old new
    pub cells : (q : Coord) → (IsTrue (is_inside box q) → block_number bits level q ≡ number → ⊥) → cell_at bits new q ≡ cell_at bits old q
    pub entries : (q : Coord) → (IsTrue (is_inside box q) → block_number bits level q ≡ number → ⊥) → SameDescent bits old new q

  module _ (cell : Cell V) where
    -- no tile over a coordinate of the box has to be split
    abbrev pub AreSplit : Layout V → Type 0
    AreSplit t = (level : Level) (q : Coord) → IsTrue (is_inside box q) → IsSplitAt bits box cell level t q

    -- q has the cell, and each block around it, from the level down, that lies within the box is a tile
    abbrev pub IsPainted : Level → Layout V → Coord → Type 0
    IsPainted level t q = (cell_at bits t q ≡ cell) × IsTiledTo bits box cell level t q

    -- all of the box in the outer level's block with this number is painted, from the inner level down
    abbrev pub ArePainted : Level → Level → Layout V → Coord → Type 0
    ArePainted outer inner t number = (q : Coord) → IsTrue (is_inside box q) → block_number bits outer q ≡ number → IsPainted inner t q
