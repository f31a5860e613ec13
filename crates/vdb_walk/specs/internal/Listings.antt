-- The active voxels past a coordinate: in the part that a walk has yielded, and in the rest of the walk.
use Rattle.std.specs.Prelude.{◌≡◌, ◌⊎◌, ◌+◌, ◌%◌, ◌<◌, ◌≤◌, ◌-ℤ◌, ℕ, true, false, Option, Some, None, IfNone, IfSome, IsSomeAnd, IsTrue, slice_index_or, unsigned_abs}
use Rattle.std.specs.Borrow.{Bor}
use Rattle.vdb_coord.specs.Blocks.{offset}
use Rattle.vdb_coord.specs.Boxes.{is_bounds}
use Rattle.vdb_coord.specs.Space.{Box, is_inside}
use Rattle.vdb_coord.specs.declared.Bits.{Bits}
use Rattle.vdb_coord.specs.declared.Coord.{Coord}
use Rattle.vdb_coord.specs.declared.Level.TheVariants.{Leaf as leaf_level}
use Rattle.vdb_mask.specs.Mask.{is_on}
use Rattle.vdb_node.specs.Leaf.{Leaf as LeafOf, cell_in}
use Rattle.vdb_tree.specs.Layout.{Layout, field_of}
use Rattle.vdb_tree.specs.Parts.{IsPartOfLeaf, IsWalk, OnLeaf, OnTile, TreeWalk, is_left}
use Rattle.vdb_tree.specs.declared.queries.parts.Content.{Content}
use Rattle.vdb_tree.specs.declared.queries.parts.Content.TheVariants.{Leaf, Tile}
use Rattle.vdb_tree.specs.declared.queries.parts.Part.{Part}
use Rattle.vdb_tree.specs.declared.queries.parts.Skip.TheVariants.{Inactive}
use Rattle.vdb_value.specs.declared.Cell.{Cell}
use Rattle.vdb_walk.specs.internal.Firsts.{IsActivePast, IsInLeafBlock}
use Rattle.vdb_walk.specs.declared.held.Held.{Held}
use Rattle.vdb_walk.specs.declared.held.Run.{Run}

-- the cell of a tile; none for a leaf
abbrev pub tile_of : {V L : Type 0} → Content V L → Option (Cell V)
tile_of (Tile cell) = Some cell
tile_of (Leaf leaf) = None

-- q lies in the part, if one is given
abbrev pub IsInPart : {V : Type 0} → Option (Held V) → Coord → Type 0
IsInPart None q = ⊥
IsInPart (Some held) q = IsTrue (is_inside held.bounds q)

-- the entries of the run follow that of p, along z in the box, and the leaf has them on, with the values of the run
pub record IsRunOf {V : Type 0} (leaf : LeafOf V) (box : Box) (p : Coord) (entry : ℕ) (run : Run V) : Type 0 where
  pub at : run.entry ≡ entry + 1
  pub near : run.end ≤ run.entry + unsigned_abs (box.max.z -ℤ p.z)
  pub on : (k : ℕ) → run.entry ≤ k → k < run.end → is_on leaf.states k ≡ true
  pub values : (k : ℕ) (d : Cell V) (e : V) → run.entry ≤ k → k < run.end → slice_index_or run.values (k % 8) e ≡ (cell_in d leaf k).value

module _ {V : Type 0} (bits : Bits) (t : Layout V) where
  -- the voxels of the run follow p along z in the box, a part of a leaf, and are active, with the values of the run
  pub record IsRun (box : Box) (p : Coord) (run : Run V) : Type 0 where
    pub bounds : is_bounds box ≡ true
    pub block : IsInLeafBlock bits box
    pub inside : IsTrue (is_inside box p)
    pub at : run.entry ≡ offset bits leaf_level p + 1
    pub near : run.end ≤ run.entry + unsigned_abs (box.max.z -ℤ p.z)
    pub on : (q : Coord) → IsTrue (is_inside box q) → run.entry ≤ offset bits leaf_level q → offset bits leaf_level q < run.end → ((field_of bits t).cell q).on ≡ true
    pub values : (q : Coord) (e : V) → IsTrue (is_inside box q) → run.entry ≤ offset bits leaf_level q → offset bits leaf_level q < run.end
        → slice_index_or run.values (offset bits leaf_level q % 8) e ≡ ((field_of bits t).cell q).value

  -- the run follows the last voxel in the part, unless it has no voxel
  abbrev pub IsAhead : Option Coord → Option (Held V) → Run V → Type 0
  IsAhead last part run = run.entry < run.end → IsSomeAnd last (λ p. IsSomeAnd part (λ held. IsRun held.bounds p run))

  -- the part has the field's cells
  pub record HasCells (part : Part V (Bor (LeafOf V))) : Type 0 where
    pub tile : OnTile part.content (λ cell. (q : Coord) → IsTrue (is_inside part.bounds q) → (field_of bits t).cell q ≡ cell)
    pub leaf : OnLeaf part.content (λ leaf. IsPartOfLeaf bits (field_of bits t) part.bounds leaf.now)

  -- the field has the tile's cell all over the part, or the part lies in one leaf block
  pub record IsHeld (held : Held V) : Type 0 where
    pub tile : IfSome held.tile (λ cell. (q : Coord) → IsTrue (is_inside held.bounds q) → (field_of bits t).cell q ≡ cell)
    pub leaf : IfNone held.tile (IsInLeafBlock bits held.bounds)

  -- the walk has yielded the part
  pub record IsYielded (walk : TreeWalk V) (held : Held V) : Type 0 where
    pub cells : IsHeld held
    pub inside : (q : Coord) → IsTrue (is_inside held.bounds q) → IsTrue (is_inside walk.box q)
    pub gone : (q : Coord) → IsTrue (is_inside held.bounds q) → is_left bits walk.at q ≡ false

  -- an active voxel past the last one lies in the part or in the rest of the walk
  pub record IsListing (last : Option Coord) (w : TreeWalk V) (held : Option (Held V)) : Type 0 where
    pub walk : IsWalk bits t w
    pub skip : w.skip ≡ Inactive
    pub part : IfSome held (IsYielded w)
    pub rest : (q : Coord) → IsTrue (is_inside w.box q) → IsActivePast bits last (field_of bits t) q → IsInPart held q ⊎ IsTrue (is_left bits w.at q)
