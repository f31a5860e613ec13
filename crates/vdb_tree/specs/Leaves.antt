-- Leaves as the tools see them: the cells of a leaf extent, its states as words, and the leaves in block order.
use Rattle.std.specs.Prelude.{◌≡◌, ◌≢◌, ℕ, Bool, true, false, if◌then◌else◌, List, Option, Some, None, IsTrue}
use Rattle.std.specs.Ordering.{is_lt}
use Rattle.vdb_coord.specs.Blocks.{block_cmp, block_number, is_past, offset}
use Rattle.vdb_coord.specs.Space.{Box, coord_eq, everywhere, is_inside}
use Rattle.vdb_coord.specs.declared.Bits.{Bits}
use Rattle.vdb_coord.specs.declared.Coord.{Coord}
use Rattle.vdb_coord.specs.declared.Level.TheVariants.{Leaf}
use Rattle.vdb_mask.specs.Mask.{is_on}
use Rattle.vdb_node.specs.Leaf.{cell_in, Leaf as LeafOf, SetsVoxel}
use Rattle.vdb_node.specs.declared.Entry.TheVariants.{Child}
use Rattle.vdb_pool.specs.Contents.{node_at, with_node}
use Rattle.vdb_value.specs.declared.Cell.{Cell}
use Rattle.vdb_tree.specs.Field.{Field, field, off}
use Rattle.vdb_tree.specs.Layout.{Layout, field_of, lower_entry}
use Rattle.vdb_tree.specs.Paths.{in_leaf}

module _ {V : Type 0} (bits : Bits) where
  -- the leaf has the cells of p's leaf extent
  abbrev pub IsLeafAround : Field V → Coord → LeafOf V → Type 0
  IsLeafAround f p leaf =
      (q : Coord) → IsTrue (is_inside everywhere q) → block_number bits Leaf q ≡ block_number bits Leaf p
      → f.cell q ≡ cell_in (off f.background) leaf (offset bits Leaf q)

  -- the field in which the states of p's leaf extent are the mask's
  abbrev pub with_states_of : Coord → List Bool → Field V → Field V
  with_states_of p mask f = field f.background (λ q.
      if coord_eq (block_number bits Leaf p) (block_number bits Leaf q) then record { value = (f.cell q).value; on = is_on mask (offset bits Leaf q) } else f.cell q)

  -- the field in which p's leaf extent has the cells of a leaf
  abbrev pub with_leaf : Coord → LeafOf V → Field V → Field V
  with_leaf p leaf f = field f.background (λ q. if coord_eq (block_number bits Leaf p) (block_number bits Leaf q) then cell_in (off f.background) leaf (offset bits Leaf q) else f.cell q)

  -- at each coordinate of p's leaf extent the value stays and the state becomes the mask's; elsewhere every cell stays
  pub record SetsStates (old new : Field V) (p : Coord) (mask : List Bool) : Type 0 where
    pub here : (q : Coord) → IsTrue (is_inside everywhere q) → block_number bits Leaf q ≡ block_number bits Leaf p → new.cell q ≡ record { value = (old.cell q).value; on = is_on mask (offset bits Leaf q) }
    pub there : (q : Coord) → IsTrue (is_inside everywhere q) → block_number bits Leaf q ≢ block_number bits Leaf p → new.cell q ≡ old.cell q

  -- in the leaf over p, if there is one, the voxel p becomes this cell, and nothing else of the layout changes
  abbrev pub IsVoxelWritten : Layout V → Layout V → Coord → Cell V → Type 0
  IsVoxelWritten old new p cell =
      (slot : ℕ) (n : LeafOf V) → lower_entry bits old p ≡ Child slot → node_at old.leaves slot ≡ Some n
      → (m : LeafOf V) × (new ≡ record old { leaves = with_node old.leaves slot m }) × SetsVoxel n m (offset bits Leaf p) cell

  -- a leaf whose first coordinate comes past `after` in block order
  pub record IsLeafPast (t : Layout V) (after : Option Coord) (p : Coord) : Type 0 where
    pub inside : IsTrue (is_inside everywhere p)
    pub first : offset bits Leaf p ≡ 0
    pub leaf : IsTrue (in_leaf bits t p)
    pub past : IsTrue (is_past bits after p)

  -- the first leaf past `after` in block order, if there is one
  abbrev pub IsNextLeaf : Layout V → Option Coord → Option Coord → Type 0
  IsNextLeaf t after (Some p) = IsLeafPast t after p × ((q : Coord) → IsLeafPast t after q → is_lt (block_cmp bits q p) ≡ false)
  IsNextLeaf t after None = (q : Coord) → IsLeafPast t after q → ⊥

  -- each active voxel of the box lies in a leaf
  abbrev pub HasLeaves : Layout V → Box → Type 0
  HasLeaves t box = (p : Coord) → IsTrue (is_inside box p) → ((field_of bits t).cell p).on ≡ true → IsTrue (in_leaf bits t p)
