-- The first coordinate of a box, in block order, that has a property. Only contracts of this crate use these definitions.
use Rattle.std.specs.Prelude.{◌≡◌, ◌⊎◌, ◌↔◌, ◌≤◌, ℕ, Bool, true, false, IsTrue, List, Option, Some, None, IsSome}
use Rattle.std.specs.Ordering.{is_lt}
use Rattle.vdb_coord.specs.Blocks.{block_cmp, block_number, is_past, key, offset}
use Rattle.vdb_coord.specs.Space.{Box, everywhere, is_inside}
use Rattle.vdb_coord.specs.Walk.{IsBefore}
use Rattle.vdb_coord.specs.declared.Bits.{Bits}
use Rattle.vdb_coord.specs.declared.Coord.{Coord}
use Rattle.vdb_coord.specs.declared.Level.TheVariants.{Leaf}
use Rattle.vdb_mask.specs.Mask.{is_on}
use Rattle.vdb_tree.specs.Field.{Field}
use Rattle.vdb_tree.specs.Layout.{Layout, root_at}
use Rattle.vdb_tree.specs.Pieces.{piece_around}
use Rattle.vdb_tree.specs.Table.{IsPast}

-- the first coordinate of the box with this property, if one exists
abbrev pub IsFirst : Bits → (Coord → Type 0) → Box → Option Coord → Type 0
IsFirst bits Kind box None = (q : Coord) → IsTrue (is_inside box q) → Kind q → ⊥
IsFirst bits Kind box (Some p) = IsTrue (is_inside box p) × Kind p × ((q : Coord) → IsTrue (is_inside box q) → Kind q → is_lt (block_cmp bits q p) ≡ false)

-- the coordinate comes past the last one
abbrev pub IsPastLast : Bits → Option Coord → Coord → Type 0
IsPastLast bits after q = IsTrue (is_past bits after q)

-- the first coordinate of the box past p by x, then y, then z
abbrev pub IsNextVoxel : Box → Coord → Option Coord → Type 0
IsNextVoxel box p None = (q : Coord) → IsTrue (is_inside box q) → IsBefore q p ⊎ (q ≡ p)
IsNextVoxel box p (Some next) = IsTrue (is_inside box next) × IsBefore p next × ((q : Coord) → IsTrue (is_inside box q) → IsBefore q next → IsBefore q p ⊎ (q ≡ p))

-- the coordinate comes past the last one and is active
abbrev pub IsActivePast : {V : Type 0} → Bits → Option Coord → Field V → Coord → Type 0
IsActivePast bits after f q = IsPastLast bits after q × ((f.cell q).on ≡ true)

-- the coordinate comes past the last one, and its state is on in the leaf
abbrev pub IsOnPast : Bits → Option Coord → List Bool → Coord → Type 0
IsOnPast bits after states q = IsPastLast bits after q × (is_on states (offset bits Leaf q) ≡ true)

-- the coordinates of the box past the last one are in the leaf from this entry on
abbrev pub IsEntryPast : Bits → Option Coord → Box → ℕ → Type 0
IsEntryPast bits after box from = (q : Coord) → IsTrue (is_inside box q) → IsPastLast bits after q ↔ (from ≤ offset bits Leaf q)

-- the box lies in one leaf block
abbrev pub IsInLeafBlock : Bits → Box → Type 0
IsInLeafBlock bits box = (q r : Coord) → IsTrue (is_inside box q) → IsTrue (is_inside box r) → block_number bits Leaf q ≡ block_number bits Leaf r

-- ---- pieces

module _ {V : Type 0} (bits : Bits) (t : Layout V) where
  -- q's root block has an entry, under a key past this one
  abbrev pub IsEntered : Option Coord → Coord → Type 0
  IsEntered after q = IsSome (root_at t.root (key bits q)) × IsPast after (key bits q)

  -- q's root block has an entry, and q comes past the last coordinate
  abbrev pub IsEnteredPast : Option Coord → Coord → Type 0
  IsEnteredPast last q = IsSome (root_at t.root (key bits q)) × IsPastLast bits last q

  -- q is the greatest coordinate of a piece under an entry
  abbrev pub EndsPiece : Coord → Type 0
  EndsPiece q = IsTrue (is_inside everywhere q) × IsSome (root_at t.root (key bits q)) × ((piece_around bits t q).max ≡ q)
