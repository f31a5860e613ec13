-- The leaves of a grid as they cross to C.
use Rattle.std.specs.Prelude.{◌≡◌, ◌⊎◌, ◌*◌, ◌+◌, ◌<◌, ◌≤◌, ◌||◌, ◌&&◌, ℕ, zero, suc, ℤ, Bool, false, not, List, Option, Some, None, IsTrue, get_or, length, nat_eq}
use Rattle.vdb_coord.specs.Blocks.{block_number, offset, vdb}
use Rattle.vdb_coord.specs.Space.{everywhere, is_inside}
use Rattle.vdb_coord.specs.declared.Coord.{Coord}
use Rattle.vdb_coord.specs.declared.Level.TheVariants.{Leaf}
use Rattle.vdb_mask.specs.Mask.{has_bit}
use Rattle.vdb_tree.specs.Leaves.{IsNextLeaf}
use Rattle.vdb_tree.specs.Smallest.{counts_of}
use Rattle.vdb_scene.specs.Grids.{grid_field}
use Rattle.vdb_scene.specs.declared.any_grid.AnyGrid.{AnyGrid}
use Rattle.vdb_scene.specs.declared.any_grid.AnyGrid.TheVariants as grids
use Rattle.vdb_c.specs.Codes.{done, out_of_range}
use Rattle.vdb_c.specs.Many.{number_at, voxel_at}
use Rattle.vdb_c.specs.declared.values.Corner.{Corner}

-- the number of leaves of a grid's tree
abbrev pub leaf_count : AnyGrid → ℕ
leaf_count (grids.Bool g) = (counts_of g.tree).leaf
leaf_count (grids.I32 g) = (counts_of g.tree).leaf
leaf_count (grids.I64 g) = (counts_of g.tree).leaf

-- the first leaf of a grid's tree past a coordinate in block order, if there is one
abbrev pub IsNextLeafOf : AnyGrid → Option Coord → Option Coord → Type 0
IsNextLeafOf (grids.Bool g) = IsNextLeaf vdb g.tree
IsNextLeafOf (grids.I32 g) = IsNextLeaf vdb g.tree
IsNextLeafOf (grids.I64 g) = IsNextLeaf vdb g.tree

-- whether an array has this many elements for each of these leaves, or none
abbrev pub has_rows : ℕ → ℕ → ℕ → Bool
has_rows size count len = nat_eq len 0 || nat_eq len (size * count)

-- whether there is room for a leaf, and both arrays fit the room
abbrev pub is_room : ℕ → ℕ → ℕ → Bool
is_room count values states = not (nat_eq count 0) && (has_rows 512 count values && has_rows 8 count states)

-- past which coordinate leaf k of an array is the next one
abbrev pub last_before : Option Coord → List Corner → ℕ → Option Coord
last_before after at zero = after
last_before after at (suc k) = Some (voxel_at at k)

-- the first n elements of an array are the first leaves past a coordinate, which are all that are left if room for more is left
pub record AreNextLeaves (next : Option Coord → Option Coord → Type 0) (after : Option Coord) (n : ℕ) (old new : List Corner) : Type 0 where
  pub size : length new ≡ length old
  pub fits : n ≤ length old
  pub each : (k : ℕ) → k < n → next (last_before after new k) (Some (voxel_at new k))
  pub all : n < length old → next (last_before after new n) None
  pub others : (i : ℕ) (d : Corner) → n ≤ i → get_or new i d ≡ get_or old i d

-- an array has a row of elements for each of the first n leaves, with this relation to them; the other elements stay, and an empty
-- array stays so
pub record HasRows {X : Type 0} (size n : ℕ) (row : ℕ → ℕ → X → Type 0) (old new : List X) : Type 0 where
  pub len : length new ≡ length old
  pub rows : (k i : ℕ) (d : X) → k < n → i < size → size * k + i < length old → row k i (get_or new (size * k + i) d)
  pub others : (i : ℕ) (d : X) → size * n ≤ i → get_or new i d ≡ get_or old i d

-- an array has a run of elements from one on, with this relation to their number in the run; the other elements stay
pub record HasRun {X : Type 0} (first size : ℕ) (run : ℕ → X → Type 0) (old new : List X) : Type 0 where
  pub len : length new ≡ length old
  pub elements : (i : ℕ) (d : X) → i < size → first + i < length old → run i (get_or new (first + i) d)
  pub before : (i : ℕ) (d : X) → i < first → get_or new i d ≡ get_or old i d
  pub after : (i : ℕ) (d : X) → first + size ≤ i → get_or new i d ≡ get_or old i d

-- the voxel lies in the leaf around p
abbrev pub IsInLeaf : Coord → Coord → Type 0
IsInLeaf p q = IsTrue (is_inside everywhere q) × (block_number vdb Leaf q ≡ block_number vdb Leaf p)

-- element i of a leaf's values: that of the voxel at offset i
abbrev pub IsValueOf : (Coord → ℤ) → Coord → ℕ → ℤ → Type 0
IsValueOf of p i x = (q : Coord) → IsInLeaf p q → offset vdb Leaf q ≡ i → x ≡ of q

-- word i of a leaf's states: those of the voxels at offsets 64 * i + j, at bit j
abbrev pub IsWordOf : (Coord → Bool) → Coord → ℕ → ℕ → Type 0
IsWordOf on p i x = (q : Coord) (j : ℕ) → IsInLeaf p q → j < 64 → offset vdb Leaf q ≡ 64 * i + j → has_bit x j ≡ on q

-- a call copies the first leaves of a grid past a coordinate, with their values and their states, if there is room; otherwise nothing
-- changes
unfoldable pub CopiesLeaves : AnyGrid → Option Coord → ℕ → ℕ → List Corner → List Corner → List ℤ → List ℤ → List ℕ → List ℕ → ℤ → Type 0
CopiesLeaves g after had n at at' values values' states states' code =
    (IsTrue (is_room (length at) (length values) (length states)) × (code ≡ done) × AreNextLeaves (IsNextLeafOf g) after n at at'
    × HasRows 512 n (λ k. IsValueOf (number_at (grid_field g)) (voxel_at at' k)) values values'
    × HasRows 8 n (λ k. IsWordOf (λ q. ((grid_field g).cell q).on) (voxel_at at' k)) states states')
    ⊎ ((is_room (length at) (length values) (length states) ≡ false) × (code ≡ out_of_range) × (n ≡ had) × (at' ≡ at) × (values' ≡ values) × (states' ≡ states))
