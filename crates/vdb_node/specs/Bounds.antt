-- The bounding box of a leaf's active voxels.
use Rattle.std.specs.Prelude.{◌≡◌, ◌/◌, ◌%◌, ◌<◌, ◌≤◌, ℕ, Bool, true, false, List, Option, Some, None}
use Rattle.vdb_mask.specs.Mask.{has_bit, is_on}
use Rattle.vdb_node.specs.declared.bounds.Span.{Span}
use Rattle.vdb_node.specs.declared.bounds.VoxelBox.{VoxelBox}

-- some index below n is on and has this coordinate
abbrev pub Reaches : (ℕ → Bool) → ℕ → (ℕ → ℕ) → ℕ → Type 0
Reaches on n coordinate c = (i : ℕ) × (i < n) × (on i ≡ true) × (coordinate i ≡ c)

-- the least and the greatest coordinate of the indices below n that are on
pub record IsSpanOf (on : ℕ → Bool) (n : ℕ) (coordinate : ℕ → ℕ) (span : Span) : Type 0 where
  pub least : (i : ℕ) → i < n → on i ≡ true → span.first ≤ coordinate i
  pub greatest : (i : ℕ) → i < n → on i ≡ true → coordinate i ≤ span.last
  pub first_reached : Reaches on n coordinate span.first
  pub last_reached : Reaches on n coordinate span.last

-- the span of the indices below n that are on, and nothing if none is on
abbrev pub IsSpan : (ℕ → Bool) → ℕ → (ℕ → ℕ) → Option Span → Type 0
IsSpan on n coordinate (Some span) = IsSpanOf on n coordinate span
IsSpan on n coordinate None = (i : ℕ) → i < n → on i ≡ false

-- each active voxel lies within the box, and some active voxel reaches each of its six faces; the voxel at (x, y, z) has index 64 x + 8 y + z
pub record IsBoxOf (states : List Bool) (box : VoxelBox) : Type 0 where
  pub x : IsSpanOf (is_on states) 512 (λ i. i / 64) box.x
  pub y : IsSpanOf (is_on states) 512 (λ i. i / 8 % 8) box.y
  pub z : IsSpanOf (is_on states) 512 (λ i. i % 8) box.z

-- the bounding box of the active voxels, and nothing if no voxel is active
abbrev pub IsActiveBox : List Bool → Option VoxelBox → Type 0
IsActiveBox states (Some box) = IsBoxOf states box
IsActiveBox states None = (i : ℕ) → i < 512 → is_on states i ≡ false

-- the bits of the word are the coordinates of the indices below n that are on
pub record Projects (on : ℕ → Bool) (n : ℕ) (coordinate : ℕ → ℕ) (word : ℕ) : Type 0 where
  pub each : (i : ℕ) → i < n → on i ≡ true → has_bit word (coordinate i) ≡ true
  pub reached : (c : ℕ) → has_bit word c ≡ true → Reaches on n coordinate c
