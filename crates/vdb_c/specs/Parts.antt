-- The parts of a grid as they cross to C.
use Rattle.std.specs.Prelude.{◌≡◌, ◌⊎◌, ◌<◌, ◌≤◌, ℕ, zero, suc, ℤ, pos, ⊤, false, List, Option, Some, IsTrue, get_or, length}
use Rattle.vdb_coord.specs.Blocks.{is_past, vdb}
use Rattle.vdb_coord.specs.Boxes.{is_bounds}
use Rattle.vdb_coord.specs.Space.{Box, everywhere, is_inside}
use Rattle.vdb_coord.specs.declared.Coord.{Coord}
use Rattle.vdb_tree.specs.Field.{Field, off}
use Rattle.vdb_tree.specs.Parts.{IsInOneLeaf, is_left}
use Rattle.vdb_c.specs.Values.{corner_coord, state_number}
use Rattle.vdb_c.specs.declared.parts.GridPart.{GridPart}

-- the voxels of a part
abbrev pub voxels_of : GridPart → Box
voxels_of p = record { min = corner_coord p.voxels.min; max = corner_coord p.voxels.max }

-- part k of an array
abbrev pub part_at : List GridPart → ℕ → GridPart
part_at parts k = get_or parts k (record {
  voxels = record { min = record { x = pos 0; y = pos 0; z = pos 0 }; max = record { x = pos 0; y = pos 0; z = pos 0 } };
  value = pos 0;
  state = pos 0;
})

-- past which coordinate the parts follow that come after the first n
abbrev pub end_before : Option Coord → List GridPart → ℕ → Option Coord
end_before after parts zero = after
end_before after parts (suc k) = Some (voxels_of (part_at parts k)).max

-- q lies in one of the first n parts
abbrev pub IsInParts : List GridPart → ℕ → Coord → Type 0
IsInParts parts n q = (k : ℕ) × (k < n) × IsTrue (is_inside (voxels_of (part_at parts k)) q)

-- each voxel of part k comes past the part before it
abbrev pub IsApart : List GridPart → ℕ → Type 0
IsApart parts zero = ⊤
IsApart parts (suc k) = (q : Coord) → IsTrue (is_inside (voxels_of (part_at parts (suc k))) q) → IsTrue (is_past vdb (Some (voxels_of (part_at parts k)).max) q)

module _ {V : Type 0} where
  -- the cell at q is the inactive background
  abbrev pub IsFlat : Field V → Coord → Type 0
  IsFlat f q = f.cell q ≡ off f.background

  -- a leaf, or a tile whose voxels all have its value and its state
  abbrev pub IsPartOf : (V → ℤ) → Field V → GridPart → Type 0
  IsPartOf number f p =
      ((p.state ≡ pos 2) × IsInOneLeaf vdb (voxels_of p))
      ⊎ ((q : Coord) → IsTrue (is_inside (voxels_of p) q) → (p.value ≡ number (f.cell q).value) × (p.state ≡ state_number (f.cell q).on))

  -- The first n elements of an array are the parts of a field past a coordinate in block order: leaves, and tiles other than the inactive
  -- background. They are all that are left if room for more is left.
  pub record ArePartsPast (number : V → ℤ) (f : Field V) (after : Option Coord) (n : ℕ) (old new : List GridPart) : Type 0 where
    pub size : length new ≡ length old
    pub fits : n ≤ length old
    pub each : (k : ℕ) → k < n → IsPartOf number f (part_at new k)
    pub on : (k : ℕ) → k < n → IsTrue (is_past vdb (end_before after new k) (voxels_of (part_at new k)).max)
    pub apart : (k : ℕ) → k < n → IsApart new k
    pub all : (q : Coord) → IsTrue (is_inside everywhere q) → IsTrue (is_past vdb after q) → (n < length old) ⊎ (is_past vdb (end_before after new n) q ≡ false) → IsInParts new n q ⊎ IsFlat f q
    pub others : (i : ℕ) (d : GridPart) → n ≤ i → get_or new i d ≡ get_or old i d

  -- ---- a walk goes on; only the calls of this crate speak of it

  -- past a coordinate there is only background and this part until the walk's new place, and the part ends past that coordinate
  pub record PassesTo (f : Field V) (after old new : Option Coord) (part : Box) : Type 0 where
    pub bounds : IsTrue (is_bounds part)
    pub on : IsTrue (is_past vdb after part.max)
    pub later : (q : Coord) → IsTrue (is_left vdb new q) → IsTrue (is_left vdb old q)
    pub left : (q : Coord) → IsTrue (is_inside part q) → IsTrue (is_left vdb old q)
    pub gone : (q : Coord) → IsTrue (is_inside part q) → is_left vdb new q ≡ false
    pub passed : (q : Coord) → IsTrue (is_inside everywhere q) → IsTrue (is_past vdb after q) → IsTrue (is_left vdb old q) → is_left vdb new q ≡ false → IsTrue (is_inside part q) ⊎ IsFlat f q

  -- past a coordinate there is only background from the walk's place on
  abbrev pub PassesAll : Field V → Option Coord → Option Coord → Type 0
  PassesAll f after old = (q : Coord) → IsTrue (is_inside everywhere q) → IsTrue (is_past vdb after q) → IsTrue (is_left vdb old q) → IsFlat f q
