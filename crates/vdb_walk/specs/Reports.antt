-- What is reported of a field: its active voxels in block order, their bounding box, and how many blocks of each level aren't constant.
use Rattle.std.specs.Prelude.{◌≡◌, ◌⊎◌, ℕ, suc, Bool, false, List, [], ◌∷◌, map, filter, fold, Option, Some, None, IsTrue}
use Rattle.std.specs.BTreeSet.{insert_key}
use Rattle.vdb_coord.specs.Blocks.{block_cmp, is_past}
use Rattle.vdb_coord.specs.Space.{Box, coordinates, is_inside, is_within}
use Rattle.vdb_coord.specs.declared.Bits.{Bits}
use Rattle.vdb_coord.specs.declared.Coord.{Coord}
use Rattle.vdb_tree.specs.Field.{Field}
use Rattle.vdb_tree.specs.Smallest.{least_counts}
use Rattle.vdb_walk.specs.declared.smallest.Census.{Census}

-- each of the coordinates once, in block order
abbrev pub in_block_order : Bits → List Coord → List Coord
in_block_order bits ps = fold (insert_key (block_cmp bits)) [] ps

module _ {V : Type 0} where
  -- the active voxels of the box in block order, with their values
  abbrev pub active : Bits → Field V → Box → List (Coord × V)
  active bits f box = map (λ p. (p, (f.cell p).value)) (in_block_order bits (filter (λ p. (f.cell p).on) (coordinates box)))

  -- the active voxels of the box that come past the last one
  abbrev pub past : Bits → Option Coord → List (Coord × V) → List (Coord × V)
  past bits last items = filter (λ item. is_past bits last item.0) items

  -- the box holds each active voxel
  abbrev pub HoldsActive : Field V → Box → Type 0
  HoldsActive f box = (p : Coord) → IsTrue (f.cell p).on → IsTrue (is_inside box p)

  -- the bounding box of the active voxels, or none if no voxel is active
  abbrev pub IsActiveBounds : Field V → Option Box → Type 0
  IsActiveBounds f None = (p : Coord) → (f.cell p).on ≡ false
  IsActiveBounds f (Some box) = HoldsActive f box × ((other : Box) → HoldsActive f other → IsTrue (is_within box other))

-- the counts of the smallest tree with this field: how many root blocks hold anything but the background, and how many blocks of
-- each level aren't constant
abbrev pub census : {V : Type 0} → (V → V → Bool) → Bits → Field V → Census
census eq bits f = let counts = least_counts eq bits f in record { roots = counts.entries; upper = counts.upper; lower = counts.lower; leaf = counts.leaf }

-- What a listing has before it: the voxels left, and the limit.
pub record Listed (V : Type 0) : Type 0 where
  -- the active voxels of its box past the one that was yielded last
  pub rest : List (Coord × V)
  -- how many of them it may still yield
  pub left : ℕ

-- it yields the next voxel, or none if none is left or the limit is reached
abbrev pub Yields : {V : Type 0} → Listed V → Option (Coord × V) → Listed V → Type 0
Yields old (Some item) new = (old.rest ≡ item ∷ new.rest) × (old.left ≡ suc new.left)
Yields old None new = ((old.rest ≡ []) ⊎ (old.left ≡ 0)) × (new ≡ old)
