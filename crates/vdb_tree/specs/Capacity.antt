-- Upper extents that have an entry, together with those that meet a box: whether the table has capacity for both.
use Rattle.std.specs.Prelude.{◌≡◌, ◌⊎◌, ◌<◌, ◌≤◌, List, Option, Some, None, length, true, false, IsSome, IsTrue}
use Rattle.std.specs.List.{IsDistinct}
use Rattle.std.specs.Ordering.{is_gt}
use Rattle.std.specs.declared.cmp.Ordering.TheVariants.{Less}
use Rattle.std.specs.Set.{is_member}
use Rattle.vdb_coord.specs.Blocks.{key}
use Rattle.vdb_coord.specs.Space.{Box, coord_cmp, coord_eq, is_inside}
use Rattle.vdb_coord.specs.declared.Bits.{Bits}
use Rattle.vdb_coord.specs.declared.Coord.{Coord}
use Rattle.vdb_node.specs.declared.Entry.{Entry}
use Rattle.vdb_tree.specs.Layout.{Layout, root_at}
use Rattle.vdb_tree.specs.Table.{IsPast}

-- a coordinate of the box lies in the upper extent of this key
abbrev pub MeetsRootBlock : Bits → Box → Coord → Type 0
MeetsRootBlock bits box k = (p : Coord) × IsTrue (is_inside box p) × (key bits p ≡ k)

-- for a key outside the box of keys: past it, no key of the box comes before the next one; with none, no key of the box is left
abbrev pub SkipsTo : Box → Coord → Option Coord → Type 0
SkipsTo keys key None = (k : Coord) → IsTrue (is_inside keys k) → coord_cmp key k ≡ Less → ⊥
SkipsTo keys key (Some next) = (coord_cmp key next ≡ Less) × ((k : Coord) → IsTrue (is_inside keys k) → coord_cmp key k ≡ Less → is_gt (coord_cmp next k) ≡ false)

module _ {V : Type 0} (bits : Bits) where
  -- a key of the table past `after`, with no key between that meets the box; none if no key of the table past `after` meets it
  abbrev pub IsNextMet : Box → List (Coord × Entry V) → Option Coord → Option Coord → Type 0
  IsNextMet box root after None = (k : Coord) → IsPast after k → MeetsRootBlock bits box k → root_at root k ≡ None
  IsNextMet box root after (Some next) =
      IsSome (root_at root next) × IsPast after next
      × ((k : Coord) → IsPast after k → MeetsRootBlock bits box k → IsSome (root_at root k) → is_gt (coord_cmp next k) ≡ false)

  -- the entry of such a key
  abbrev pub IsNextMetEntry : Box → List (Coord × Entry V) → Option Coord → Option (Coord × Entry V) → Type 0
  IsNextMetEntry box root after None = IsNextMet box root after None
  IsNextMetEntry box root after (Some next) = IsNextMet box root after (Some next.0) × (root_at root next.0 ≡ Some next.1)

  -- the keys of the table and of the box are among as many keys as the limit
  pub record HasCapacityFor (t : Layout V) (box : Box) : Type 0 where
    pub keys : List Coord
    pub few : length keys ≤ t.limit
    pub entered : (k : Coord) → IsSome (root_at t.root k) → is_member coord_eq keys k ≡ true
    pub met : (p : Coord) → IsTrue (is_inside box p) → is_member coord_eq keys (key bits p) ≡ true

  -- more distinct keys of the table or of the box than the limit
  pub record LacksCapacityFor (t : Layout V) (box : Box) : Type 0 where
    pub keys : List Coord
    pub apart : IsDistinct coord_eq keys
    pub many : t.limit < length keys
    pub each : (k : Coord) → is_member coord_eq keys k ≡ true → IsSome (root_at t.root k) ⊎ MeetsRootBlock bits box k
