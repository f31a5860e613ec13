-- The keys of a root table.
use Rattle.std.specs.Prelude.{◌≡◌, ◌⊎◌, ◌<◌, List, length, Option, Some, None, IsSome, false}
use Rattle.std.specs.Ordering.{is_gt}
use Rattle.std.specs.declared.cmp.Ordering.TheVariants.{Less}
use Rattle.vdb_coord.specs.Space.{coord_cmp}
use Rattle.vdb_coord.specs.declared.Coord.{Coord}
use Rattle.vdb_node.specs.declared.Entry.{Entry}
use Rattle.vdb_tree.specs.Layout.{Layout, root_at}

-- the key comes past `after`; with no `after`, any key does
abbrev pub IsPast : Option Coord → Coord → Type 0
IsPast None key = Unit {0}
IsPast (Some after) key = coord_cmp after key ≡ Less

module _ {V : Type 0} where
  -- the least key of the table past `after`, if there is one
  abbrev pub IsNextKey : List (Coord × Entry V) → Option Coord → Option Coord → Type 0
  IsNextKey root after None = (k : Coord) → IsPast after k → root_at root k ≡ None
  IsNextKey root after (Some next) =
      IsSome (root_at root next) × IsPast after next
      × ((k : Coord) → IsPast after k → IsSome (root_at root k) → is_gt (coord_cmp next k) ≡ false)

  -- the entry with the least key of the table past `after`, if there is one
  abbrev pub IsNextEntry : List (Coord × Entry V) → Option Coord → Option (Coord × Entry V) → Type 0
  IsNextEntry root after None = IsNextKey root after None
  IsNextEntry root after (Some next) = IsNextKey root after (Some next.0) × (root_at root next.0 ≡ Some next.1)

  -- the key has an entry, or the table has capacity for one more
  abbrev pub HasCapacity : Layout V → Coord → Type 0
  HasCapacity t key = IsSome (root_at t.root key) ⊎ (length t.root < t.limit)
