-- Upper extents that have an entry, together with those in which another tree has an active voxel: whether the table has
-- capacity for both. Only the calls of this crate speak of it.
use Rattle.std.specs.Prelude.{◌≡◌, ◌⊎◌, ◌<◌, ◌≤◌, List, length, true, IsSome}
use Rattle.std.specs.List.{IsDistinct}
use Rattle.std.specs.Set.{is_member}
use Rattle.vdb_coord.specs.Blocks.{key}
use Rattle.vdb_coord.specs.Space.{coord_eq}
use Rattle.vdb_coord.specs.declared.Bits.{Bits}
use Rattle.vdb_coord.specs.declared.Coord.{Coord}
use Rattle.vdb_tree.specs.Layout.{Layout, cell_at, root_at}

module _ {X : Type 0} (bits : Bits) (u : Layout X) where
  -- the tree has an active voxel in the upper extent of this key
  abbrev pub IsActiveKey : Coord → Type 0
  IsActiveKey k = (q : Coord) × (key bits q ≡ k) × ((cell_at bits u q).on ≡ true)

  module _ {V : Type 0} (t : Layout V) where
    -- the keys of the table and those with an active voxel of the other tree are among as many keys as the limit
    pub record HasCapacityForActive : Type 0 where
      pub keys : List Coord
      pub few : length keys ≤ t.limit
      pub entered : (k : Coord) → IsSome (root_at t.root k) → is_member coord_eq keys k ≡ true
      pub met : (q : Coord) → (cell_at bits u q).on ≡ true → is_member coord_eq keys (key bits q) ≡ true

    -- more distinct keys of the table, or with an active voxel of the other tree, than the limit
    pub record LacksCapacityForActive : Type 0 where
      pub keys : List Coord
      pub apart : IsDistinct coord_eq keys
      pub many : t.limit < length keys
      pub each : (k : Coord) → is_member coord_eq keys k ≡ true → IsSome (root_at t.root k) ⊎ IsActiveKey k
