-- What a contract sees of a tree: its background and its limit, its root table and the nodes of its three pools.
use Rattle.std.specs.Prelude.{ℕ, List, Option, slice_index_or}
use Rattle.std.specs.Map.{lookup}
use Rattle.std.specs.Option.{option_map_or}
use Rattle.vdb_coord.specs.Blocks.{key, offset}
use Rattle.vdb_coord.specs.Space.{coord_eq}
use Rattle.vdb_coord.specs.declared.Bits.{Bits}
use Rattle.vdb_coord.specs.declared.Coord.{Coord}
use Rattle.vdb_coord.specs.declared.Level.{Level}
use Rattle.vdb_coord.specs.declared.Level.TheVariants.{Leaf, Lower, Upper}
use Rattle.vdb_node.specs.Leaf.{cell_in, Leaf as LeafOf}
use Rattle.vdb_node.specs.declared.Entry.{Entry}
use Rattle.vdb_node.specs.declared.Entry.TheVariants.{Child, Tile}
use Rattle.vdb_pool.specs.Contents.{Contents, node_at}
use Rattle.vdb_value.specs.declared.Cell.{Cell}
use Rattle.vdb_tree.specs.Field.{Field, field, off}

-- the root table has at most `limit` entries, each under the key of its upper extent; the slots of the children are those of
-- the upper nodes in the table, of the lower nodes in upper nodes, and of the leaves in lower nodes
pub record Layout (V : Type 0) : Type 0 where
  pub background : V
  pub limit : ℕ
  pub root : List (Coord × Entry V)
  pub uppers : Contents (List (Entry V))
  pub lowers : Contents (List (Entry V))
  pub leaves : Contents (LeafOf V)

-- the bits of nodes with 2 to the power U, L and F entries along each axis
abbrev pub bits_of : ℕ → ℕ → ℕ → Bits
bits_of U L F = record { upper = U; lower = L; leaf = F }

-- what an entry's node has at an index; for a tile, what the tile has
abbrev pub within : {V N E : Type 0} → (N → ℕ → E) → (Cell V → E) → E → Contents N → Entry V → ℕ → E
within read tile missing pool (Tile cell) i = tile cell
within read tile missing pool (Child slot) i = option_map_or (λ node. read node i) (node_at pool slot) missing

module _ {V : Type 0} where
  -- the inactive background
  abbrev pub background_cell : Layout V → Cell V
  background_cell t = off t.background

  -- the entry under a key, if there is one
  abbrev pub root_at : List (Coord × Entry V) → Coord → Option (Entry V)
  root_at root k = lookup (coord_eq k) root

  -- the entry under a key, or the tile that an absent entry stands for
  abbrev pub entry_of_key : Layout V → Coord → Entry V
  entry_of_key t k = option_map_or (λ entry. entry) (root_at t.root k) (Tile (background_cell t))

  -- what an entry has at an index: first for entries whose nodes are internal, then for those whose nodes are leaves
  abbrev pub within_internal : Cell V → Contents (List (Entry V)) → Entry V → ℕ → Entry V
  within_internal d = within (λ node i. slice_index_or node i (Tile d)) Tile (Tile d)

  abbrev pub within_leaf : Cell V → Contents (LeafOf V) → Entry V → ℕ → Cell V
  within_leaf d = within (cell_in d) (λ cell. cell) d

  -- the descent to p: its entry in the root table, in an upper node and in a lower node; below a tile in which the descent
  -- ends, each of these is that tile
  module _ (bits : Bits) where
    abbrev pub root_entry : Layout V → Coord → Entry V
    root_entry t p = entry_of_key t (key bits p)

    abbrev pub upper_entry : Layout V → Coord → Entry V
    upper_entry t p = within_internal (background_cell t) t.uppers (root_entry t p) (offset bits Upper p)

    abbrev pub lower_entry : Layout V → Coord → Entry V
    lower_entry t p = within_internal (background_cell t) t.lowers (upper_entry t p) (offset bits Lower p)

    -- the cell in which the descent ends; opaque, because goals do not need its body
    unfoldable pub cell_at : Layout V → Coord → Cell V
    cell_at t p = within_leaf (background_cell t) t.leaves (lower_entry t p) (offset bits Leaf p)

    -- the entry over p's block of the level: a node of the level or a tile
    abbrev pub entry_over : Level → Layout V → Coord → Entry V
    entry_over Upper = root_entry
    entry_over Lower = upper_entry
    entry_over Leaf = lower_entry

    -- the field that a tree stands for
    abbrev pub field_of : Layout V → Field V
    field_of t = field t.background (cell_at t)
