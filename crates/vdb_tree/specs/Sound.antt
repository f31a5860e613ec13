-- The invariant of every tree.
use Rattle.std.specs.Prelude.{◌≡◌, ◌≤◌, ◌*◌, ℕ, IsSome, IsTrue}
use Rattle.std.specs.List.{IsDistinct}
use Rattle.std.specs.Map.{keys_of}
use Rattle.vdb_coord.specs.Blocks.{block_number, block_numbers}
use Rattle.vdb_coord.specs.Entries.{AreBits}
use Rattle.vdb_coord.specs.Space.{coord_eq, is_inside}
use Rattle.vdb_coord.specs.declared.Bits.{Bits}
use Rattle.vdb_coord.specs.declared.Coord.{Coord}
use Rattle.vdb_coord.specs.declared.Level.{Level}
use Rattle.vdb_coord.specs.declared.Level.TheVariants.{Leaf, Lower, Upper}
use Rattle.vdb_node.specs.Nodes.{entry_count}
use Rattle.vdb_node.specs.declared.Entry.{Entry}
use Rattle.vdb_node.specs.declared.Entry.TheVariants.{Child}
use Rattle.vdb_pool.specs.Contents.{Contents, node_at}
use Rattle.std.specs.Prelude.{length}
use Rattle.vdb_tree.specs.Layout.{Layout, bits_of, lower_entry, root_at, root_entry, upper_entry}

-- nodes of 1 to 5 bits a level, with words for their masks
pub record IsConfigured (U L F WU WL WF : ℕ) : Type 0 where
  pub bits : AreBits (bits_of U L F)
  pub upper_words : entry_count U ≤ 64 * WU
  pub lower_words : entry_count L ≤ 64 * WL
  pub leaf_words : entry_count F ≤ 64 * WF
  pub few_upper_words : WU ≤ 512
  pub few_lower_words : WL ≤ 512
  pub few_leaf_words : WF ≤ 512

-- The entries over one level's blocks and the pool of that level's nodes: each child is held, no two blocks share one, and some
-- descent meets each held node.
pub record IsOwned {V N : Type 0} (bits : Bits) (level : Level) (entry : Coord → Entry V) (pool : Contents N) : Type 0 where
  pub held : (p : Coord) (slot : ℕ) → entry p ≡ Child slot → IsSome (node_at pool slot)
  pub own : (p q : Coord) (slot : ℕ) → entry p ≡ Child slot → entry q ≡ Child slot → block_number bits level p ≡ block_number bits level q
  pub met : (slot : ℕ) → IsSome (node_at pool slot) → (p : Coord) × (entry p ≡ Child slot)

-- the table keeps to its limit; its keys are those of upper extents, once each; the nodes of each level have one owner
pub record IsSound {V : Type 0} (bits : Bits) (t : Layout V) : Type 0 where
  pub limit : length t.root ≤ t.limit
  pub apart : IsDistinct coord_eq (keys_of t.root)
  pub keys : (k : Coord) → IsSome (root_at t.root k) → IsTrue (is_inside (block_numbers bits Upper) k)
  pub uppers : IsOwned bits Upper (root_entry bits t) t.uppers
  pub lowers : IsOwned bits Lower (upper_entry bits t) t.lowers
  pub leaves : IsOwned bits Leaf (lower_entry bits t) t.leaves
