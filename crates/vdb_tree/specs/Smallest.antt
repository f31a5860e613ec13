-- Which nodes and entries a field requires of a tree, and when a tree has no others.
use Rattle.std.specs.Prelude.{◌≡◌, ◌≤◌, Bool, false, length, IsSome, IsTrue}
use Rattle.vdb_coord.specs.Blocks.{block_around, key}
use Rattle.vdb_coord.specs.Space.{everywhere, is_inside}
use Rattle.vdb_coord.specs.declared.Bits.{Bits}
use Rattle.vdb_coord.specs.declared.Coord.{Coord}
use Rattle.vdb_coord.specs.declared.Level.{Level}
use Rattle.vdb_coord.specs.declared.Level.TheVariants.{Leaf, Lower, Upper}
use Rattle.vdb_pool.specs.Contents.{count_of}
use Rattle.vdb_tree.specs.Field.{Field}
use Rattle.vdb_tree.specs.Layout.{Layout, entry_over, field_of, root_at}
use Rattle.vdb_tree.specs.Paths.{is_child}
use Rattle.vdb_tree.specs.ConstantBlocks.{is_constant, is_background, non_constant, roots}
use Rattle.vdb_tree.specs.declared.node_counts.NodeCounts.{NodeCounts}

-- the counts of a tree's table and pools
abbrev pub counts_of : {V : Type 0} → Layout V → NodeCounts
counts_of t = record { entries = length t.root; upper = count_of t.uppers; lower = count_of t.lowers; leaf = count_of t.leaves }

module _ {V : Type 0} (eq : V → V → Bool) (bits : Bits) where
  -- how many entries and nodes the field needs: its upper extents that hold anything but the background, and its blocks of each
  -- level that aren't constant
  abbrev pub least_counts : Field V → NodeCounts
  least_counts f = record { entries = roots eq bits f; upper = non_constant eq bits Upper f; lower = non_constant eq bits Lower f; leaf = non_constant eq bits Leaf f }

  -- each upper extent that holds anything but the background has an entry, and each block that isn't constant has a node over
  -- it
  pub record HasNeeded (t : Layout V) : Type 0 where
    pub entries : (p : Coord) → IsTrue (is_inside everywhere p) → is_background eq (field_of bits t) (block_around bits Upper p) ≡ false → IsSome (root_at t.root (key bits p))
    pub nodes : (level : Level) (p : Coord) → IsTrue (is_inside everywhere p) → is_constant eq (field_of bits t) (block_around bits level p) ≡ false → IsTrue (is_child (entry_over bits level t p))

  -- no background upper extent has an entry, and no constant block has a node over it
  pub record IsLeast (t : Layout V) : Type 0 where
    pub entries : (p : Coord) → IsTrue (is_inside everywhere p) → IsSome (root_at t.root (key bits p)) → is_background eq (field_of bits t) (block_around bits Upper p) ≡ false
    pub nodes : (level : Level) (p : Coord) → IsTrue (is_inside everywhere p) → IsTrue (is_child (entry_over bits level t p)) → is_constant eq (field_of bits t) (block_around bits level p) ≡ false

-- no count of the first exceeds that of the second
pub record IsAtMost (few many : NodeCounts) : Type 0 where
  pub entries : few.entries ≤ many.entries
  pub upper : few.upper ≤ many.upper
  pub lower : few.lower ≤ many.lower
  pub leaf : few.leaf ≤ many.leaf
