-- The bodies of blocks by their level.
use Rattle.std.specs.Prelude.{ℕ, Bool, List}
use Rattle.vdb_coord.specs.Space.{Box}
use Rattle.vdb_coord.specs.declared.Bits.{Bits}
use Rattle.vdb_coord.specs.declared.Level.{Level}
use Rattle.vdb_coord.specs.declared.Level.TheVariants.{Leaf, Lower, Upper}
use Rattle.vdb_tree.specs.Field.{Field}
use Rattle.vdb_file.specs.Bodies.{block_bytes, leaf_body, lower_body, root_body}

module _ {V : Type 0} (eq : V → V → Bool) (value_bytes : V → List ℕ) (bits : Bits) where
  -- the body of a block of the level
  abbrev pub level_body : Level → Field V → Box → List ℕ
  level_body Leaf = leaf_body eq value_bytes bits
  level_body Lower = lower_body eq value_bytes bits
  level_body Upper = root_body eq value_bytes bits

  -- the body of a block of the level whose entries are blocks of the level below
  abbrev pub inner_body : Level → Level → Field V → Box → List ℕ
  inner_body level below f = block_bytes eq value_bytes bits f (level_body below f) level
