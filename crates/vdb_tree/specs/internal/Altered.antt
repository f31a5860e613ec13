-- Fields that are equal outside an upper extent.
use Rattle.std.specs.Prelude.{◌≡◌, ◌≢◌, IsTrue}
use Rattle.vdb_coord.specs.Blocks.{key}
use Rattle.vdb_coord.specs.Space.{everywhere, is_inside}
use Rattle.vdb_coord.specs.declared.Bits.{Bits}
use Rattle.vdb_coord.specs.declared.Coord.{Coord}
use Rattle.vdb_tree.specs.Field.{Field}

-- the backgrounds are equal, and so are the cells outside the upper extent of this key
pub record IsAlteredIn {V : Type 0} (bits : Bits) (k : Coord) (old new : Field V) : Type 0 where
  pub background : new.background ≡ old.background
  pub elsewhere : (q : Coord) → IsTrue (is_inside everywhere q) → key bits q ≢ k → new.cell q ≡ old.cell q

-- the cells at each coordinate are equal
abbrev pub AreSameCells : {V : Type 0} → Field V → Field V → Type 0
AreSameCells old new = (q : Coord) → IsTrue (is_inside everywhere q) → new.cell q ≡ old.cell q
