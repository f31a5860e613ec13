-- The state of a field while the blocks of a file are read into it.
use Rattle.std.specs.Prelude.{◌≡◌, ℕ, ◌≤◌, Bool, false, true, not, List, ◌++◌, length, filter}
use Rattle.vdb_coord.specs.Blocks.{block_around, sub_block}
use Rattle.vdb_coord.specs.Entries.{AreBits}
use Rattle.vdb_coord.specs.Space.{Box, everywhere, is_inside}
use Rattle.vdb_coord.specs.declared.Bits.{Bits}
use Rattle.vdb_coord.specs.declared.Coord.{Coord}
use Rattle.vdb_coord.specs.declared.Level.{Level}
use Rattle.vdb_coord.specs.declared.Level.TheVariants.{Upper}
use Rattle.vdb_tree.specs.ConstantBlocks.{is_background, roots}
use Rattle.vdb_tree.specs.Field.{Field, off}
use Rattle.vdb_file.specs.internal.LeafVoxels.{HasValues}

-- the two fields differ only in this box
pub record KeptOutside {V : Type 0} (b : Box) (f g : Field V) : Type 0 where
  pub background : g.background ≡ f.background
  pub cells : (p : Coord) → is_inside b p ≡ false → g.cell p ≡ f.cell p

-- the box of each entry of p's block
abbrev pub entry_box : Bits → Level → Coord → ℕ → Box
entry_box bits level p = sub_block bits level (block_around bits level p)

-- a number or a key, and then the bytes of a field's box
abbrev pub next_bytes : {V K : Type 0} → (K → List ℕ) → (Field V → Box → List ℕ) → (K → Box) → K × Field V → List ℕ
next_bytes code body box e = code e.0 ++ body e.1 (box e.0)

-- a field whose values have a type, and which is background beyond the range of coordinates
pub record IsLoaded {V : Type 0} (is_value : V → Type 0) (background : V) (f : Field V) : Type 0 where
  pub values : HasValues is_value background f
  pub outside : (p : Coord) → is_inside everywhere p ≡ false → f.cell p ≡ off background

module _ {V : Type 0} (eq : V → V → Bool) where
  -- the root blocks are within the limit, whatever the box holds
  pub record HasCapacityAt (bits : Bits) (limit : ℕ) (b : Box) (f : Field V) : Type 0 where
    pub few : (g : Field V) → KeptOutside b f g → roots eq bits g ≤ limit

  -- the block around p may be loaded: the field's values have the type, the block is all background, and the table has room for its root
  -- block under the limit
  pub record IsLoadable (is_value : V → Type 0) (bits : Bits) (limit : ℕ) (level : Level) (p : Coord) (f : Field V) : Type 0 where
    pub configured : AreBits bits
    pub values : HasValues is_value f.background f
    pub clear : is_background eq f (block_around bits level p) ≡ true
    pub capacity : HasCapacityAt bits limit (block_around bits Upper p) f

  -- each block whose number or key may come next may be loaded
  pub record AreLoadable {K : Type 0} (is_value : V → Type 0) (bits : Bits) (limit : ℕ) (level : Level) (N : K → Type 0) (box : K → Box) (f : Field V) : Type 0 where
    pub configured : AreBits bits
    pub each : (k : K) → N k → IsLoadable is_value bits limit level (box k).min f

  module _ (is_value : V → Type 0) (background : V) where
    -- a field that holds anything but the background in a box
    pub record ShowsIn (b : Box) (f : Field V) : Type 0 where
      pub values : HasValues is_value background f
      pub shown : is_background eq f b ≡ false

    -- a number or a key that may come next, with a field that holds anything but the background in its box
    pub record IsNext {K : Type 0} (N : K → Type 0) (box : K → Box) (e : K × Field V) : Type 0 where
      pub key : N e.0
      pub shows : ShowsIn (box e.0) e.1

    -- a field that holds anything but the background in exactly `count` of these boxes
    pub record ShowsInEach {K : Type 0} (box : K → Box) (ks : List K) (count : ℕ) (f : Field V) : Type 0 where
      pub values : HasValues is_value background f
      pub counted : length (filter (λ k. not (is_background eq f (box k))) ks) ≡ count

    -- a loaded field whose root blocks are within the limit
    pub record IsWithin (bits : Bits) (limit : ℕ) (f : Field V) : Type 0 where
      pub loaded : IsLoaded is_value background f
      pub few : roots eq bits f ≤ limit
