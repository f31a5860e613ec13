-- Which nodes and entries a tree must have, and which a least tree has.
use Rattle.vdb_tree.proofs.Common.{◌≡◌, ◌⊎◌, inl, inr, ℕ, Bool, true, refl, ap, ◌∙◌, IsTrue, Option, Some, None, IsSome, key, AreBits, Bits, Coord, Level, Leaf, Lower, Upper, Entry, Child, Tile, Cell, IsConstantBlock, IsNeeded, Layout, entry_over, background_cell, root_at, root_entry, is_child, IsLeast}
use Rattle.vdb_tree.specs.Smallest.{HasNeeded}
use Rattle.vdb_tree.proofs.Blocks.{non_constant_block, non_constant_from, never, non_background_block, non_background_from}
use Rattle.vdb_tree.proofs.Descents.{lower_by_block, root_by_block, tile_cell, tile_lower, tile_upper, upper_by_block}
use Rattle.vdb_tree.proofs.Levels.{tile_or_child}

-- an option has a value or it has none
pub some_or_none : {A : Type 0} (o : Option A) → ((x : A) × (o ≡ Some x)) ⊎ (o ≡ None)
some_or_none (Some x) = inl (x, refl)
some_or_none None = inr refl

-- the child of an entry that is a child
pub child_of : {V : Type 0} (e : Entry V) → IsTrue (is_child e) → (slot : ℕ) × (e ≡ Child slot)
child_of (Child slot) h = (slot, refl)
child_of (Tile c) h = cc

pub is_child_from : {V : Type 0} (e : Entry V) (slot : ℕ) → e ≡ Child slot → IsTrue (is_child e)
is_child_from e slot h = ap is_child h

pub is_some_from : {A : Type 0} (o : Option A) (x : A) → o ≡ Some x → IsSome o
is_some_from o x h = rw h refl

module _ {V : Type 0} (bits : Bits) (t : Layout V) where
  -- a block without an entry is covered by a tile
  pub absent_entry : (p : Coord) → root_at t.root (key bits p) ≡ None → root_entry bits t p ≡ Tile (background_cell t)
  absent_entry p none = rw none refl

  -- a block under a tile is constant
  pub tile_block : (level : Level) (p : Coord) (c : Cell V) → entry_over bits level t p ≡ Tile c → IsConstantBlock bits level t p c
  tile_block Upper p c h q e = tile_cell bits t c q (tile_lower bits t c q (tile_upper bits t c q (root_by_block bits t q p e ∙ h)))
  tile_block Lower p c h q e = tile_cell bits t c q (tile_lower bits t c q (upper_by_block bits t q p e ∙ h))
  tile_block Leaf p c h q e = tile_cell bits t c q (lower_by_block bits t q p e ∙ h)

  -- an upper extent with an absent key is all background
  pub absent_block : (p : Coord) → root_at t.root (key bits p) ≡ None → IsConstantBlock bits Upper t p (background_cell t)
  absent_block p none = tile_block Upper p (background_cell t) (absent_entry p none)

module _ {V : Type 0} (eq : V → V → Bool) (exact : (x y : V) → eq x y ≡ true → x ≡ y) (itself : (x : V) → eq x x ≡ true) (bits : Bits) (configured : AreBits bits) (t : Layout V) where
  -- each tree has the entries and the nodes that its field needs
  pub has_needed : HasNeeded eq bits t
  has_needed = record {
    entries = λ p inside h.
        elim (some_or_none (root_at t.root (key bits p))) [
          | inl e ↦ is_some_from (root_at t.root (key bits p)) e.0 e.1
          | inr none ↦ absurd (non_background_block eq exact itself bits configured Upper t p inside h (absent_block bits t p none))
        ];
    nodes = λ level p inside h.
        elim (tile_or_child (entry_over bits level t p)) [
          | inl tile ↦ absurd (non_constant_block eq exact itself bits configured level t p inside h tile.0 (tile_block bits t level p tile.0 tile.1))
          | inr child ↦ is_child_from (entry_over bits level t p) child.0 child.1
        ];
  }

  -- a tree without entries for background blocks, and without nodes over constant ones, is least
  pub least_from : ((p : Coord) (entry : Entry V) → root_at t.root (key bits p) ≡ Some entry → IsConstantBlock bits Upper t p (background_cell t) → ⊥)
      → ((p : Coord) → IsNeeded bits Upper t p) → ((p : Coord) → IsNeeded bits Lower t p) → ((p : Coord) → IsNeeded bits Leaf t p) → IsLeast eq bits t
  least_from entries uppers lowers leaves = record {
    entries = λ p inside h.
        non_background_from eq exact itself bits configured Upper t p inside (entry_given (root_at t.root (key bits p)) h (entries p));
    nodes = λ level p inside h.
        let child = child_of (entry_over bits level t p) h in
        non_constant_from eq exact itself bits configured level t p inside (needed level p child.0 child.1);
  }
    where
      entry_given : {X : Type 0} (o : Option (Entry V)) → IsSome o → ((entry : Entry V) → o ≡ Some entry → X) → X
      entry_given (Some entry) h k = k entry refl
      entry_given None h k = absurd (never refl h)

      needed : (level : Level) (p : Coord) → IsNeeded bits level t p
      needed Upper = uppers
      needed Lower = lowers
      needed Leaf = leaves
