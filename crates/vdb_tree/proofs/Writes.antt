-- The outcomes of a write of a voxel, one for each path through the code.
use Rattle.vdb_tree.proofs.Common.{◌≡◌, ◌⊎◌, inl, inr, ◌<◌, ◌≤◌, ℕ, Bool, true, IsTrue, refl, sym, ap, subst, ◌∙◌, arith, length, Err, None, Result, key, AreBits, everywhere, is_inside, Bits, Coord, Write, TreeRefusal, Memory, RootLimit, Changes, IsSwept, Keeps, Field, write, written, Child, Tile, Cell, Layout, cell_at, field_of, lower_entry, background_cell, root_at, root_entry, upper_entry, IsOutcome, roots, IsSound, AreSameCells, IsAlteredIn, HasCapacity}
use Rattle.vdb_tree.proofs.Descents.{tile_cell, tile_lower, tile_upper}
use Rattle.vdb_tree.proofs.Equations.{changes_field, keeps_field, same_field}
use Rattle.vdb_tree.proofs.Fields.{cell_inside}
use Rattle.vdb_tree.proofs.Levels.{coord_cases, like_coords, tile_no_child, unlike_coords}
use Rattle.vdb_tree.proofs.Needed.{absent_entry, is_some_from, some_or_none}
use Rattle.vdb_tree.proofs.Rooted.{altered_exceeds}

not_less : (a b : ℕ) → a ≤ b → (a < b → ⊥) → a ≡ b
not_less a b h never = elim (less_or a b h) [ inl k ↦ absurd (never k) | inr e ↦ e ]
  where
    less_or : (a b : ℕ) → a ≤ b → (a < b) ⊎ (a ≡ b)
    less_or a b h = grind arith

module _ {V : Type 0} (eq : V → V → Bool) (exact : (x y : V) → eq x y ≡ true → x ≡ y) (itself : (x : V) → eq x x ≡ true) (bits : Bits) (configured : AreBits bits) where
  -- a swept table without capacity is full of roots, and a field that differs only in p's upper extent has one more
  pub exceeds : (t : Layout V) (p : Coord) → IsTrue (is_inside everywhere p) → IsSound bits t → (HasCapacity t (key bits p) → ⊥) → IsSwept bits t → (changed : Field V)
      → IsAlteredIn bits (key bits p) (field_of bits t) changed → (AreSameCells (field_of bits t) changed → ⊥) → t.limit < roots eq bits changed
  exceeds t p inside sound no_capacity swept changed altered differs =
      altered_exceeds eq exact itself bits configured t p changed altered inside sound swept absent
      (not_less (length t.root) t.limit sound.limit (λ h. no_capacity (inr h))) differs
    where
      absent : root_at t.root (key bits p) ≡ None
      absent = elim (some_or_none (root_at t.root (key bits p))) [ inl x ↦ absurd (no_capacity (inl (is_some_from _ x.0 x.1))) | inr n ↦ n ]

module _ {V : Type 0} (bits : Bits) where
  -- a write of the cell that the voxel already has changes nothing
  pub standing_field : (t : Layout V) (p : Coord) (change : Write V) → written change ((field_of bits t).cell p) ≡ (field_of bits t).cell p → field_of bits t ≡ write p change (field_of bits t)
  standing_field t p change stands = same_field bits t t.background _ refl (λ q inside.
      let at = cell_inside t.background (cell_at bits t) q inside in
      elim (coord_cases p q) [
        | inl e ↦
            let yes = like_coords p q e in
            let s = subst (λ r. written change ((field_of bits t).cell r) ≡ (field_of bits t).cell r) e stands in
            rw yes (sym at ∙ sym s)
        | inr d ↦
            let no = unlike_coords p q d in
            rw no (sym at)
      ])

  -- the written voxel after steps that kept every cell
  pub written_field : (old mid new : Layout V) (p : Coord) (change : Write V) → Keeps bits old mid → Changes bits mid new p (written change (cell_at bits mid p))
      → field_of bits new ≡ write p change (field_of bits old)
  written_field old mid new p change keeps changes =
      changes_field bits mid new p change changes ∙ ap (write p change) (keeps_field bits old mid keeps)

  -- `Memory` after steps that kept every cell, if the change is within the limit
  pub kept_outcome : (eq : V → V → Bool) (old new : Layout V) (changed : Field V) (result : Result (Unit {0}) TreeRefusal) → result ≡ Err Memory → Keeps bits old new
      → roots eq bits changed ≤ old.limit → IsOutcome eq bits old.limit (field_of bits old) changed (field_of bits new) result
  kept_outcome eq old new changed result memory keeps within = rw memory (keeps_field bits old new keeps, within)

  -- `RootLimit` after steps that kept every cell, if the change exceeds the limit
  pub full_outcome : (eq : V → V → Bool) (old new : Layout V) (changed : Field V) (result : Result (Unit {0}) TreeRefusal) → result ≡ Err RootLimit → Keeps bits old new
      → old.limit < roots eq bits changed → IsOutcome eq bits old.limit (field_of bits old) changed (field_of bits new) result
  full_outcome eq old new changed result full keeps exceeds = rw full (keeps_field bits old new keeps, exceeds)

  -- the cell of a tile, in the field
  pub tile_field_cell : (t : Layout V) (p : Coord) (cell : Cell V) → IsTrue (is_inside everywhere p) → lower_entry bits t p ≡ Tile cell → (field_of bits t).cell p ≡ cell
  tile_field_cell t p cell inside tile = cell_inside t.background (cell_at bits t) p inside ∙ tile_cell bits t cell p tile

  -- an upper node over p has an entry above it
  pub upper_has_capacity : (t : Layout V) (p : Coord) (slot : ℕ) → root_entry bits t p ≡ Child slot → HasCapacity t (key bits p)
  upper_has_capacity t p slot child = elim (some_or_none (root_at t.root (key bits p))) [
    | inl x ↦ inl (is_some_from _ x.0 x.1)
    | inr n ↦ absurd (tile_no_child (background_cell t) slot (sym (absent_entry bits t p n) ∙ child))
  ]

  -- a lower node over p has an entry above it
  pub lower_has_capacity : (t : Layout V) (p : Coord) (slot : ℕ) → upper_entry bits t p ≡ Child slot → HasCapacity t (key bits p)
  lower_has_capacity t p slot child = elim (some_or_none (root_at t.root (key bits p))) [
    | inl x ↦ inl (is_some_from _ x.0 x.1)
    | inr n ↦ absurd (tile_no_child (background_cell t) slot (sym (tile_upper bits t (background_cell t) p (absent_entry bits t p n)) ∙ child))
  ]

  -- a child over p's leaf extent has an entry above it
  pub leaf_has_capacity : (t : Layout V) (p : Coord) (slot : ℕ) → lower_entry bits t p ≡ Child slot → HasCapacity t (key bits p)
  leaf_has_capacity t p slot child = elim (some_or_none (root_at t.root (key bits p))) [
    | inl x ↦ inl (is_some_from _ x.0 x.1)
    | inr n ↦ absurd (tile_no_child (background_cell t) slot (sym (tile_lower bits t (background_cell t) p (tile_upper bits t (background_cell t) p (absent_entry bits t p n))) ∙ child))
  ]
