-- A swept table stays swept if no key and no background cell is added.
use Rattle.vdb_tree.proofs.Common.{◌≡◌, ◌∙◌, refl, sym, ap, false, List, inl, inr, None, Option, Some, IsSome, IsTrue, if◌then◌else◌, key, coord_eq, Bits, Coord, Entry, Cell, Changes, IsSwept, Keeps, Layout, background_cell, cell_at, root_at}
use Rattle.vdb_tree.proofs.Blocks.{never}
use Rattle.vdb_tree.proofs.Levels.{coord_cases}
use Rattle.vdb_tree.proofs.RootSweeps.{other_key, that_key}

-- without knowledge that the table is swept, nothing is to be shown
pub not_known : {A : Type 0} → IsTrue false → A
not_known h = absurd (never {b = false} refl h)

entry_from : {V : Type 0} (o : Option (Entry V)) → IsSome o → (entry : Entry V) × (o ≡ Some entry)
entry_from None h = cc
entry_from (Some entry) h = (entry, refl)

-- if a key without an entry gets none, no key is added to the table
pub updated_held : {V : Type 0} (old new : List (Coord × Entry V)) (at : Coord) (o : Option (Entry V)) → ((k : Coord) → root_at new k ≡ (if coord_eq at k then o else root_at old k))
    → (IsSome o → IsSome (root_at old at)) → (k : Coord) → IsSome (root_at new k) → IsSome (root_at old k)
updated_held old new at o updates held k h =
    elim (coord_cases k at) [
      | inl e ↦ let here = that_key old new at o updates in rw e (held (rw here at (rw e at h)))
      | inr d ↦ let same = other_key old new at k o updates d in rw same at h
    ]

module _ {V : Type 0} (bits : Bits) (old new : Layout V) (keys : (k : Coord) → IsSome (root_at new.root k) → IsSome (root_at old.root k)) where
  still_swept : ((q : Coord) → cell_at bits new q ≡ background_cell new → cell_at bits old q ≡ background_cell old) → IsSwept bits old → IsSwept bits new
  still_swept cells swept p entry there constant =
      let held = entry_from (root_at old.root (key bits p)) (keys (key bits p) (rw there refl)) in
      swept p held.0 held.1 (λ q same. cells q (constant q same))

  background_stays : new.background ≡ old.background → background_cell new ≡ background_cell old
  background_stays same = ap (λ b. record { value = b; on = false }) same

  -- if every cell stays, a swept table stays swept
  pub kept_swept : Keeps bits old new → IsSwept bits old → IsSwept bits new
  kept_swept keeps = still_swept (λ q h. sym (keeps.cells q) ∙ h ∙ background_stays keeps.head.background)

  -- if one cell changes, and not to the background, a swept table stays swept
  pub changed_swept : (p : Coord) (cell : Cell V) → Changes bits old new p cell → (cell ≡ background_cell new → ⊥) → IsSwept bits old → IsSwept bits new
  changed_swept p cell changes other =
      still_swept (λ q h.
      elim (coord_cases q p) [
        | inl e ↦ absurd (other (sym (changes.cells.here q e) ∙ h))
        | inr d ↦ sym (changes.cells.there q d) ∙ h ∙ background_stays changes.head.background
      ])
