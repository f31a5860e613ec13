-- The stack of vacant slots, which are linked through themselves. No public clause cites this module.
use Rattle.std.specs.Prelude.{◌≡◌, ℕ, zero, suc, List, [], ◌∷◌, Option, Some, None, slice_get}
use Rattle.vdb_pool.specs.Contents.{IsAmong}
use Rattle.vdb_pool.specs.declared.slot.Slot.{Slot}
use Rattle.vdb_pool.specs.declared.slot.Slot.TheVariants.{Vacant, Held}

module _ {T : Type 0} where
  -- the slot that this one names
  abbrev pub link_of : Option (Slot T) → Option ℕ
  link_of None = None
  link_of (Some (Held _)) = None
  link_of (Some (Vacant next)) = next

  -- the first `count` slots along the links, from top on
  abbrev pub linked : ℕ → Option ℕ → List (Slot T) → List ℕ
  linked zero top slots = []
  linked (suc count) None slots = []
  linked (suc count) (Some slot) slots = slot ∷ linked count (link_of (slice_get slots slot)) slots

  -- from top on, `count` vacant slots name one another, each once, and the last names none
  abbrev pub IsStack : ℕ → Option ℕ → List (Slot T) → Type 0
  IsStack zero top slots = top ≡ None
  IsStack (suc count) top slots =
      (slot : ℕ) × (next : Option ℕ) × (top ≡ Some slot) × (slice_get slots slot ≡ Some (Vacant next))
      × (IsAmong slot (linked count next slots) → ⊥) × IsStack count next slots

  -- every vacant slot is in the list
  abbrev pub AreListed : List (Slot T) → List ℕ → Type 0
  AreListed slots list = (slot : ℕ) (next : Option ℕ) → slice_get slots slot ≡ Some (Vacant next) → IsAmong slot list
