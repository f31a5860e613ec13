-- Places that are live in a pool.
use Rattle.std.specs.Prelude.{◌≡◌, ◌≢◌, ℕ, get_or, IsSome}
use denote.RawPtr.{null_ptr}
use Rattle.vdb_pool.specs.Contents.{Contents, node_at}
use Rattle.vdb_pool.specs.declared.place.Place.{Place}

module _ {T : Type 0} where
  -- the number of the place's slot
  abbrev pub place_slot : Place T → ℕ
  place_slot p = p.slot

  -- the slot is held, and the place has the address of that slot
  abbrev pub IsLive : Contents T → Place T → Type 0
  IsLive c p = IsSome (node_at c p.slot) × (p.address.pointer ≡ get_or c.places p.slot null_ptr)

  -- every place that was live is live
  abbrev pub KeepsLive : Contents T → Contents T → Type 0
  KeepsLive old new = (p : Place T) → IsLive old p → IsLive new p

  -- every place that was live is live, except those of this slot
  abbrev pub KeepsOthersLive : Contents T → Contents T → ℕ → Type 0
  KeepsOthersLive old new slot = (p : Place T) → p.slot ≢ slot → IsLive old p → IsLive new p

  -- every other slot has what it had
  abbrev pub KeepsOthers : Contents T → Contents T → ℕ → Type 0
  KeepsOthers old new slot = (other : ℕ) → other ≢ slot → node_at new other ≡ node_at old other
