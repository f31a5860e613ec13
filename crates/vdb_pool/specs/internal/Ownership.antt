-- What a storage and a block own, and what is borrowed from them, at items of the row R.
use Rattle.std.specs.Prelude.{ℕ, ◌*◌, ◌^◌, List, [], ◌∷◌}
use Rattle.std.specs.Mem.{type_size}
use base.Fraction.{full_share}
use base.Fml.{Lft, Fml, ftrue, ffalse, fsep, feq, flt}
use mir.Raw.{raw}
use mir.Syntax.{Ty, ty_array}
use denote.RattleType.{RattleType}
use denote.Memory.{lone}
use denote.Sharing.{nothing, said, beside}
use denote.Struct.Lending.{lent_at}
use denote.RawPtr.{Ptr, lies_at, room_for, in_block}

module _ (R : RattleType) where
  -- the places in turn hold the items, and each place past those is room for one item
  abbrev pub storage_owns : List Ptr → List R.Denot → Fml
  storage_owns [] [] = ftrue
  storage_owns [] (x ∷ xs) = ffalse
  storage_owns (p ∷ ps) [] = fsep (room_for (raw (lone R.mir)) p) (storage_owns ps [])
  storage_owns (p ∷ ps) (x ∷ xs) = fsep (lies_at R full_share p x) (storage_owns ps xs)

  -- what a `&` to the storage holds: a `&` to each item
  abbrev pub storage_lends : List Ptr → List R.Denot → Lft → Fml
  storage_lends [] [] = nothing
  storage_lends [] (x ∷ xs) = said ffalse
  storage_lends (p ∷ ps) [] = nothing
  storage_lends (p ∷ ps) (x ∷ xs) = beside (lent_at R p x) (storage_lends ps xs)

  -- a place takes `stride` bytes, n of them fewer than 2 ^ 63, and p is in a block
  abbrev pub block_says : Ptr → ℕ → ℕ → Fml
  block_says p n stride = fsep (feq ℕ stride (type_size R)) (fsep (flt (n * type_size R) (2 ^ 63)) (in_block p ftrue))

  -- what `block_says` says, and the allocator's token for a block of n places
  abbrev pub block_owns : (Ty → Ptr → Fml) → Ptr → ℕ → ℕ → Fml
  block_owns token p n stride = fsep (block_says p n stride) (token (raw (ty_array (lone R.mir) n)) p)
