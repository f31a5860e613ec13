-- What a storage ends as, once a `&mut` into it has ended.
use Rattle.std.specs.Prelude.{ℕ, List, slice_set}
use Rattle.std.specs.Borrow.{Fml, RattleType, MutBor, Lends}
use Rattle.vdb_pool.specs.declared.storage.Storage.{Storage}
use Rattle.vdb_pool.specs.contracts.storage.Storage.{the_row}

-- the same places with other items
abbrev pub with_items : {X : Type 0} → Storage X → List X → Storage X
with_items s xs = record { mark = s.mark; places = s.places; items = xs }

-- the item at the index ends as the last value written through r, and nothing else changes
abbrev pub lends_item : (R : RattleType) → MutBor (Storage R.Denot) → ℕ → MutBor R.Denot → Fml
lends_item R s i r = Lends (the_row R) R s r (λ w. with_items s.now (slice_set s.now.items i w))
