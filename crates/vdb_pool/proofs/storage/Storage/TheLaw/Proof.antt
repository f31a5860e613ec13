-- A `&` to a storage reaches each item. Assumes `Logic`.
use Rattle.vdb_pool.proofs.Common.{Incl-trans, RattleType, RawPtr, Laws, copy_shared, field_copy, of_Lends}
use mathlib.Core.List.{[], ◌++◌}
use contract.BorrowLft.{meet_⊑_left}
use Rattle.core.specs.contracts.marker.PhantomData as marker
use Rattle.vdb_pool.specs.contracts.storage.Storage as storage
use Rattle.vdb_pool.proofs.storage.Storage.TheLaw.Statement.{statement}
use Rattle.vdb_pool.proofs.Sharing.{storage_shr_laws, storage_borrowed}

pub shares : (R : RattleType) (L : Laws R) → statement R L
shares R L =
    let codes = storage.the_codes R.Denot R.coded (marker.the_row RawPtr).coded in
    let ends = Incl-trans (meet_⊑_left (R.lives ++ []) _) (meet_⊑_left R.lives []) in
    of_Lends (storage.struct R) codes (storage.the_heap R) (storage.the_lent R)
    (λ s p. storage_shr_laws R L.shr_laws s.places s.items)
    (copy_shared (marker.the_field RawPtr) (field_copy (marker.the_type RawPtr) tt), tt)
    (λ M 𝓤 𝓛 s p. storage_borrowed 𝓛 R L (storage.the_row R).lives ends s.places s.items)
