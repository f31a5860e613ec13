-- A `&` to a storage comes from a `&` to each of its items. Assumes `Logic`.
use Rattle.vdb_pool.proofs.Common.{List, [], ◌∷◌, full_share, Ura, Lft, ftrue, Logic, RattleType, Laws, Ptr, lies_at, said, said_shr_laws, lent_at, storage_owns, storage_lends}
use base.Fml.{Incl, ffalse}
use denote.RattleType.{RowLaws}
use denote.Sharing.{ShrLaws}
use denote.SharingLaws.{beside_shr_laws, nothing_shr_laws}
use denote.Shares.{Shares-less}
use denote.Struct.Lending.{Lends, Lends-both, Lends-nothing, Lends-false, Lends-lies, lent_at_shr_laws}

-- what such a `&` holds can be copied and shortened
pub storage_shr_laws : (R : RattleType) → RowLaws R → (ps : List Ptr) (xs : List R.Denot) → ShrLaws (storage_lends R ps xs)
storage_shr_laws R L [] [] = nothing_shr_laws
storage_shr_laws R L [] (x ∷ xs) = said_shr_laws ffalse tt
storage_shr_laws R L (p ∷ ps) [] = nothing_shr_laws
storage_shr_laws R L (p ∷ ps) (x ∷ xs) = beside_shr_laws (lent_at R p x) (storage_lends R ps xs) (lent_at_shr_laws R L p x) (storage_shr_laws R L ps xs)

-- a `&` to a storage comes from a borrow of what the storage owns
module _ {M : Type 1} {𝓤 : Ura M} (𝓛 : Logic 𝓤) (R : RattleType) (L : Laws R) (l : Lft) (inc : Incl l R.lives) where
  pub storage_borrowed : (ps : List Ptr) (xs : List R.Denot) → Lends 𝓛 (storage_owns R ps xs) (storage_lends R ps xs) l
  storage_borrowed [] [] = Lends-nothing 𝓛 ftrue l
  storage_borrowed [] (x ∷ xs) = Lends-false 𝓛 (said ffalse) l
  storage_borrowed (p ∷ ps) [] = Lends-nothing 𝓛 (storage_owns R (p ∷ ps) []) l
  storage_borrowed (p ∷ ps) (x ∷ xs) =
      let first = Lends-lies 𝓛 R l p x (Shares-less 𝓛 R R.lives l inc (L.shares 𝓛) x) in
      Lends-both 𝓛 (lies_at R full_share p x) (storage_owns R ps xs) (lent_at R p x) (storage_lends R ps xs) l first (storage_borrowed ps xs)
