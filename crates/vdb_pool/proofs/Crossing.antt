-- The slots of a pool may cross threads as its nodes and its allocator may.
use Rattle.vdb_pool.proofs.Common.{ℕ, List, [], ◌∷◌, Ty, ty_array, ftrue, RattleType, lone, Ptr, block_ptr, null_ptr, room_for, in_block, shape, IsSend, IsSync, Ghosts, storage_owns, storage_lends, block_says}
use mir.Raw.{raw}
use base.Shift.{Keyless}
use denote.Struct.Struct.{exits_of}
use denote.Struct.Owning.{fields, to}
use denote.Param.Send.{Common, AllSend, owning_send, struct_send, struct_sync, sendable}
use Rattle.std_alloc.proofs.SendSync.{FreesAnywhere, lies, quiet, seen}
use Rattle.vdb_pool.specs.contracts.storage.Block as Block
use Rattle.vdb_pool.specs.contracts.storage.Storage as Storage

room : (τ : Ty) (p : Ptr) → Keyless (room_for τ p)
room τ (block_ptr b o) = tt
room τ null_ptr = tt

inside : (p : Ptr) → Keyless (in_block p ftrue)
inside (block_ptr b o) = tt
inside null_ptr = tt

storage_owns-Keyless : (R : RattleType) → IsSend R → (ps : List Ptr) (xs : List R.Denot) → Keyless (storage_owns R ps xs)
storage_owns-Keyless R s [] [] = tt
storage_owns-Keyless R s [] (x ∷ xs) = tt
storage_owns-Keyless R s (p ∷ ps) [] = (room (raw (lone R.mir)) p, storage_owns-Keyless R s ps [])
storage_owns-Keyless R s (p ∷ ps) (x ∷ xs) = (lies R s p x, storage_owns-Keyless R s ps xs)

storage_lends-Common : (R : RattleType) → IsSync R → (ps : List Ptr) (xs : List R.Denot) → Common (storage_lends R ps xs)
storage_lends-Common R y [] [] κ = tt
storage_lends-Common R y [] (x ∷ xs) κ = tt
storage_lends-Common R y (p ∷ ps) [] κ = tt
storage_lends-Common R y (p ∷ ps) (x ∷ xs) κ = (seen R y p x κ, storage_lends-Common R y ps xs κ)

block_says-Keyless : (R : RattleType) (p : Ptr) (n stride : ℕ) → Keyless (block_says R p n stride)
block_says-Keyless R p n stride = (tt, (tt, inside p))

pub Storage-send : (R : RattleType) → IsSend R → IsSend (Storage.the_row R)
Storage-send R s =
    let O = Storage.the_type R in
    let all : AllSend (fields O) = (search sendable, tt) in
    owning_send O all (λ d. storage_owns-Keyless R s d.places d.items) (λ k. quiet (to O) (exits_of k (fields O)) ((struct_send (shape O) all).leaving k))

pub Storage-sync : (R : RattleType) → IsSync R → IsSync (Storage.the_row R)
Storage-sync R y = let O = Storage.the_type R in record {
  shared = λ d b o κ. ((struct_sync (shape O) (search sendable, tt)).shared (to O d) b o κ, storage_lends-Common R y d.places d.items κ);
}

module _ (R A : RattleType) (g : Ghosts A.Denot) where
  pub Block-send : FreesAnywhere A.Denot g → IsSend (Block.the_row R A g)
  Block-send f =
      let O = Block.the_type R A g in
      let all : AllSend (fields O) = (search sendable, tt) in
      owning_send O all (λ d. (block_says-Keyless R d.at d.len d.stride, f.frees d.alloc (raw (ty_array (lone R.mir) d.len)) d.at))
      (λ k. quiet (to O) (exits_of k (fields O)) ((struct_send (shape O) all).leaving k))

  pub Block-sync : IsSync (Block.the_row R A g)
  Block-sync = let O = Block.the_type R A g in record {
    shared = λ d b o κ. ((struct_sync (shape O) (search sendable, tt)).shared (to O d) b o κ, block_says-Keyless R d.at d.len d.stride);
  }
