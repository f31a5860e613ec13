-- What holds of the fields of a pool. No public clause cites this module.
use Rattle.std.specs.Prelude.{◌≡◌, ℕ, ◌-◌, ◌*◌, ◌^◌, ◌<◌, ◌≤◌, List, length, map, Option, is_some, count_by}
use denote.RawPtr.{Ptr}
use Rattle.vdb_pool.specs.internal.Slot.{node_of}
use Rattle.vdb_pool.specs.internal.Stack.{linked, IsStack, AreListed}
use Rattle.vdb_pool.specs.internal.Chunks.{rows_of, AreWhole}
use Rattle.vdb_pool.specs.declared.chunk.Chunk.{Chunk}
use Rattle.vdb_pool.specs.declared.slot.Slot.{Slot}

module _ {T : Type 0} (len most : ℕ) where
  -- the chunks, each of this many slots and at most this many of them, hold the places, the counts are true, and the stack has every vacant slot
  pub record IsSound (cs : List (Chunk T)) (places : List Ptr) (slots : List (Slot T)) (used total held : ℕ) (top : Option ℕ) : Type 0 where
    pub all : len * most ≡ 4294967295
    pub used_is : used ≡ length slots
    pub total_is : total ≡ length places
    pub total_fits : total < 2 ^ 32
    pub within : used ≤ total
    pub rows : places ≡ rows_of len cs
    pub whole : AreWhole len cs
    pub held_is : held ≡ count_by is_some (map node_of slots)
    pub held_within : held ≤ used
    pub stack : IsStack (used - held) top slots
    pub listed : AreListed slots (linked (used - held) top slots)
