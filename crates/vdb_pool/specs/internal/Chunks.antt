-- How the slots lie in the chunks. No public clause cites this module.
use Rattle.std.specs.Prelude.{◌≡◌, ℕ, List, [], ◌∷◌, ◌++◌, if◌then◌else◌, nat_le}
use denote.RawPtr.{Ptr}
use Rattle.vdb_pool.specs.internal.Rows.{row_from}
use Rattle.vdb_pool.specs.declared.chunk.Chunk.{Chunk}

-- how many slots of this many bytes a chunk has: as many as fit 24 KiB, of the divisors of 4,294,967,295 from 1 to 255
abbrev pub slots_of : ℕ → ℕ
slots_of bytes =
    if nat_le bytes 96 then 255 else if nat_le bytes 289 then 85 else if nat_le bytes 481 then 51
    else if nat_le bytes 1445 then 17 else if nat_le bytes 1638 then 15 else if nat_le bytes 4915 then 5
    else if nat_le bytes 8192 then 3 else 1

module _ {T : Type 0} (len : ℕ) where
  -- the addresses of the slots of the chunks, each of this many slots
  abbrev pub rows_of : List (Chunk T) → List Ptr
  rows_of [] = []
  rows_of (c ∷ cs) = row_from c.block.stride c.base.pointer len ++ rows_of cs

  -- each chunk is its whole block
  abbrev pub AreWhole : List (Chunk T) → Type 0
  AreWhole [] = Unit {0}
  AreWhole (c ∷ cs) = ((c.block.at ≡ c.base.pointer) × (c.block.len ≡ len)) × AreWhole cs
