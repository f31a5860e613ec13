-- The state of a file that is read field by field.
use Rattle.std.specs.Prelude.{◌≡◌, ℕ, ◌+◌, ◌-◌, ◌≤◌, ◌^◌, min, Bool, ◌||◌, true, List, ◌++◌, drop, length, Option, None, Some, if◌then◌else◌, nat_le, Result, Ok, Err, IfSome}
use Rattle.std.specs.Io.KnownBytes.{Consumes, IsAtEnd, prepend_known}
use Rattle.vdb_file.specs.Faults.{Claims, is_read_fault}
use Rattle.vdb_file.specs.declared.fault.LoadFault.{LoadFault}
use Rattle.vdb_file.specs.declared.fault.LoadFault.TheVariants.{Truncated}

-- The buffer between a reader and the fields: the bytes that the reader gave and that no field has read, how many bytes the remaining
-- fields may have, and whether the reader has ended.
pub record Stock : Type 0 where
  pub unread : List ℕ
  pub capacity : ℕ
  pub ended : Bool

-- The position in a file: the bytes ahead, if they are known, and how many of them may follow.
pub record Position : Type 0 where
  pub known : Option (List ℕ)
  pub capacity : ℕ

-- the position before the unread bytes and those that the reader still has
abbrev pub position : Stock → Option (List ℕ) → Position
position s known = record { known = prepend_known s.unread known; capacity = s.capacity }

-- A reader: the bytes that it still has, if they are known; whether one of its reads has failed; how many bytes the reads gave; and how
-- many of them gave none without a failure.
pub record Reader : Type 0 where
  pub remaining : Option (List ℕ)
  pub failed : Bool
  pub given : ℕ
  pub empty : ℕ

-- the buffer after n of its unread bytes were read
abbrev pub passed : ℕ → Stock → Stock
passed n s = record { unread = drop n s.unread; capacity = s.capacity - n; ended = s.ended }

-- the position before the unread bytes and those of a reader
abbrev pub ahead : Stock → Reader → Position
ahead s r = position s r.remaining

-- if a reader has ended, and its bytes are known, none is left
abbrev pub EndsWith : Stock → Reader → Type 0
EndsWith s r = s.ended ≡ true → IsAtEnd r.remaining

-- how many bytes the reader gave: those that fields have read, and those that are unread
abbrev pub given_count : Stock → ℕ
given_count s = 268435456 - s.capacity + length s.unread

-- how many bytes the reader had at first, if that is known: those that it gave, at most one more than a file may have, and those that it
-- still has
abbrev pub byte_total : Stock → Option (List ℕ) → Option ℕ
byte_total s None = None
byte_total s (Some bytes) = if nat_le (given_count s) 268435457 then Some (given_count s + length bytes) else None

-- Since n bytes and m empty reads: the reader gave no more bytes than those that fields have read and those that are unread, at
-- most one more than a file may have, and it reported its end once if it has ended.
unfoldable pub GaveWithin : ℕ → ℕ → Stock → ℕ → ℕ → Type 0
GaveWithin n m s given empty = (given ≤ n + given_count s) × (given_count s ≤ 268435457) × (empty ≡ (if s.ended then min (m + 1) (2 ^ 64 - 1) else m))

-- a buffer and its reader before and after a call, whatever it reads
pub record Moves {X : Type 0} (s : Stock) (r : Reader) (t : Stock) (u : Reader) (result : Result X LoadFault) : Type 0 where
  pub ends : EndsWith t u
  pub total : (n : ℕ) → byte_total s r.remaining ≡ Some n → byte_total t u.remaining ≡ Some n
  pub given : (n m : ℕ) → GaveWithin n m s r.given r.empty → GaveWithin n m t u.given u.empty
  pub ended : result ≡ Err Truncated → IsAtEnd (ahead t u).known
  pub failed : u.failed ≡ (r.failed || is_read_fault result)

-- these bytes were read
pub record Took (old new : Position) (text : List ℕ) : Type 0 where
  pub bytes : Consumes old.known new.known text
  pub fewer : length text + new.capacity ≡ old.capacity

-- no item that has P, and that fits the capacity, has its code at the front of the bytes
abbrev pub NoFront : {A : Type 0} → (A → Type 0) → (A → List ℕ) → List ℕ → ℕ → Type 0
NoFront P code bytes capacity = (a : _) (rest : List ℕ) → P a → length (code a) ≤ capacity → bytes ≡ code a ++ rest → ⊥

-- if the fault makes a claim about the bytes, no item that has P is ahead
pub record Fails {A : Type 0} (P : A → Type 0) (code : A → List ℕ) (fault : LoadFault) (old : Position) : Type 0 where
  pub none : Claims fault → IfSome old.known (λ bytes. NoFront P code bytes old.capacity)

-- the answer of reading an item that has P: the item, and its code was read; or a fault, and no such item is ahead
abbrev pub Reads : {X A : Type 0} → (X → A) → (A → Type 0) → (A → List ℕ) → Result X LoadFault → Position → Position → Type 0
Reads view P code (Ok x) old new = P (view x) × Took old new (code (view x))
Reads view P code (Err fault) old new = Fails P code fault old
