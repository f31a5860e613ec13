-- The state of a script that is read piece by piece.
use Rattle.std.specs.Prelude.{◌≡◌, ◌≢◌, ℕ, ◌+◌, ◌<◌, ◌≤◌, Bool, true, false, if◌then◌else◌, List, [], ◌∷◌, ◌++◌, length, Option, Some, None, Result, Ok, Err, All}
use Rattle.std.specs.Io.KnownBytes.{Consumes, IsAtEnd, prepend_known}
use Rattle.vdb_script.specs.declared.source.ScriptFault.{ScriptFault}
use Rattle.vdb_script.specs.declared.source.ScriptFault.TheVariants.{Read, TooLong}
use Rattle.vdb_script.specs.declared.lines.Line.{Line}
use Rattle.vdb_script.specs.declared.lines.Line.TheVariants as found

-- The state between a reader and the lines.
pub record Stock : Type 0 where
  -- the bytes that the reader gave and that haven't been yielded
  pub unread : List ℕ
  -- the number of bytes that it may still give
  pub left : ℕ
  -- whether it has reported its end
  pub ended : Bool

-- The state of reading a script's lines.
pub record Position : Type 0 where
  -- the state between the reader and the lines
  pub source : Stock
  -- the last line that was read: empty if it was too long or no line
  pub text : List ℕ
  -- the result of each call from now on, if it is settled
  pub ending : Option (Result Line ScriptFault)

-- the number of bytes that may still be yielded
abbrev pub budget : Stock → ℕ
budget s = length s.unread + s.left

-- the bytes that haven't been yielded, if those that the reader has left are known
abbrev pub ahead : Stock → Option (List ℕ) → Option (List ℕ)
ahead s known = prepend_known s.unread known

-- a reader that has reported its end has no byte left, if its bytes are known
abbrev pub EndsWith : Stock → Option (List ℕ) → Type 0
EndsWith s known = s.ended ≡ true → IsAtEnd known

-- no byte is a newline
abbrev pub NoNewline : List ℕ → Type 0
NoNewline bytes = All (λ b. b ≢ 10) bytes

-- the bytes after a line: a newline, or nothing if the script ends with it
abbrev pub line_end : Bool → List ℕ
line_end false = 10 ∷ []
line_end true = []

-- These bytes of a line came, and then its newline or, without one, the script's end.
pub record YieldsUpTo (old new : Option (List ℕ)) (before after : Stock) (at_end : Bool) (line : List ℕ) : Type 0 where
  pub bytes : Consumes old new (line ++ line_end at_end)
  pub budget : length (line ++ line_end at_end) + budget after ≡ budget before
  pub inside : NoNewline line
  pub last : at_end ≡ true → (after.ended ≡ true) × IsAtEnd new

-- a line that fits is kept as the text, and any other has more than 256 bytes
abbrev pub KeepsText : Bool → List ℕ → List ℕ → Type 0
KeepsText true text line = (text ≡ line) × (length line ≤ 256)
KeepsText false text line = 256 < length line

-- This line was yielded, with its newline or, if it is the last and not empty, at the script's end.
pub record YieldsLine (old new : Option (List ℕ)) (before after : Stock) (line : List ℕ) : Type 0 where
  pub at_end : Bool
  pub bytes : Consumes old new (line ++ line_end at_end)
  pub budget : length (line ++ line_end at_end) + budget after ≡ budget before
  pub inside : NoNewline line
  pub last : at_end ≡ true → (0 < length line) × (after.ended ≡ true) × IsAtEnd new

-- No byte is left, and the reader has reported its end.
pub record YieldsEnd (old new : Option (List ℕ)) (after : Stock) : Type 0 where
  pub bytes : Consumes old new []
  pub at_end : IsAtEnd new
  pub ended : after.ended ≡ true

-- The reader gave one byte past the script's limit, within a line that began with these bytes.
pub record YieldsTooMuch (old new : Option (List ℕ)) (before : Stock) : Type 0 where
  pub part : List ℕ
  pub further : ℕ
  pub bytes : Consumes old new (part ++ further ∷ [])
  pub budget : length part ≡ budget before
  pub inside : NoNewline part

-- The reader failed within a line that began with these bytes.
pub record YieldsPart (old new : Option (List ℕ)) (before : Stock) : Type 0 where
  pub part : List ℕ
  pub bytes : Consumes old new part
  pub budget : length part ≤ budget before
  pub inside : NoNewline part

-- whether a call failed because the reader failed
abbrev pub is_read_fault : {A : Type 0} → Result A ScriptFault → Bool
is_read_fault (Ok a) = false
is_read_fault (Err Read) = true
is_read_fault (Err TooLong) = false

-- the result of each later call: the end or a fault
abbrev pub ending_of : Result Line ScriptFault → Option (Result Line ScriptFault)
ending_of (Ok found.Text) = None
ending_of (Ok found.TooLong) = None
ending_of (Ok found.End) = Some (Ok found.End)
ending_of (Err fault) = Some (Err fault)

-- 1 if the reader has reported its end, otherwise 0
abbrev pub end_count : Stock → ℕ
end_count s = if s.ended then 1 else 0

-- how many bytes past the script's limit the reader gave: 1 if the script is too long, otherwise 0
abbrev pub excess : {A : Type 0} → Result A ScriptFault → ℕ
excess (Ok a) = 0
excess (Err Read) = 0
excess (Err TooLong) = 1
