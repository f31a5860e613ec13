-- The lines of a script, and the tokens of a line.
use Rattle.std.specs.Prelude.{ℕ, Bool, false, not, ◌||◌, ◌==◌, if◌then◌else◌, List, [], ◌∷◌, length, take, nat_le, ◌^◌}

-- the first byte at the start of the first piece, which may be new
abbrev pub onto_first : ℕ → List (List ℕ) → List (List ℕ)
onto_first b [] = (b ∷ []) ∷ []
onto_first b (piece ∷ pieces) = (b ∷ piece) ∷ pieces

-- the bytes before each newline, and those after the last one, if any
abbrev pub lines : List ℕ → List (List ℕ)
lines [] = []
lines (b ∷ bytes) = if b == 10 then [] ∷ lines bytes else onto_first b (lines bytes)

-- the first byte at the start of the first piece, if a piece exists
abbrev pub into_first : ℕ → List (List ℕ) → List (List ℕ)
into_first b [] = []
into_first b (piece ∷ pieces) = (b ∷ piece) ∷ pieces

-- the bytes before each newline
abbrev pub whole_lines : List ℕ → List (List ℕ)
whole_lines [] = []
whole_lines (b ∷ bytes) = if b == 10 then [] ∷ whole_lines bytes else into_first b (whole_lines bytes)

-- the lines of a script; of one that is too long, the whole lines in its first 16,777,216 bytes
abbrev pub script_lines : List ℕ → List (List ℕ)
script_lines script = if nat_le (length script) (2 ^ 24) then lines script else whole_lines (take (2 ^ 24) script)

-- space, tab, carriage return
abbrev pub is_separator : ℕ → Bool
is_separator b = b == 32 || b == 9 || b == 13

-- whether the bytes begin with a byte other than a separator
abbrev pub begins_token : List ℕ → Bool
begins_token [] = false
begins_token (b ∷ bytes) = not (is_separator b)

-- the tokens of a line: its longest runs of bytes other than separators
abbrev pub tokens : List ℕ → List (List ℕ)
tokens [] = []
tokens (b ∷ bytes) =
    if is_separator b then tokens bytes
    else if begins_token bytes then onto_first b (tokens bytes)
    else (b ∷ []) ∷ tokens bytes
