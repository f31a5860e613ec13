-- The bytes that a call leaves after it writes a text.
use Rattle.std.specs.Prelude.{◌≡◌, ℕ, List, ◌++◌, Option, Result, Ok, Err}
use Rattle.std.specs.Io.KnownBytes.{Appends}

-- a prefix of the bytes is written, and then the writer failed
abbrev pub HasCut : Option (List ℕ) → Option (List ℕ) → List ℕ → Type 0
HasCut old new bytes = (prefix rest : List ℕ) × (bytes ≡ prefix ++ rest) × Appends old new prefix

-- all of the text, or at a fault a prefix of it
abbrev pub Writes : {A E : Type 0} → Option (List ℕ) → Option (List ℕ) → Result A E → List ℕ → Type 0
Writes old new (Ok a) text = Appends old new text
Writes old new (Err e) text = HasCut old new text

-- these bytes are a part after the collected ones: a prefix of them is written, and the others are collected
abbrev pub HasAdded : Option (List ℕ) → Option (List ℕ) → List ℕ → List ℕ → List ℕ → Type 0
HasAdded old new before part after = (prefix : List ℕ) × (before ++ part ≡ prefix ++ after) × Appends old new prefix

-- a part is appended to the collected bytes that aren't written yet, or at a fault a prefix of both is written
abbrev pub Adds : {A E : Type 0} → Option (List ℕ) → Option (List ℕ) → Result A E → List ℕ → List ℕ → List ℕ → Type 0
Adds old new (Ok a) before part after = HasAdded old new before part after
Adds old new (Err e) before part after = HasCut old new (before ++ part)
