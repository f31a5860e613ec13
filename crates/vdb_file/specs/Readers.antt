-- How much a reader is asked for, and what it gave.
use Rattle.std.specs.Prelude.{◌≡◌, ℕ, ◌+◌, ◌-◌, ◌^◌, ◌≤◌, min, List, length, Option, None, Some, ⊤}
use Rattle.vdb_scene.specs.Watched.{bytes_given, empty_reads}
use Rattle.vdb_scene.specs.declared.watched.Watched.{Watched}

-- a reader gave at most n bytes, if the bytes that it has are known
abbrev pub GaveAtMost : ℕ → Option (List ℕ) → Option (List ℕ) → Type 0
GaveAtMost n None after = ⊤
GaveAtMost n (Some before) None = ⊥
GaveAtMost n (Some before) (Some after) = length before ≤ n + length after

-- a reader gave at most n bytes, and then reported its end
abbrev pub EndedWithin : {D : Type 0} → ℕ → Watched D → Watched D → Type 0
EndedWithin n before after = (bytes_given after ≤ bytes_given before + n) × (empty_reads after ≡ min (empty_reads before + 1) (2 ^ 64 - 1))
