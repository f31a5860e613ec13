-- Texts as C has them.
use Rattle.std.specs.Prelude.{ℕ, Bool, false, not, ◌&&◌, ◌==◌, List, [], ◌∷◌}

-- whether the last byte is 0, and no other one
abbrev pub is_ended : List ℕ → Bool
is_ended [] = false
is_ended (x ∷ []) = x == 0
is_ended (x ∷ y ∷ bytes) = not (x == 0) && is_ended (y ∷ bytes)
