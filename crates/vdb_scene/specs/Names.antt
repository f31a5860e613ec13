-- The names of grids.
use Rattle.std.specs.Prelude.{ℕ, ◌-◌, Bool, false, ◌&&◌, ◌||◌, ◌==◌, nat_lt, List, [], ◌∷◌, ◌++◌, length, replicate}
use Rattle.std.specs.List.{list_all}
use Rattle.std.specs.Char.{is_ascii_digit, is_ascii_lowercase}

-- a small letter
abbrev pub is_lower : ℕ → Bool
is_lower b = is_ascii_lowercase b

-- a small letter, a digit or an underscore
abbrev pub is_name_byte : ℕ → Bool
is_name_byte b = is_lower b || is_ascii_digit b || b == 95

-- a small letter, then up to fifteen small letters, digits and underscores
abbrev pub is_name : List ℕ → Bool
is_name [] = false
is_name (b ∷ bytes) = is_lower b && list_all is_name_byte bytes && nat_lt (length bytes) 16

-- the bytes of a name, with zeros up to sixteen
abbrev pub padded : List ℕ → List ℕ
padded name = name ++ replicate (16 - length name) 0
