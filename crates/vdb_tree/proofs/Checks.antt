-- Cells of worked examples, checked by computing.
use Rattle.vdb_tree.proofs.Common.{refl, ◌≡◌, ℕ, ℤ, pos, true, false, int_min, coord, Box, Cell, On, Off, Field, new, write, fill, clip, unite, combine, count, is_background}
use Rattle.std.specs.Int.{int_max}
use Rattle.std.specs.Ordering.{int_eq}
use Rattle.vdb_coord.specs.Space.{coordinates}
use Rattle.vdb_value.specs.declared.Kind.TheVariants.{I32}
use Rattle.vdb_value.specs.Values.{sum_in}
use Rattle.vdb_tree.specs.Field.{sum, replace, dilate, erode, iterations}

abbrev box : ℕ → ℕ → Box
box low high = record { min = coord (pos low) (pos low) (pos low); max = coord (pos high) (pos high) (pos high) }

abbrev at : ℕ → ℕ → ℕ → Field ℤ → Cell ℤ
at x y z f = f.cell (coord (pos x) (pos y) (pos z))

-- background 5 and 2: maximum, minimum, replace and sum
abbrev a : Field ℤ
a = write (coord (pos 0) (pos 0) (pos 0)) (On (pos 1)) (new (pos 5))

abbrev b : Field ℤ
b = write (coord (pos 1) (pos 0) (pos 0)) (On (pos 4)) (write (coord (pos 0) (pos 0) (pos 0)) (On (pos 9)) (new (pos 2)))

max_00 : at 0 0 0 (combine int_max a b) ≡ record { value = pos 9; on = true }
max_00 = refl

max_10 : at 1 0 0 (combine int_max a b) ≡ record { value = pos 5; on = true }
max_10 = refl

max_77 : at 7 7 7 (combine int_max a b) ≡ record { value = pos 5; on = false }
max_77 = refl

min_77 : at 7 7 7 (combine int_min a b) ≡ record { value = pos 2; on = false }
min_77 = refl

replaced : at 7 7 7 (replace (combine int_min a b) b) ≡ record { value = pos 2; on = false }
replaced = refl

summed : at 1 0 0 (sum (sum_in I32) (replace (combine int_min a b) b) b) ≡ record { value = pos 8; on = true }
summed = refl

-- a topology operation keeps the values
united : at 1 1 1 (unite (new (pos 9)) (write (coord (pos 1) (pos 1) (pos 1)) (On true) (new false))) ≡ record { value = pos 9; on = true }
united = refl

-- a cell at the corner lacks three neighbours
corner : at 1 1 1 (iterations 2 erode (fill (box 0 3) (record { value = pos 1; on = true }) (new (pos 0)))) ≡ record { value = pos 1; on = false }
corner = refl

-- two iterations from one cell reach 25 cells
reached : count (iterations 2 dilate (write (coord (pos 4) (pos 4) (pos 4)) (On (pos 1)) (new (pos 0)))) (box 2 6) ≡ 25
unfolding coordinates
reached = refl

-- a fill clipped to a corner of 5 by 5 by 5 voxels
clipped : count (clip (box 5 20) (fill (box 0 9) (record { value = pos 4; on = true }) (new (pos 0)))) (box 4 9) ≡ 125
unfolding coordinates
clipped = refl

background_after_unset : is_background int_eq (write (coord (pos 0) (pos 0) (pos 0)) (Off (pos 5)) a) (box 0 3) ≡ true
unfolding coordinates
background_after_unset = refl
