-- The bits beside others in a leaf of 8 voxels along each axis, whose bits are numbered with x first and z last.
use Rattle.std.specs.Prelude.{ℕ, ◌+◌, ◌-◌, ◌*◌, ◌/◌, ◌%◌, ◌==◌, Bool, if◌then◌else◌}

-- the bit before bit i along the axis on which neighbours are `step` apart: before the first comes the other block's last
abbrev pub bit_before : ℕ → (own other : ℕ → Bool) → ℕ → Bool
bit_before step own other i = if i / step % 8 == 0 then other (i + 7 * step) else own (i - step)

-- the bit after bit i along that axis: after the last comes the other block's first
abbrev pub bit_after : ℕ → (own other : ℕ → Bool) → ℕ → Bool
bit_after step own other i = if i / step % 8 == 7 then other (i - 7 * step) else own (i + step)
