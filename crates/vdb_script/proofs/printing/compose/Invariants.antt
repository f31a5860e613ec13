use Rattle.vdb_script.proofs.Common.{◌≡◌, map, take, join_with_byte}
use Rattle.vdb_script.proofs.printing.compose.Given as goal

-- the parts so far
abbrev pub invariant-loop-i : goal.invariant-loop-i
invariant-loop-i l = l.composed.items ≡ join_with_byte 32 (take l.i (map (λ part. part.now) l.parts))
