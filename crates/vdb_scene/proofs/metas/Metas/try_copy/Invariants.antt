use Rattle.std.proofs.Common.{◌≡◌, ◌++◌}
use Rattle.vdb_scene.proofs.metas.Metas.try_copy.Given as goal

-- the pairs so far, then those that are left, are the pairs of the original
abbrev pub invariant-loop-key : goal.invariant-loop-key
invariant-loop-key l = l.pairs.entries ++ l.key-iterator ≡ l.self
