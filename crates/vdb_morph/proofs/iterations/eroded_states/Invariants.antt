use Rattle.vdb_morph.proofs.Common.{◌≡◌, vdb, erode, iterations, field_of, topology}
use Rattle.vdb_morph.proofs.iterations.eroded_states.Given as goal

-- the iterations made so far
abbrev pub invariant-loop : goal.invariant-loop
invariant-loop g l =
    field_of vdb l.states ≡ topology (iterations l.counter erode (field_of vdb l.tree))
