use Rattle.std.proofs.Common.{refl}
use Rattle.vdb_c.proofs.voxels.near_writes.write_in_leaf_if.Goals as goal

pub returns-in-Some-accessor-clause-written : goal.returns-in-Some-accessor-clause-written
returns-in-Some-accessor-clause-written g c = rw c.in-Some.is (λ t. (c.write_in_leaf.ensures.outcome t, λ _. refl))

pub returns-in-None-clause-written : goal.returns-in-None-clause-written
returns-in-None-clause-written g c = rw c.in-Some.is (λ t. (c.write_nearby.ensures.outcome t, λ _. refl))
