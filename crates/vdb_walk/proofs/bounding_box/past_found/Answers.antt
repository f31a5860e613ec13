use Rattle.vdb_walk.proofs.bounding_box.past_found.Goals as goal

pub returns-in-Some-clause-covered : goal.returns-in-Some-clause-covered
returns-in-Some-clause-covered c = rw c.in-Some.is c.past_start.ensures.covered
