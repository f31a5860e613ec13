use Rattle.vdb_walk.proofs.Common.{sym, ◌∙◌, within_each}
use Rattle.vdb_walk.proofs.bounding_box.lies_within.Goals as goal

pub returns-in-Some : goal.returns-in-Some
returns-in-Some c = λ within p inside. rw c.in-Some.is (within_each c.args.part c.in-Some.bounds p (sym c.covers.ensures ∙ within) inside)
