use Rattle.vdb_walk.specs.internal.Halves.{reach}
use Rattle.vdb_walk.proofs.order.+first_beyond.Given as goal

abbrev pub decreases-first_beyond : goal.decreases-first_beyond
decreases-first_beyond l = reach l.part
