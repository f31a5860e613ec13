use Rattle.vdb_node.proofs.Common.{◌*◌, ◌%◌, is_on, Projects}
use Rattle.vdb_node.proofs.bounds.union_of_words.Given as goal

abbrev pub invariant-loop-k : goal.invariant-loop-k
invariant-loop-k g l = Projects (is_on l.states) (64 * l.k) (λ i. i % 64) l.union
