use Rattle.vdb_c.proofs.Common.{◌≡◌, vdb, field_of}
use Rattle.vdb_tree.specs.Pairs.{IsPairWalk}
use Rattle.vdb_tree.specs.Parts.{left_count}
use Rattle.vdb_composite.proofs.MixWalks.{IsPassed}
use Rattle.vdb_c.proofs.grids.equality.are_equal_trees.Given as goal

abbrev pub invariant-pairs : goal.invariant-pairs
invariant-pairs g l =
    record {
      walk : IsPairWalk vdb l.tree l.other l.walk;
      passed : IsPassed vdb l.tree l.other (λ q. (field_of vdb l.tree).cell q ≡ (field_of vdb l.other).cell q) l.walk.at;
    }

abbrev pub decreases-pairs : goal.decreases-pairs
decreases-pairs g l = left_count vdb l.walk.at
