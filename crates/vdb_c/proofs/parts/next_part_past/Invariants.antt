use Rattle.vdb_c.proofs.Common.{vdb}
use Rattle.vdb_tree.specs.Parts.{IsWalk, left_count}
use Rattle.vdb_c.proofs.PartsPast.{IsIdle}
use Rattle.vdb_c.proofs.parts.next_part_past.Given as goal

abbrev pub invariant-parts : goal.invariant-parts
invariant-parts g l = record {
  walk : IsWalk vdb l.tree l.walk;
  idle : IsIdle l.tree l.after l.fn.walk.at l.walk;
}

abbrev pub decreases-parts : goal.decreases-parts
decreases-parts g l = left_count vdb l.walk.at
