use Rattle.vdb_tree.specs.Layout.{bits_of}
use Rattle.vdb_tree.specs.Parts.{IsWalk, left_count}
use Rattle.library_examples.proofs.print_parts.Given as goal

-- the walk is a walk over this tree
abbrev pub invariant-parts : goal.invariant-parts
invariant-parts g l = IsWalk (bits_of 5 4 3) l.tree l.walk

-- fewer coordinates are left after each part
abbrev pub decreases-parts : goal.decreases-parts
decreases-parts g l = left_count (bits_of 5 4 3) l.walk.at
