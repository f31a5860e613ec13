use Rattle.vdb_tree.specs.Layout.{bits_of}
use Rattle.vdb_walk.proofs.SkippedParts.{part_start}
use Rattle.vdb_walk.proofs.part_starts.part_from.Goals as goal

pub returns-in-Some : goal.returns-in-Some
returns-in-Some g c =
    part_start (bits_of g.row.U g.row.L g.row.F) c.args.tree.now c.args.walk.now c.next_part.new.walk c.in-Some.part.bounds c.min.ensures.bounds c.in-Some.ensures.part c.min.result c.min.ensures.corner
