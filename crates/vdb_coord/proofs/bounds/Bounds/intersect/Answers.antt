-- The greater of the least corners and the lesser of the greatest ones bound what both boxes hold.
use Rattle.vdb_coord.proofs.Boxes.{overlap_both, overlap_none}
use Rattle.vdb_coord.proofs.bounds.Bounds.intersect.Goals as goal

pub returns-clause-both : goal.returns-clause-both
returns-clause-both c = rw (c.new.ensures, c.greater-min.ensures, c.lesser-max.ensures, ← c.self.view_is, ← c.other.view_is) (overlap_both (record { min = c.self.inside.min; max = c.self.inside.max }) (record { min = c.other.inside.min; max = c.other.inside.max }))

pub returns-clause-none : goal.returns-clause-none
returns-clause-none c = rw (c.new.ensures, c.greater-min.ensures, c.lesser-max.ensures, ← c.self.view_is, ← c.other.view_is) (overlap_none (record { min = c.self.inside.min; max = c.self.inside.max }) (record { min = c.other.inside.min; max = c.other.inside.max }))
