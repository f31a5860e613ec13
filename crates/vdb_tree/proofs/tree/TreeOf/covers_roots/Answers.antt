use Rattle.vdb_tree.proofs.Covered.{covered_between}
use Rattle.vdb_tree.specs.Layout.{bits_of}
use Rattle.vdb_coord.specs.declared.Level.TheVariants.{Upper}
use Rattle.vdb_tree.proofs.tree.TreeOf.covers_roots.Goals as goal

pub returns-then-is_covered : goal.returns-then-is_covered
returns-then-is_covered g c = λ h p inside.
    covered_between (bits_of g.row.U g.row.L g.row.F) c.args.bounds Upper p (rw c.min.ensures.corner at c.is_covered.ensures.0 c.if-is_covered.true) (rw c.max.ensures.corner at c.is_covered-then-is_covered.ensures.0 h) inside
