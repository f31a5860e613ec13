use Rattle.vdb_tree.specs.Layout.{bits_of}
use Rattle.vdb_walk.proofs.PartSeeks.{listing_all, listing_from}
use Rattle.vdb_walk.proofs.first_active.begun.Goals as goal

pub returns-in-Some-clause-listing : goal.returns-in-Some-clause-listing
returns-in-Some-clause-listing g c =
    rw c.in-Some.is
    (listing_from (bits_of g.row.U g.row.L g.row.F) c.args.tree.now c.parts_from.result c.args.bounds c.parts_from.ensures.walk c.parts_from.ensures.skip c.parts_from.ensures.bounds c.in-Some.after c.parts_from.ensures.earlier)

pub returns-in-None-clause-listing : goal.returns-in-None-clause-listing
returns-in-None-clause-listing g c =
    rw c.in-None.is
    (listing_all (bits_of g.row.U g.row.L g.row.F) c.args.tree.now c.parts.result c.args.bounds c.parts.ensures.walk c.parts.ensures.skip c.parts.ensures.bounds c.parts.ensures.at)
