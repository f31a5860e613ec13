-- The next coordinate comes past p, so fewer coordinates come past it.
use Rattle.vdb_coord.specs.declared.Level.TheVariants.{Leaf, Lower, Upper}
use Rattle.vdb_coord.proofs.NextCoord.{nearer_coord}
use Rattle.vdb_coord.proofs.bounds.Bounds.next_coord_in.Goals as goal

pub returns-in-Leaf-clause-nearer : goal.returns-in-Leaf-clause-nearer
returns-in-Leaf-clause-nearer c = nearer_coord c.args.bits Leaf c.args.self c.args.p c.requires.inside c.coord_past_leaf.result c.coord_past_leaf.ensures.within c.coord_past_leaf.ensures.next

pub returns-in-Lower-clause-nearer : goal.returns-in-Lower-clause-nearer
returns-in-Lower-clause-nearer c = nearer_coord c.args.bits Lower c.args.self c.args.p c.requires.inside c.coord_past_lower.result c.coord_past_lower.ensures.within c.coord_past_lower.ensures.next

pub returns-in-Upper-clause-nearer : goal.returns-in-Upper-clause-nearer
returns-in-Upper-clause-nearer c = nearer_coord c.args.bits Upper c.args.self c.args.p c.requires.inside c.coord_past_upper.result c.coord_past_upper.ensures.within c.coord_past_upper.ensures.next
