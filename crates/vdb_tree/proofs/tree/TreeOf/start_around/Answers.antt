use Rattle.vdb_tree.proofs.Common.{Leaf, both, min_inside, bits_of}
use Rattle.vdb_tree.proofs.PartStarts.{before_start, start_of_part}
use Rattle.vdb_tree.proofs.tree.TreeOf.start_around.Goals as goal

pub returns-in-Tile-clause-start : goal.returns-in-Tile-clause-start
returns-in-Tile-clause-start g c =
    let end = rw c.in-Tile.is at c.requires.end in
    rw c.min.ensures.corner
    (start_of_part (bits_of g.row.U g.row.L g.row.F) c.args.self.now c.args.bounds c.part.result c.in-Tile.level c.args.p end.0 c.part.ensures.within c.part.ensures.all (min_inside c.part.result (both _ _ c.min.ensures.bounds).0))

pub returns-in-Tile-clause-earlier : goal.returns-in-Tile-clause-earlier
returns-in-Tile-clause-earlier g c = λ q b.
    let end = rw c.in-Tile.is at c.requires.end in
    before_start (bits_of g.row.U g.row.L g.row.F) c.args.self.now c.args.bounds c.part.result c.in-Tile.level c.args.p end.0 c.part.ensures.within c.part.ensures.all (min_inside c.part.result (both _ _ c.min.ensures.bounds).0) c.requires.inside q (rw c.min.ensures.corner at b)

pub returns-in-Leaf-clause-start : goal.returns-in-Leaf-clause-start
returns-in-Leaf-clause-start g c =
    let end = rw c.in-Leaf.is at c.requires.end in
    rw c.min-in-Leaf.ensures.corner
    (start_of_part (bits_of g.row.U g.row.L g.row.F) c.args.self.now c.args.bounds c.part-in-Leaf.result Leaf c.args.p end.0 c.part-in-Leaf.ensures.within c.part-in-Leaf.ensures.all (min_inside c.part-in-Leaf.result (both _ _ c.min-in-Leaf.ensures.bounds).0))

pub returns-in-Leaf-clause-earlier : goal.returns-in-Leaf-clause-earlier
returns-in-Leaf-clause-earlier g c = λ q b.
    let end = rw c.in-Leaf.is at c.requires.end in
    before_start (bits_of g.row.U g.row.L g.row.F) c.args.self.now c.args.bounds c.part-in-Leaf.result Leaf c.args.p end.0 c.part-in-Leaf.ensures.within c.part-in-Leaf.ensures.all (min_inside c.part-in-Leaf.result (both _ _ c.min-in-Leaf.ensures.bounds).0) c.requires.inside q (rw c.min-in-Leaf.ensures.corner at b)
