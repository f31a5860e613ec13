use Rattle.vdb_walk.proofs.Common.{both, min_inside, Field, bits_of, field_of, leaf_small, exact_by}
use Rattle.vdb_walk.proofs.PartCells.{constant_part, tile_uniform}
use Rattle.vdb_walk.proofs.uniform_box.leaf_is.Goals as goal

pub constant-requires : goal.constant-requires
constant-requires g c =
    let small = g.met.V.Stored-3.row_small in
    leaf_small _ _ g.row.WF _ c.requires.few_words small.1 small.1 small.0

pub returns-in-Some : goal.returns-in-Some
returns-in-Some g c =
    let exact = exact_by g.V.PartialEq.eq g.V.Ord.cmp g.met.V.Ord.matches_eq g.met.V.Voxel.exact in
    let bits = bits_of g.row.U g.row.L g.row.F in
    let f : Field g.row.V.Denot = field_of bits c.args.tree.now in
    tile_uniform g.V.PartialEq.eq exact g.met.V.Eq.laws.refl f c.args.part c.args.cell c.args.part.min (min_inside c.args.part (both _ _ c.min.ensures.bounds).0) c.in-Some.one
    (constant_part bits f c.args.part c.args.leaf.now c.requires.leaf c.in-Some.one ((c.constant.ensures c.in-Some.one).0 c.in-Some.is)) c.eq.result c.eq.ensures
