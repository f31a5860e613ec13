use Rattle.vdb_c.proofs.Common.{Field, field_of, vdb}
use Rattle.vdb_composite.proofs.MixLeaves.{bounds_corner}
use Rattle.vdb_tree.proofs.Uniform.{exact_by}
use Rattle.vdb_c.proofs.EqualCells.{leaf_same, leaves_same, tiles_same, turned}
use Rattle.vdb_c.proofs.grids.equality.are_equal_in.Goals as goal

pub returns-in-Leaf-second : goal.returns-in-Leaf-second
returns-in-Leaf-second g c =
    let f : Field g.row.V.Denot = field_of vdb c.args.tree.now in
    let h : Field g.row.V.Denot = field_of vdb c.args.other.now in
    let first = rw c.in-Leaf.is at c.requires.first_leaf in
    let second = rw c.in-Leaf-second.is at c.requires.second_leaf in
    leaves_same f h c.args.bounds c.in-Leaf.a.now first c.in-Leaf-second.b.now second.0 c.are_equal_leaves.result c.are_equal_leaves.ensures

pub returns-in-Tile-second : goal.returns-in-Tile-second
returns-in-Tile-second g c =
    let f : Field g.row.V.Denot = field_of vdb c.args.tree.now in
    let h : Field g.row.V.Denot = field_of vdb c.args.other.now in
    let first = rw c.in-Leaf.is at c.requires.first_leaf in
    let second = rw c.in-Tile-second.is at c.requires.second_tile in
    leaf_same f h c.args.bounds c.in-Leaf.a.now first c.in-Tile-second.b second c.is_constant.result c.is_constant.ensures

pub returns-in-Leaf-second-2 : goal.returns-in-Leaf-second-2
returns-in-Leaf-second-2 g c =
    let f : Field g.row.V.Denot = field_of vdb c.args.tree.now in
    let h : Field g.row.V.Denot = field_of vdb c.args.other.now in
    let first = rw c.in-Tile.is at c.requires.first_tile in
    let second = rw c.in-Leaf-second-2.is at c.requires.second_leaf in
    turned f h c.args.bounds c.is_constant-in-Leaf-second-2.result
    (leaf_same h f c.args.bounds c.in-Leaf-second-2.b.now second c.in-Tile.a first c.is_constant-in-Leaf-second-2.result c.is_constant-in-Leaf-second-2.ensures)

pub returns-in-Tile-second-2 : goal.returns-in-Tile-second-2
returns-in-Tile-second-2 g c =
    let f : Field g.row.V.Denot = field_of vdb c.args.tree.now in
    let h : Field g.row.V.Denot = field_of vdb c.args.other.now in
    let exact = exact_by g.V.PartialEq.eq g.V.Ord.cmp g.met.V.Ord.matches_eq g.met.V.Voxel.exact in
    let first = rw c.in-Tile.is at c.requires.first_tile in
    let second = rw c.in-Tile-second-2.is at c.requires.second_tile in
    tiles_same f h c.args.bounds g.V.PartialEq.eq exact g.met.V.Eq.laws.refl c.in-Tile.a c.in-Tile-second-2.b (bounds_corner c.args.bounds c.min.ensures.bounds) first second c.eq.result c.eq.ensures
