use Rattle.vdb_scene.proofs.Common.{◌≡◌, refl, Option, Some, None, vdb, Coord, Leaf}
use Rattle.vdb_coord.specs.Blocks.{block_number}
use Rattle.vdb_tree.specs.Layout.{Layout}
use Rattle.vdb_grid.specs.Grid.{IsInLastLeaf, last}
use Rattle.vdb_scene.proofs.grid_tree.probe.Goals as goal

-- a fact about the last coordinate, if a leaf holds it and p
of_last : {V Fact : Type 0} (t : Layout V) (last : Option Coord) (p : Coord) → IsInLastLeaf t last p → ((q : Coord) → last ≡ Some q → block_number vdb Leaf q ≡ block_number vdb Leaf p → Fact) → Fact
of_last t None p near fact = absurd near
of_last t (Some q) p near fact = fact q refl near.0

pub returns-in-Some-clause-near : goal.returns-in-Some-clause-near
returns-in-Some-clause-near g c = rw c.in-Some.is (λ near. of_last c.args.grid.now.tree (last c.args.grid.now.coords c.in-Some.k) c.args.at near c.probe.ensures.near)

pub returns-in-None-clause-near : goal.returns-in-None-clause-near
returns-in-None-clause-near g c = rw c.in-None.is (λ near. absurd near)
