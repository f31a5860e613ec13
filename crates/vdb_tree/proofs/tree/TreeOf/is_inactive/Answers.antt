use Rattle.vdb_tree.proofs.Common.{subst, bits_of, IsEnd, End}
use Rattle.vdb_tree.proofs.Voxels.{active_cell, active_capacity, leaf_inactive, not_on, tile_inactive}
use Rattle.vdb_tree.proofs.tree.TreeOf.is_inactive.Goals as goal

pub returns-in-Leaf-clause-inactive : goal.returns-in-Leaf-clause-inactive
returns-in-Leaf-clause-inactive g c = λ _.
    let bits = bits_of g.row.U g.row.L g.row.F in
    leaf_inactive bits c.args.self.now c.args.p _ (subst (λ (e : End g.row.V.Denot). IsEnd bits c.args.self.now c.args.p e) c.in-Leaf.is c.requires)

pub returns-in-Tile-clause-inactive : goal.returns-in-Tile-clause-inactive
returns-in-Tile-clause-inactive g c = λ off.
    let bits = bits_of g.row.U g.row.L g.row.F in
    tile_inactive bits c.args.self.now c.args.p c.in-Tile.field-0 c.in-Tile.cell
    (subst (λ (e : End g.row.V.Denot). IsEnd bits c.args.self.now c.args.p e) c.in-Tile.is c.requires) (not_on c.in-Tile.cell.on off)

pub returns-in-Tile-clause-capacity : goal.returns-in-Tile-clause-capacity
returns-in-Tile-clause-capacity g c =
    let bits = bits_of g.row.U g.row.L g.row.F in
    active_capacity bits c.args.self.now c.args.p c.in-Tile.field-0 c.in-Tile.cell
    (subst (λ (e : End g.row.V.Denot). IsEnd bits c.args.self.now c.args.p e) c.in-Tile.is c.requires)

pub returns-in-Tile-clause-active : goal.returns-in-Tile-clause-active
returns-in-Tile-clause-active g c =
    let bits = bits_of g.row.U g.row.L g.row.F in
    active_cell bits c.args.self.now c.args.p c.in-Tile.field-0 c.in-Tile.cell
    (subst (λ (e : End g.row.V.Denot). IsEnd bits c.args.self.now c.args.p e) c.in-Tile.is c.requires)
