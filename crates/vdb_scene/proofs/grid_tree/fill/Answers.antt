use Rattle.vdb_scene.proofs.Common.{ap, subst, vdb, as_field_of, fill, field_of, IsOutcome, scalar_eq}
use Rattle.std.specs.Prelude.{◌≡◌, Err, Ok, OnOk, Result}
use Rattle.vdb_coord.specs.Space.{Box}
use Rattle.vdb_coord.specs.declared.Coord.{Coord}
use Rattle.vdb_coord.specs.declared.Level.{Level}
use Rattle.vdb_value.specs.declared.Cell.{Cell}
use Rattle.vdb_node.specs.declared.Entry.TheVariants.{Tile}
use Rattle.vdb_tree.specs.Layout.{Layout, entry_over}
use Rattle.vdb_tree.specs.Paths.{is_child}
use Rattle.vdb_tree.specs.SplitBox.{IsCovered}
use Rattle.vdb_tree.specs.declared.refusal.TreeRefusal.{TreeRefusal}
use Rattle.vdb_tree.proofs.AsFieldOf.{as_outcome_of_fill}
use Rattle.vdb_scene.specs.Grids.{HasTiles}
use Rattle.vdb_scene.proofs.grid_tree.fill.Goals as goal

-- a tile is no child
tiled : {V : Type 0} (t : Layout V) (box : Box) (cell : Cell V) (result : Result (Unit {0}) TreeRefusal)
    → OnOk result ((level : Level) (p : Coord) → IsCovered vdb box level p → entry_over vdb level t p ≡ Tile cell) → OnOk result (HasTiles t box)
tiled t box cell (Ok done) h = λ level p b. ap is_child (h level p b)
tiled t box cell (Err refusal) h = tt

pub returns-clause-tiles : goal.returns-clause-tiles
returns-clause-tiles g c = tiled c.fill.new.self.tree c.args.bounds c.cell_of_kind.result c.fill.result c.fill.ensures.tiles

pub returns-clause-outcome : goal.returns-clause-outcome
returns-clause-outcome g c =
    let make = g.V.GridValue.as_scalar in
    let old = field_of vdb c.args.grid.now.tree in
    let new = field_of vdb c.fill.new.self.tree in
    subst (λ cell. IsOutcome scalar_eq vdb c.args.grid.now.tree.limit (as_field_of make old) (fill c.args.bounds cell (as_field_of make old)) (as_field_of make new) c.fill.result) c.cell_of_kind.ensures
    (as_outcome_of_fill make g.V.PartialEq.eq scalar_eq g.met.V.GridValue.same_eq vdb c.args.grid.now.tree.limit c.args.bounds old new c.fill.result c.cell_of_kind.result c.fill.ensures.outcome)
