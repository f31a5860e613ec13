use Rattle.vdb_c.proofs.Common.{ap, rules, subst, sym, w32, w64, ℤ, SFits, to_z-of_z, vdb, as_field_of, Layout, field_of}
use Rattle.std.specs.Ordering.{int_eq}
use Rattle.vdb_tree.specs.Smallest.{IsLeast}
use Rattle.vdb_scene.specs.declared.any_grid.AnyGrid.TheVariants as grids
use Rattle.vdb_scene.specs.declared.scalar.Scalar.TheVariants as scalars
use Rattle.vdb_c.proofs.BuiltGrids.{built_of}
use Rattle.vdb_c.proofs.boxes.from_box.vdb_grid_from_box_u16.Goals as goal

pub returns-in-Ok : goal.returns-in-Ok
returns-in-Ok c =
    let number : SFits w64 c.args.background = search rules in
    let fits : SFits w32 c.hold.result = search rules in
    let made = rw (to_z-of_z w64 c.args.background number) at c.in-Ok.ensures.made in
    let same = c.from_tree.ensures.tree in
    rw (to_z-of_z w32 c.hold.result fits)
    (built_of _ _ _ _ _ _ _ _ _ _ _ _ c.in-Ok.tree made (grids.I32 c.from_tree.result)
    (ap (λ (t : Layout ℤ). as_field_of scalars.I32 (field_of vdb t)) same) (ap (λ (t : Layout ℤ). t.limit) same) (subst (λ (t : Layout ℤ). IsLeast int_eq vdb t) (sym same)) c.hold.ensures)

pub returns-in-Err : goal.returns-in-Err
returns-in-Err c =
    let number : SFits w64 c.args.background = search rules in
    let fits : SFits w32 c.in-Err.code = search rules in
    let refused = rw (to_z-of_z w64 c.args.background number) at c.in-Err.ensures.refused in
    rw (to_z-of_z w32 c.in-Err.code fits) (refused c.args.handle.now.grid.held)
