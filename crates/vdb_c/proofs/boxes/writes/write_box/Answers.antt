use Rattle.vdb_c.proofs.Common.{rules, inl, subst, w32, IsTrue, SFits, IsSome, to_z-of_z, is_inside, Coord, Kind, change_of_voxel, grid_kind}
use Rattle.vdb_c.specs.BoxWrites.{WritesBox}
use Rattle.vdb_c.proofs.boxes.writes.write_box.Goals as goal

pub returns-in-None : goal.returns-in-None
unfolding WritesBox
returns-in-None c =
    let fits : SFits w32 c.write_voxels.result = search rules in
    let given : (p : Coord) → IsTrue (is_inside c.args.bounds p) → IsSome (change_of_voxel (grid_kind c.args.grid.now) c.args.bounds c.args.strides.now c.args.values.now c.args.states.now p) =
    subst (λ (k : Kind). (p : Coord) → IsTrue (is_inside c.args.bounds p) → IsSome (change_of_voxel k c.args.bounds c.args.strides.now c.args.values.now c.args.states.now p)) c.kind.ensures
    (c.missing_voxel.ensures.none c.in-None.is) in
    rw (to_z-of_z w32 c.write_voxels.result fits) (inl (given, c.write_voxels.ensures))
