use Rattle.vdb_c.proofs.Common.{rules, w32, SFits, to_z-of_z}
use Rattle.vdb_c.proofs.voxels.many.write_first.Goals as goal

pub returns-in-Bool : goal.returns-in-Bool
returns-in-Bool c =
    let fits : SFits w32 c.write_voxels.result = search rules in
    rw (c.in-Bool.is, to_z-of_z w32 c.write_voxels.result fits) c.write_voxels.ensures

pub returns-in-I32 : goal.returns-in-I32
returns-in-I32 c =
    let fits : SFits w32 c.write_voxels-in-I32.result = search rules in
    rw (c.in-I32.is, to_z-of_z w32 c.write_voxels-in-I32.result fits) c.write_voxels-in-I32.ensures

pub returns-in-I64 : goal.returns-in-I64
returns-in-I64 c =
    let fits : SFits w32 c.write_voxels-in-I64.result = search rules in
    rw (c.in-I64.is, to_z-of_z w32 c.write_voxels-in-I64.result fits) c.write_voxels-in-I64.ensures
