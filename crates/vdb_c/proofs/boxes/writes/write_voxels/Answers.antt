use Rattle.std.proofs.Common.{rules}
use Rattle.vdb_c.proofs.boxes.writes.write_voxels.Goals as goal

pub write_cells-requires : goal.write_cells-requires
write_cells-requires c = (search rules, (c.requires.within, (c.requires.apart, (c.requires.reach, (rw c.in-Bool.is at c.requires.given)))))

pub write_cells-requires-in-I32 : goal.write_cells-requires-in-I32
write_cells-requires-in-I32 c = (search rules, (c.requires.within, (c.requires.apart, (c.requires.reach, (rw c.in-I32.is at c.requires.given)))))

pub write_cells-requires-in-I64 : goal.write_cells-requires-in-I64
write_cells-requires-in-I64 c = (search rules, (c.requires.within, (c.requires.apart, (c.requires.reach, (rw c.in-I64.is at c.requires.given)))))
