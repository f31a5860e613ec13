-- Each axis of a box has a number.
use Rattle.vdb_coord.proofs.Common.{SFits, w32, rules, int_le, to_z-of_z}
use Rattle.vdb_coord.proofs.Boxes.{three}
use Rattle.vdb_coord.proofs.bounds.Bounds.volume.Goals as goal

pub extent-z-requires : goal.extent-z-requires
extent-z-requires c =
    let low : SFits w32 c.self.inside.min.z = search rules in
    let high : SFits w32 c.self.inside.max.z = search rules in
    let b = c.self.inside in
    simp to_z-of_z (three (int_le b.min.x b.max.x) (int_le b.min.y b.max.y) (int_le b.min.z b.max.z) c.self.invariant).2
