use Rattle.vdb_walk.proofs.Common.{◌≡◌, ◌∙◌, false, refl, sym, true, block_number, Leaf, and_true, inside_numbered}
use Rattle.vdb_walk.proofs.NextVoxels.{near_itself, next_is_first, coord_is_first}
use Rattle.vdb_walk.proofs.order.next_in.Goals as goal

pub next_voxel-requires : goal.next_voxel-requires
next_voxel-requires c = near_itself c.args.bits c.args.part c.in-Some.near c.args.p c.requires.inside (rw c.block_in.ensures at c.in-Some.ensures.both)

pub unreachable-requires : goal.unreachable-requires
unreachable-requires c =
    let none = rw c.block_in.ensures at c.in-None.ensures.none in
    let here = and_true _ _ c.requires.inside (inside_numbered c.args.bits Leaf (block_number c.args.bits Leaf c.args.p) c.args.p refl) in
    let no : false ≡ true = sym (none c.args.p) ∙ here in
    cc

pub returns-in-Some-next_voxel : goal.returns-in-Some-next_voxel
returns-in-Some-next_voxel c =
    next_is_first c.args.bits c.args.part c.in-Some.near c.args.p c.requires.inside (rw c.block_in.ensures at c.in-Some.ensures.both) c.in-Some-next_voxel.next c.in-Some-next_voxel.ensures

pub returns-in-None-next_voxel : goal.returns-in-None-next_voxel
returns-in-None-next_voxel c =
    coord_is_first c.args.bits c.args.part c.in-Some.near c.args.p c.requires.inside (rw c.block_in.ensures at c.in-Some.ensures.both) c.in-None-next_voxel.ensures c.next_coord_in.result c.next_coord_in.ensures.next
