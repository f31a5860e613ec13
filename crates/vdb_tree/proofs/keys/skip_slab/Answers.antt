use Rattle.vdb_tree.proofs.Common.{SFits, rules, w32, to_z-of_z}
use Rattle.vdb_tree.proofs.KeySkips.{skip_none, skip_slab}
use Rattle.vdb_tree.proofs.PaintedVoxels.{bumped, covered}
use Rattle.vdb_tree.proofs.keys.skip_slab.Goals as goal

pub returns-then-key-high : goal.returns-then-key-high
returns-then-key-high c =
    let px : SFits w32 c.args.key.x = search rules in
    let mx : SFits w32 c.max-high.result.x = search rules in
    let ly : SFits w32 c.min-low.result.y = search rules in
    let lz : SFits w32 c.min-low.result.z = search rules in
    let x = bumped c.args.key.x c.max-high.result.x px mx c.if-key-high.true in
    rw (x.0, to_z-of_z w32 c.min-low.result.y ly, to_z-of_z w32 c.min-low.result.z lz, c.min-low.ensures.corner) (skip_slab c.args.keys c.args.key c.requires)

pub returns : goal.returns
returns c =
    let px : SFits w32 c.args.key.x = search rules in
    let mx : SFits w32 c.max-high.result.x = search rules in
    let x = covered c.args.key.x c.max-high.result.x px mx c.if-key-high.false in
    skip_none c.args.keys c.args.key c.requires (rw c.max-high.ensures.corner at x)
