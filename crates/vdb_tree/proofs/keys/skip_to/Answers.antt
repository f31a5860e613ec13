use Rattle.vdb_tree.proofs.Common.{SFits, rules, w32, to_z-of_z}
use Rattle.vdb_tree.proofs.KeySkips.{skip_in_row, skip_rows, skip_to_row, slab_beyond, slab_done}
use Rattle.vdb_tree.proofs.PaintedVoxels.{bumped, covered}
use Rattle.vdb_tree.proofs.keys.skip_to.Goals as goal

pub returns-then-key-low : goal.returns-then-key-low
returns-then-key-low c =
    let px : SFits w32 c.args.key.x = search rules in
    let py : SFits w32 c.args.key.y = search rules in
    let ly : SFits w32 c.min-low.result.y = search rules in
    let lz : SFits w32 c.min-low.result.z = search rules in
    let y = bumped c.args.key.y c.min-low.result.y py ly c.if-key-low.true in
    rw (to_z-of_z w32 c.args.key.x px, to_z-of_z w32 c.min-low.result.y ly, to_z-of_z w32 c.min-low.result.z lz, c.min-low.ensures.corner) (skip_rows c.args.keys c.args.key (rw c.min-low.ensures.corner at y.1))

pub skip_slab-requires : goal.skip_slab-requires
skip_slab-requires c =
    let py : SFits w32 c.args.key.y = search rules in
    let my : SFits w32 c.max-high.result.y = search rules in
    let y = bumped c.max-high.result.y c.args.key.y my py c.if-high-key.true in
    slab_beyond c.args.keys c.args.key (rw c.max-high.ensures.corner at y.1)

pub returns-then-key-low-2 : goal.returns-then-key-low-2
returns-then-key-low-2 c =
    let px : SFits w32 c.args.key.x = search rules in
    let py : SFits w32 c.args.key.y = search rules in
    let pz : SFits w32 c.args.key.z = search rules in
    let lz : SFits w32 c.min-low.result.z = search rules in
    let z = bumped c.args.key.z c.min-low.result.z pz lz c.if-key-low-2.true in
    rw (to_z-of_z w32 c.args.key.x px, to_z-of_z w32 c.args.key.y py, to_z-of_z w32 c.min-low.result.z lz, c.min-low.ensures.corner) (skip_in_row c.args.keys c.args.key (rw c.min-low.ensures.corner at z.1))

pub returns-then-key-high : goal.returns-then-key-high
returns-then-key-high c =
    let px : SFits w32 c.args.key.x = search rules in
    let py : SFits w32 c.args.key.y = search rules in
    let pz : SFits w32 c.args.key.z = search rules in
    let my : SFits w32 c.max-high.result.y = search rules in
    let lz : SFits w32 c.min-low.result.z = search rules in
    let z = covered c.args.key.z c.min-low.result.z pz lz c.if-key-low-2.false in
    let y = bumped c.args.key.y c.max-high.result.y py my c.if-key-high.true in
    rw (to_z-of_z w32 c.args.key.x px, y.0, to_z-of_z w32 c.min-low.result.z lz, c.min-low.ensures.corner) (skip_to_row c.args.keys c.args.key c.requires (rw c.min-low.ensures.corner at z))

pub skip_slab-requires-2 : goal.skip_slab-requires-2
skip_slab-requires-2 c =
    let py : SFits w32 c.args.key.y = search rules in
    let pz : SFits w32 c.args.key.z = search rules in
    let my : SFits w32 c.max-high.result.y = search rules in
    let lz : SFits w32 c.min-low.result.z = search rules in
    let z = covered c.args.key.z c.min-low.result.z pz lz c.if-key-low-2.false in
    let y = covered c.args.key.y c.max-high.result.y py my c.if-key-high.false in
    slab_done c.args.keys c.args.key c.requires (rw c.min-low.ensures.corner at z) (rw c.max-high.ensures.corner at y)
