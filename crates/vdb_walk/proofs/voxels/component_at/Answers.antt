-- The position is a small number, and the block fits.
use Rattle.std.proofs.Common.{◌≡◌, ◌<◌, ◌≤◌, ◌^◌, ℕ, pos, SFits, w32, to_z, arith}
use Rattle.std.proofs.Math.Pow.{pow_mono}
use Rattle.std.proofs.lemmas.Int.{to_z-of_z, to_z_pos}
use Rattle.vdb_walk.proofs.VoxelRows.{position_fits}
use Rattle.vdb_walk.proofs.voxels.component_at.Goals as goal

small : (bits position : ℕ) → bits ≤ 5 → position < 2 ^ bits → position < 32
small bits position few less = let most : 2 ^ bits ≤ 2 ^ 5 = pow_mono few in omega (arith, less, most)

signed : (position : ℕ) → position < 32 → to_z w32 position ≡ pos position
signed position less = to_z_pos w32 position (omega (arith, less))

pub overflow_cast-result : goal.overflow_cast-result
overflow_cast-result c = let less = small c.args.bits c.args.position c.requires.few c.requires.within in record { sfits = omega (arith, less) }

pub overflow_add-result : goal.overflow_add-result
overflow_add-result c =
    let component : SFits w32 c.args.component = c.ranges.component in
    let first : SFits w32 c.args.first = c.ranges.first in
    let less = small c.args.bits c.args.position c.requires.few c.requires.within in
    simp to_z-of_z (rw (signed c.args.position less, c.requires.first) (position_fits c.args.bits c.args.component c.args.position c.requires.few component c.requires.within))

pub returns : goal.returns
returns c =
    let component : SFits w32 c.args.component = c.ranges.component in
    let first : SFits w32 c.args.first = c.ranges.first in
    let less = small c.args.bits c.args.position c.requires.few c.requires.within in
    let fits = position_fits c.args.bits c.args.component c.args.position c.requires.few component c.requires.within in
    simp to_z-of_z (rw (signed c.args.position less, c.requires.first) (simp to_z-of_z))
