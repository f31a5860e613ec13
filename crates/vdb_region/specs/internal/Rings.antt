-- The rings around a box: between it and the leaf extents that it meets, between these and the lower extents, between
-- these and the upper extents, and all around those.
use Rattle.vdb_coord.specs.Blocks.{block_around}
use Rattle.vdb_coord.specs.Space.{Box, everywhere}
use Rattle.vdb_coord.specs.declared.Bits.{Bits}
use Rattle.vdb_coord.specs.declared.Level.{Level}
use Rattle.vdb_coord.specs.declared.Level.TheVariants.{Leaf, Lower, Upper}
use Rattle.vdb_region.specs.declared.rings.Ring.{Ring}
use Rattle.vdb_region.specs.declared.rings.Ring.TheVariants.{AroundRoots, WithinRoots, WithinLowers, WithinLeaves}

-- the blocks of the level that meet the box, as one box
abbrev pub hull : Bits → Level → Box → Box
hull bits level b = record { min = (block_around bits level b.min).min; max = (block_around bits level b.max).max }

-- the outer box of a ring, and its inner box
abbrev pub outer : Bits → Box → Ring → Box
outer bits b AroundRoots = everywhere
outer bits b WithinRoots = hull bits Upper b
outer bits b WithinLowers = hull bits Lower b
outer bits b WithinLeaves = hull bits Leaf b

abbrev pub inner : Bits → Box → Ring → Box
inner bits b AroundRoots = hull bits Upper b
inner bits b WithinRoots = hull bits Lower b
inner bits b WithinLowers = hull bits Leaf b
inner bits b WithinLeaves = b
