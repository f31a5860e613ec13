use Rattle.vdb_scene.proofs.Listings.{listing_made}
use Rattle.vdb_scene.specs.declared.scalar.Scalar.TheVariants as scalars
use Rattle.vdb_scene.proofs.voxels.Voxels.listing.Goals as goal

pub returns-in-Bool : goal.returns-in-Bool
returns-in-Bool c = rw (c.in-Bool.is, ← c.tree.ensures) (listing_made scalars.Bool _ _ _ _ _ c.between-bounds.ensures c.list.ensures)

pub returns-in-I32 : goal.returns-in-I32
returns-in-I32 c = rw (c.in-I32.is, ← c.tree-in-I32.ensures) (listing_made scalars.I32 _ _ _ _ _ c.between-bounds.ensures c.list-in-I32.ensures)

pub returns-in-I64 : goal.returns-in-I64
returns-in-I64 c = rw (c.in-I64.is, ← c.tree-in-I64.ensures) (listing_made scalars.I64 _ _ _ _ _ c.between-bounds.ensures c.list-in-I64.ensures)
