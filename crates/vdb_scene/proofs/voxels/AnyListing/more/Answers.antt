use Rattle.vdb_scene.specs.declared.scalar.Scalar.TheVariants as scalars
use Rattle.vdb_scene.proofs.Listings.{made_more}
use Rattle.vdb_scene.proofs.voxels.AnyListing.more.Goals as goal

pub returns-in-Bool : goal.returns-in-Bool
returns-in-Bool c = rw c.in-Bool.is (made_more scalars.Bool c.more.result c.in-Bool.listing c.more.ensures)

pub returns-in-I32 : goal.returns-in-I32
returns-in-I32 c = rw c.in-I32.is (made_more scalars.I32 c.more-in-I32.result c.in-I32.listing c.more-in-I32.ensures)

pub returns-in-I64 : goal.returns-in-I64
returns-in-I64 c = rw c.in-I64.is (made_more scalars.I64 c.more-in-I64.result c.in-I64.listing c.more-in-I64.ensures)
