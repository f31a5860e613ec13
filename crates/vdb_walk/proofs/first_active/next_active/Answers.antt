use Rattle.vdb_walk.proofs.Common.{rules, bits_of, field_of, active}
use Rattle.vdb_walk.proofs.ListingSizes.{listing_small}
use Rattle.vdb_walk.proofs.Yielded.{first_yielded}
use Rattle.vdb_walk.proofs.first_active.next_active.Goals as goal

pub list_past-listing-requires : goal.list_past-listing-requires
list_past-listing-requires g c = let small = g.met.V.Voxel.small in (search rules, listing_small _ _ _ small.1 small.1 small.0)

pub next-requires : goal.next-requires
next-requires g c = let small = g.met.V.Voxel.small in listing_small _ _ _ small.1 small.1 small.0

pub returns : goal.returns
returns g c =
    let bits = bits_of g.row.U g.row.L g.row.F in
    first_yielded bits c.args.after (active bits (field_of bits c.args.tree.now) c.args.bounds) c.list_past-listing.result c.next.new.self c.next.result c.list_past-listing.ensures c.next.ensures
