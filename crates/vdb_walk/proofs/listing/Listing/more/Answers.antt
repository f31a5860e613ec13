use Rattle.vdb_walk.proofs.Common.{ap, sym, is_past, bits_of, field_of, active, Listed}
use Rattle.vdb_walk.proofs.InOrder.{found_left}
use Rattle.vdb_walk.proofs.listing.Listing.more.Goals as goal

pub returns : goal.returns
returns g c =
    let bits = bits_of g.row.U g.row.L g.row.F in
    found_left (λ item. is_past bits c.self.inside.last item.0) (active bits (field_of bits c.self.inside.tree.now) c.self.inside.walk.box) c.args.self.now.rest c.next_active.result c.is_some.result
    (ap (λ (l : Listed g.row.V.Denot). l.rest) (sym c.self.view_is)) (rw c.bounds.ensures at c.next_active.ensures) c.is_some.ensures
