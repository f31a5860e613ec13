use Rattle.vdb_walk.proofs.Common.{IsNextCoord, Upper, ap, ◌+◌, ◌∙◌, bits_of, active_from}
use Rattle.vdb_walk.proofs.BlockCounts.{from_next, inactive_end, nearer_from, starts_next}
use Rattle.vdb_walk.proofs.active_count.count_next.Goals as goal

pub returns-in-Some-clause-counted : goal.returns-in-Some-clause-counted
returns-in-Some-clause-counted g c =
    let bits = bits_of g.row.U g.row.L g.row.F in
    let is_next : IsNextCoord bits Upper c.args.bounds c.in-Some.q c.next_coord_in.result = rw c.bits-bits.ensures.value at c.next_coord_in.ensures.next in
    ap (λ n. n + active_from bits c.args.tree.now c.args.bounds c.next_coord_in.result) c.count_around-active.ensures
    ∙ from_next bits c.args.tree.now c.args.bounds c.args.p Upper c.requires c.in-Some.q c.in-Some.ensures c.next_coord_in.result is_next

pub returns-in-Some-clause-start : goal.returns-in-Some-clause-start
returns-in-Some-clause-start g c =
    let bits = bits_of g.row.U g.row.L g.row.F in
    let is_next : IsNextCoord bits Upper c.args.bounds c.in-Some.q c.next_coord_in.result = rw c.bits-bits.ensures.value at c.next_coord_in.ensures.next in
    starts_next bits c.args.tree.now c.args.bounds c.args.p Upper c.requires c.in-Some.q c.in-Some.ensures c.next_coord_in.result is_next

pub returns-in-Some-clause-nearer : goal.returns-in-Some-clause-nearer
returns-in-Some-clause-nearer g c =
    let bits = bits_of g.row.U g.row.L g.row.F in
    let is_next : IsNextCoord bits Upper c.args.bounds c.in-Some.q c.next_coord_in.result = rw c.bits-bits.ensures.value at c.next_coord_in.ensures.next in
    nearer_from bits c.args.tree.now c.args.bounds c.args.p Upper c.requires c.in-Some.q c.in-Some.ensures c.next_coord_in.result is_next c.min.ensures.bounds

pub returns-in-None-clause-counted : goal.returns-in-None-clause-counted
returns-in-None-clause-counted g c = inactive_end (bits_of g.row.U g.row.L g.row.F) c.args.tree.now c.args.bounds c.args.p c.in-None.ensures
