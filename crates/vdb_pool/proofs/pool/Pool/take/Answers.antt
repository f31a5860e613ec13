use Rattle.vdb_pool.proofs.Common.{◌≡◌, ◌+◌, IsSome, sym, subst, map-set, node_at, spare_of, node_of, Vacant, KeepsOthersLive, KeepsOthers}
use Rattle.vdb_pool.proofs.Links.{held_at}
use Rattle.vdb_pool.proofs.Changes.{vacated}
use Rattle.vdb_pool.proofs.Lives.{live_without, others_without, spare_without}
use Rattle.vdb_pool.proofs.pool.Pool.take.Goals as goal

pub invariant_of-self : goal.invariant_of-self
invariant_of-self g c =
    let p = c.self.inside in let slot = c.args.place.slot in
    let there = held_at p.storage.items slot (subst (λ v. IsSome (node_at v slot)) (sym c.self.view_is) c.requires.0) in
    let done = vacated p.chunks.items p.storage.places p.storage.items p.used p.total p.held p.top c.self.invariant slot there.0 there.1 in
    rw c.replace.ensures.after done.0

pub returns-clause-after : goal.returns-clause-after
returns-clause-after g c =
    let p = c.self.inside in let slot = c.args.place.slot in
    let there = held_at p.storage.items slot (subst (λ v. IsSome (node_at v slot)) (sym c.self.view_is) c.requires.0) in
    let done = vacated p.chunks.items p.storage.places p.storage.items p.used p.total p.held p.top c.self.invariant slot there.0 there.1 in
    rw (← c.self.view_is, c.replace.ensures.after) (λ i. record { nodes = map-set node_of p.storage.items slot (Vacant p.top) i; vacant = done.1 i; places = p.storage.places })

pub returns-clause-others_live : goal.returns-clause-others_live
returns-clause-others_live g c = subst (λ v. KeepsOthersLive c.args.self.now v c.args.place.slot) (sym (returns-clause-after g c)) (live_without c.args.self.now c.args.place.slot)

pub returns-clause-others : goal.returns-clause-others
returns-clause-others g c = subst (λ v. KeepsOthers c.args.self.now v c.args.place.slot) (sym (returns-clause-after g c)) (others_without c.args.self.now c.args.place.slot)

pub returns-clause-spare : goal.returns-clause-spare
returns-clause-spare g c = subst (λ v. spare_of v ≡ spare_of c.args.self.now + 1) (sym (returns-clause-after g c)) (spare_without c.args.self.now c.args.place.slot)
