use Rattle.vdb_pool.proofs.Common.{◌<◌, ◌-◌, ◌∷◌, length, sym, subst, ap, ◌∙◌, arith, length-map, node_of, linked}
use Rattle.vdb_pool.proofs.Changes.{extended_vacant}
use Rattle.vdb_pool.proofs.pool.Pool.append_vacant.Goals as goal

pub invariant_of-self : goal.invariant_of-self
invariant_of-self g c =
    let p = c.self.inside in let xs = p.storage.items in let ok = c.self.invariant in
    let capacity = subst (λ v. length v.nodes < length v.places) (sym c.self.view_is) c.requires in
    let free : p.used < p.total = omega (arith, capacity, ok.used_is, ok.total_is, length-map xs node_of) in
    let done = extended_vacant p.chunks.items p.storage.places xs p.used p.total p.held p.top ok free in
    rw (c.push.ensures.0, c.push.ensures.1) done.0

pub returns-clause-vacant : goal.returns-clause-vacant
returns-clause-vacant g c =
    let p = c.self.inside in let xs = p.storage.items in let ok = c.self.invariant in
    let capacity = subst (λ v. length v.nodes < length v.places) (sym c.self.view_is) c.requires in
    let free : p.used < p.total = omega (arith, capacity, ok.used_is, ok.total_is, length-map xs node_of) in
    let done = extended_vacant p.chunks.items p.storage.places xs p.used p.total p.held p.top ok free in
    rw c.push.ensures.1 (done.1 ∙ ap (λ k. k ∷ linked (p.used - p.held) p.top xs) (ok.used_is ∙ sym (length-map xs node_of)) ∙ ap (λ v. length v.nodes ∷ v.vacant) c.self.view_is)
