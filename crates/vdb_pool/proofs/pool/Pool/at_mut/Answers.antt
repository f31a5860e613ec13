use Rattle.vdb_pool.proofs.Common.{None, IsSome, refl, sym, subst, ap, ◌∙◌, map-set, get_or-map, slice_get_within, node_at, node_of, Held}
use Rattle.vdb_pool.proofs.Links.{held_at}
use Rattle.vdb_pool.proofs.Changes.{rewritten}
use Rattle.vdb_pool.proofs.pool.Pool.at_mut.Goals as goal

pub invariant_of-self-lent : goal.invariant_of-self-lent
invariant_of-self-lent g c w =
    let p = c.self.inside in let slot = c.args.place.slot in
    let there = held_at p.storage.items slot (subst (λ v. IsSome (node_at v slot)) (sym c.self.view_is) c.requires.0) in
    (rewritten p.chunks.items p.storage.places p.storage.items p.used p.total p.held p.top c.self.invariant slot there.0 w there.1).0

pub returns : goal.returns
returns g c =
    let p = c.self.inside in let slot = c.args.place.slot in
    let there = held_at p.storage.items slot (subst (λ v. IsSome (node_at v slot)) (sym c.self.view_is) c.requires.0) in
    let within = slice_get_within p.storage.items slot (Held there.0) there.1 in (
      (refl, λ w. rw (← c.self.view_is) (λ i. record { nodes = map-set node_of p.storage.items slot (Held w) i; vacant = (rewritten p.chunks.items p.storage.places p.storage.items p.used p.total p.held p.top c.self.invariant slot there.0 w there.1).1 i; places = p.storage.places })),
      record {
        writes_back = tt;
        node = rw (← c.self.view_is) (get_or-map node_of p.storage.items slot c.get_mut.result.now None within ∙ ap node_of (sym c.get_mut.ensures.value) ∙ c.node_mut-node.ensures.value);
        step = c.step.ensures;
      },
    )
