use Rattle.vdb_pool.proofs.Common.{◌≡◌, ◌-◌, ◌+◌, ◌<◌, ℕ, List, [], ◌∷◌, ◌++◌, length, set, get_or, map, Some, None, slice_get, refl, sym, subst, ap, ◌∙◌, arith, map-set, map_push, get_or-map, length-map, slice_get_within, get_or_from_slice_get, null_ptr, next_slot, spare_of, with_inserted, node_of, linked, Vacant, Held, KeepsLive, KeepsOthers}
use Rattle.std.proofs.Common.{get_or-set_same}
use Rattle.std.proofs.lemmas.Option.{slice_get-get_or}
use Rattle.vdb_pool.proofs.Links.{top_found, none_of, length-linked}
use Rattle.vdb_pool.proofs.Changes.{refilled, extended}
use Rattle.vdb_pool.proofs.Inserted.{refills, extends, next_refill, next_new}
use Rattle.vdb_pool.proofs.Lives.{live_inserted, others_inserted, spare_inserted}
use Rattle.std.proofs.lemmas.List.{get_or_past}
use Rattle.vdb_pool.proofs.pool.Pool.insert.Goals as goal

pub invariant_of-self : goal.invariant_of-self
invariant_of-self g c =
    let p = c.self.inside in let xs = p.storage.items in let slot = c.in-Some.slot in
    let within = slice_get_within xs slot _ (top_found (p.used - p.held) p.top xs slot c.self.invariant.stack c.in-Some.is).1 in
    let found : slice_get xs slot ≡ Some (Vacant c.in-Vacant.next) = slice_get-get_or xs slot c.get_mut-vacant.result.now within ∙ ap Some (sym c.get_mut-vacant.ensures.value ∙ sym c.replace.ensures.value ∙ c.in-Vacant.is) in
    rw c.replace.ensures.after (refilled p.chunks.items p.storage.places xs p.used p.total p.held p.top c.self.invariant slot c.in-Vacant.next c.args.node c.in-Some.is found).0

pub returns-in-Vacant-clause-after : goal.returns-in-Vacant-clause-after
returns-in-Vacant-clause-after g c =
    let p = c.self.inside in let xs = p.storage.items in let slot = c.in-Some.slot in
    let within = slice_get_within xs slot _ (top_found (p.used - p.held) p.top xs slot c.self.invariant.stack c.in-Some.is).1 in
    let found : slice_get xs slot ≡ Some (Vacant c.in-Vacant.next) = slice_get-get_or xs slot c.get_mut-vacant.result.now within ∙ ap Some (sym c.get_mut-vacant.ensures.value ∙ sym c.replace.ensures.value ∙ c.in-Vacant.is) in
    let done = refilled p.chunks.items p.storage.places xs p.used p.total p.held p.top c.self.invariant slot c.in-Vacant.next c.args.node c.in-Some.is found in
    rw c.replace.ensures.after
    (let rest : List ℕ = linked (p.used - (p.held + 1)) c.in-Vacant.next (set xs slot (Held c.args.node)) in
    let same : map node_of (set xs slot (Held c.args.node)) ≡ set (map node_of xs) slot (Some c.args.node) = map-set node_of xs slot (Held c.args.node) in
    (λ i. record { nodes = same i; vacant = rest; places = p.storage.places }) ∙ sym (refills (map node_of xs) (linked (p.used - p.held) p.top xs) p.storage.places slot rest c.args.node done.1) ∙ ap (λ v. with_inserted v c.args.node) c.self.view_is)

pub returns-in-Vacant-clause-live : goal.returns-in-Vacant-clause-live
returns-in-Vacant-clause-live g c =
    let p = c.self.inside in let xs = p.storage.items in let slot = c.in-Some.slot in
    let within = slice_get_within xs slot _ (top_found (p.used - p.held) p.top xs slot c.self.invariant.stack c.in-Some.is).1 in
    let low : slot < length (map node_of xs) = omega (arith, length-map xs node_of) in (
      rw (c.replace.ensures.after, map-set node_of xs slot (Held c.args.node), get_or-set_same (map node_of xs) slot (Some c.args.node) None low) refl,
      c.address-address.ensures ∙ ap (λ v. get_or v.places slot null_ptr) (sym c.self.view_is),
    )

pub invariant_of-self-in-None : goal.invariant_of-self-in-None
invariant_of-self-in-None g c =
    let p = c.self.inside in let xs = p.storage.items in let ok = c.self.invariant in let n = p.used - p.held in
    let none = none_of n p.top xs ok.stack c.in-None.is in
    let spare = subst (λ v. 0 < spare_of v) (sym c.self.view_is) c.requires in
    let free : p.used < p.total = omega (arith, length-linked n p.top xs ok.stack, none, ok.used_is, ok.total_is, length-map xs node_of) in
    let done = extended p.chunks.items p.storage.places xs p.used p.total p.held p.top ok c.args.node free in
    rw (c.push.ensures.0, c.push.ensures.1) done.0

pub returns-in-None-clause-slot : goal.returns-in-None-clause-slot
returns-in-None-clause-slot g c =
    let p = c.self.inside in let xs = p.storage.items in let ok = c.self.invariant in let n = p.used - p.held in
    let none = none_of n p.top xs ok.stack c.in-None.is in
    ok.used_is ∙ sym (length-map xs node_of) ∙ sym (next_new (map node_of xs) (linked n p.top xs) p.storage.places (ap (λ k. linked k p.top xs) none)) ∙ ap (λ v. next_slot v) c.self.view_is

pub returns-in-None-clause-after : goal.returns-in-None-clause-after
returns-in-None-clause-after g c =
    let p = c.self.inside in let xs = p.storage.items in let ok = c.self.invariant in let n = p.used - p.held in
    let none = none_of n p.top xs ok.stack c.in-None.is in
    let spare = subst (λ v. 0 < spare_of v) (sym c.self.view_is) c.requires in
    let free : p.used < p.total = omega (arith, length-linked n p.top xs ok.stack, none, ok.used_is, ok.total_is, length-map xs node_of) in
    let done = extended p.chunks.items p.storage.places xs p.used p.total p.held p.top ok c.args.node free in
    let empty : linked n p.top xs ≡ [] = ap (λ k. linked k p.top xs) none in
    let same : map node_of (xs ++ Held c.args.node ∷ []) ≡ map node_of xs ++ Some c.args.node ∷ [] = map_push node_of xs (Held c.args.node) in
    rw (c.push.ensures.0, c.push.ensures.1)
    ((λ i. record { nodes = same i; vacant = (done.1 ∙ empty) i; places = p.storage.places }) ∙ sym (extends (map node_of xs) (linked n p.top xs) p.storage.places c.args.node empty) ∙ ap (λ v. with_inserted v c.args.node) c.self.view_is)

pub returns-in-Vacant-clause-others_live : goal.returns-in-Vacant-clause-others_live
returns-in-Vacant-clause-others_live g c = subst (λ v. KeepsLive c.args.self.now v) (sym (returns-in-Vacant-clause-after g c)) (live_inserted c.args.self.now c.args.node)

pub returns-in-Vacant-clause-spare : goal.returns-in-Vacant-clause-spare
returns-in-Vacant-clause-spare g c = subst (λ v. spare_of v + 1 ≡ spare_of c.args.self.now) (sym (returns-in-Vacant-clause-after g c)) (spare_inserted c.args.self.now c.args.node c.requires)

pub returns-in-Vacant-clause-was_vacant : goal.returns-in-Vacant-clause-was_vacant
returns-in-Vacant-clause-was_vacant g c =
    let p = c.self.inside in let xs = p.storage.items in let slot = c.in-Some.slot in
    let there = (top_found (p.used - p.held) p.top xs slot c.self.invariant.stack c.in-Some.is) in
    rw (← c.self.view_is) (get_or-map node_of xs slot (Vacant None) None (slice_get_within xs slot _ there.1) ∙ ap node_of (get_or_from_slice_get xs slot (Vacant there.0) (Vacant None) there.1))

pub returns-in-Vacant-clause-others : goal.returns-in-Vacant-clause-others
returns-in-Vacant-clause-others g c =
    let p = c.self.inside in let xs = p.storage.items in let slot = c.in-Some.slot in
    let within = slice_get_within xs slot _ (top_found (p.used - p.held) p.top xs slot c.self.invariant.stack c.in-Some.is).1 in
    let found : slice_get xs slot ≡ Some (Vacant c.in-Vacant.next) = slice_get-get_or xs slot c.get_mut-vacant.result.now within ∙ ap Some (sym c.get_mut-vacant.ensures.value ∙ sym c.replace.ensures.value ∙ c.in-Vacant.is) in
    let done = refilled p.chunks.items p.storage.places xs p.used p.total p.held p.top c.self.invariant slot c.in-Vacant.next c.args.node c.in-Some.is found in
    let rest : List ℕ = linked (p.used - (p.held + 1)) c.in-Vacant.next (set xs slot (Held c.args.node)) in
    let slot_is : next_slot c.args.self.now ≡ slot = ap (λ v. next_slot v) (sym c.self.view_is) ∙ next_refill (map node_of xs) (linked (p.used - p.held) p.top xs) p.storage.places slot rest done.1 in
    subst (λ v. KeepsOthers c.args.self.now v slot) (sym (returns-in-Vacant-clause-after g c)) (subst (λ k. KeepsOthers c.args.self.now (with_inserted c.args.self.now c.args.node) k) slot_is (others_inserted c.args.self.now c.args.node))

pub returns-in-None-clause-others_live : goal.returns-in-None-clause-others_live
returns-in-None-clause-others_live g c = subst (λ v. KeepsLive c.args.self.now v) (sym (returns-in-None-clause-after g c)) (live_inserted c.args.self.now c.args.node)

pub returns-in-None-clause-spare : goal.returns-in-None-clause-spare
returns-in-None-clause-spare g c = subst (λ v. spare_of v + 1 ≡ spare_of c.args.self.now) (sym (returns-in-None-clause-after g c)) (spare_inserted c.args.self.now c.args.node c.requires)

pub returns-in-None-clause-others : goal.returns-in-None-clause-others
returns-in-None-clause-others g c =
    subst (λ v. KeepsOthers c.args.self.now v c.self.inside.used) (sym (returns-in-None-clause-after g c)) (subst (λ k. KeepsOthers c.args.self.now (with_inserted c.args.self.now c.args.node) k) (sym (returns-in-None-clause-slot g c)) (others_inserted c.args.self.now c.args.node))

pub returns-in-None-clause-was_vacant : goal.returns-in-None-clause-was_vacant
returns-in-None-clause-was_vacant g c =
    let p = c.self.inside in let xs = p.storage.items in
    rw (← c.self.view_is) (get_or_past (map node_of xs) p.used None (omega (arith, c.self.invariant.used_is, length-map xs node_of)))
