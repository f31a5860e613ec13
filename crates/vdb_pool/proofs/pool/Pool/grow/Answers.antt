use Rattle.vdb_pool.proofs.Common.{◌≡◌, ◌<◌, ◌*◌, ◌-◌, ◌^◌, ◌++◌, [], ◌∷◌, length, arith, sym, ap, subst, ◌∙◌, Chunk}
use Rattle.vdb_pool.proofs.Rows.{length-rows, one_more_fits, grown}
use Rattle.vdb_pool.proofs.pool.Pool.grow.Goals as goal

pub overflow_add-self : goal.overflow_add-self
overflow_add-self g c =
    let p = c.self.inside in let ok = c.self.invariant in
    let all : p.total ≡ length p.chunks.items * p.len = ok.total_is ∙ ap length ok.rows ∙ length-rows p.len p.chunks.items in
    let below : length p.storage.places < 2 ^ 32 - 1 = subst (λ v. length v.places < 2 ^ 32 - 1) (sym c.self.view_is) c.requires in
    omega (arith, all, one_more_fits p.len p.most (length p.chunks.items) ok.all (omega (arith, all, below, ok.total_is)))

pub invariant_of-self-2 : goal.invariant_of-self-2
invariant_of-self-2 g c =
    let p = c.self.inside in let ok = c.self.invariant in let new = c.in_ok-base.ensures in
    let all : p.total ≡ length p.chunks.items * p.len = ok.total_is ∙ ap length ok.rows ∙ length-rows p.len p.chunks.items in
    let below : length p.storage.places < 2 ^ 32 - 1 = subst (λ v. length v.places < 2 ^ 32 - 1) (sym c.self.view_is) c.requires in
    let fits = one_more_fits p.len p.most (length p.chunks.items) ok.all (omega (arith, all, below, ok.total_is)) in
    let chunk : Chunk g.row.T.Denot = record { base = c.in_ok-base.base; block = c.in_ok-base.block } in
    grown p.len p.most p.chunks.items _ p.storage.places _ c.in_ok-base.storage.places p.storage.items _ p.used p.total p.held p.top chunk c.self.invariant (omega (arith, all, fits))
    new.0 (new.2, new.3) c.append.ensures.0 c.append.ensures.1 (c.push_reserved.ensures.items ∙ ap (λ l. l ++ chunk ∷ []) c.reserve.ensures.items)
