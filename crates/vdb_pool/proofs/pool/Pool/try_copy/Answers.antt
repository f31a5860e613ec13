use Rattle.vdb_pool.proofs.Common.{◌≡◌, ℕ, ◌+◌, ◌<◌, inl, inr, List, ◌∷◌, [], ◌++◌, length, take, None, Some, sym, ap, ◌∙◌, arith, IsFalling}
use Rattle.std.proofs.lemmas.List.{take_more, length-take-le}
use Rattle.vdb_pool.proofs.pool.Pool.try_copy.Goals.{in-Some, in-None}
use Rattle.vdb_pool.proofs.pool.Pool.try_copy.Goals as goal

-- the next slot is held, or vacant
falling_held : (slot : ℕ) (vacant : List ℕ) → IsFalling (slot ∷ vacant) → IsFalling ((slot + 1) ∷ vacant)
falling_held slot vacant order = ((λ m among. omega (arith, order.0 m among)), order.1)

falling_vacant : (slot : ℕ) (vacant : List ℕ) → IsFalling (slot ∷ vacant) → IsFalling ((slot + 1) ∷ slot ∷ vacant)
falling_vacant slot vacant order = (
  λ m among. elim among as (λ _. m < slot + 1) [
    | inl last ↦ omega (arith, last)
    | inr more ↦ omega (arith, order.0 m more)
  ],
  order,
)

pub loop-slot-preserved : goal.loop-slot-preserved
loop-slot-preserved g c =
    let nodes = c.args.self.now.nodes in let slot = c.loop-slot.slot in let so_far = c.loop-slot.invariant in
    let below : slot < length nodes = omega (arith, c.loop-slot-test.true, c.used-used.ensures) in
    let next = take_more nodes slot None below in
    let long : length c.loop-slot.copy.nodes ≡ slot = ap length so_far.copied ∙ length-take-le slot nodes (omega (arith, below)) in
    elim c.match-branch-3.branch [
      | in-Some w ↦ rw w.copy-is record {
        copied = w.append_held.ensures.nodes ∙ ap (λ l. l ++ Some w.in-Some.node ∷ []) so_far.copied ∙ ap (λ o. take slot nodes ++ o ∷ []) (sym w.in-Some.is ∙ c.in_ok-node.ensures) ∙ sym next;
        capacity = rw w.append_held.ensures.places so_far.capacity;
        order = rw w.append_held.ensures.vacant (falling_held slot c.loop-slot.copy.vacant so_far.order);
      }
      | in-None w ↦ rw w.copy-is record {
        copied = w.append_vacant.ensures.nodes ∙ ap (λ l. l ++ None ∷ []) so_far.copied ∙ ap (λ o. take slot nodes ++ o ∷ []) (sym w.in-None.is ∙ c.in_ok-node.ensures) ∙ sym next;
        capacity = rw w.append_vacant.ensures.places so_far.capacity;
        order = rw (w.append_vacant.ensures.vacant, long) (falling_vacant slot c.loop-slot.copy.vacant so_far.order);
      }
    ]
