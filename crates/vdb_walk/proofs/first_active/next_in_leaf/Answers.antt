use Rattle.vdb_walk.proofs.Common.{◌∙◌, ℕ, ap, arith, rules, subst, sym, Leaf, entries_is, entry_count, IsOffFrom}
use Rattle.vdb_walk.proofs.LeafSeeks.{in_first_block, set_is_first}
use Rattle.vdb_walk.proofs.Runs.{set_at, set_within}
use Rattle.vdb_walk.proofs.first_active.next_in_leaf.Goals as goal

pub next_set_in-requires : goal.next_set_in-requires
next_set_in-requires g c =
    let past = subst (λ (n : ℕ). IsOffFrom c.states.result.now n) (sym (entries_is c.args.bits Leaf ∙ ap entry_count c.requires.leaf)) c.states.ensures.past_end in
    let capacity = c.requires.capacity in
    let within = c.in_ok-from.ensures.within in (
      search rules,
      (
        c.requires.configured,
        (c.requires.few_words, (past, (λ i h. past i (omega (arith, h, capacity)), (in_first_block c.args.bits c.args.part c.requires.block (search rules), (c.block_corner.ensures, omega (arith, within, capacity)))))),
      ),
    )

pub returns-clause-first : goal.returns-clause-first
returns-clause-first g c =
    set_is_first c.args.bits c.args.part c.requires.block c.args.leaf.now.states c.args.after c.in_ok-from.from c.in_ok-from.ensures.past c.next_set_in.result (rw c.states.ensures.same at c.next_set_in.ensures.next)

pub returns-clause-at : goal.returns-clause-at
returns-clause-at g c = set_at c.args.bits c.states.result.now c.args.part c.in_ok-from.from c.next_set_in.result c.next_set_in.ensures.next

pub returns-clause-within : goal.returns-clause-within
returns-clause-within g c = set_within c.args.bits c.states.result.now c.args.part c.in_ok-from.from (entry_count g.row.F) (entries_is c.args.bits Leaf ∙ ap entry_count c.requires.leaf) c.next_set_in.result c.next_set_in.ensures.next
