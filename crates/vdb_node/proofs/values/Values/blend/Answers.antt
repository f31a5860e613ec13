use Rattle.vdb_node.proofs.Common.{◌<◌, ◌≤◌, ◌∙◌, ℕ, arith, get_or_past}
use Rattle.vdb_node.proofs.values.Values.blend.Goals as goal

between : (a i b : ℕ) → a ≤ i → i < b → a < b
between a i b h k = omega (arith, h, k)

through : (a b i : ℕ) → a ≤ b → b ≤ i → a ≤ i
through a b i h k = omega (arith, h, k)

pub returns-then-blend_first-clause-lacks : goal.returns-then-blend_first-clause-lacks
returns-then-blend_first-clause-lacks g c = λ no.
    let found = c.blend_run.ensures.lacks no in
    let i = found.0 in
    let same = c.blend_first.ensures.after i found.1 ∙ c.write_to.ensures.values i in
    let few = c.written-written.ensures.rest (between _ i _ found.1 found.2) in
    let past = get_or_past c.args.other.now.first.items i c.args.other.now.rest (through _ _ i few found.1) in
    (i, found.2, rw (← same, past) found.3)
