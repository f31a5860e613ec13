use Rattle.vdb_walk.proofs.Common.{◌∙◌, ◌+◌, ◌<◌, ◌≤◌, ◌≡◌, ℕ, length, ap, arith, rules, refl, cell_in, leaf_small}
use Rattle.std.proofs.Common.{◌%◌}
use Rattle.vdb_walk.proofs.Runs.{group_within, in_group, same_least}
use Rattle.vdb_walk.proofs.first_active.begin_run.Goals as goal

eight : (first n l : ℕ) → l ≡ 8 → first + 8 ≤ n → first + l ≤ n
eight first n l e h = omega (arith, e, h)

below : (l k : ℕ) → l ≡ 8 → k < 8 → k < l
below l k e h = omega (arith, e, h)

pub copy_values-requires : goal.copy_values-requires
copy_values-requires g c =
    let small = g.met.V.Stored.row_small in
    let within = group_within g.row.F c.args.entry c.requires.some c.requires.within in
    (leaf_small _ _ g.row.W _ c.requires.few_words small.1 small.1 small.0, eight _ _ (length c.args.run.now.values) (search rules) within)

pub returns-then-test : goal.returns-then-test
returns-then-test g c = record {
  run = λ some. record {
    at = refl;
    near = let near = rw (same_least c.args.part.max.z) at c.run_end.ensures.near in let least = c.min-run.ensures in omega (arith, near, least);
    on = λ k from to. let least = c.min-run.ensures in rw c.states-then-test.ensures.same at (c.run_end.ensures.set k (omega (arith, from)) (omega (arith, to, least)));
    values = λ k d e from to. let least = c.min-run.ensures in c.copy_values.ensures.values d (k % 8) e (below (length c.args.run.now.values) (k % 8) (search rules) (omega arith)) ∙ ap (λ n. (cell_in d c.args.leaf.now n).value) (in_group c.args.entry k (omega (arith, from)) (omega (arith, to, least)));
  };
}
