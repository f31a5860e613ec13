use Rattle.vdb_script.proofs.Common.{◌≡◌, ◌∙◌, rules, ap, ℕ, ◌+◌, List, ◌∷◌, Some, drop, err_from_is_err_and, pair_line}
use Rattle.std.proofs.Common.{slice_get}
use Rattle.std.proofs.lemmas.List.{drop_more}
use Rattle.std.proofs.lemmas.Option.{get_or_from_slice_get, slice_get_within}
use Rattle.vdb_script.proofs.Pages.{so_far_cut, so_far_more}
use Rattle.vdb_script.proofs.pairs.add_pairs.Goals as goal

-- the first of the pairs that are left
first_left : {X : Type 0} (xs : List X) (i : ℕ) (x : X) → slice_get xs i ≡ Some x → drop i xs ≡ x ∷ drop (i + 1) xs
first_left xs i x is = drop_more xs i x (slice_get_within xs i x is) ∙ ap (λ y. y ∷ drop (i + 1) xs) (get_or_from_slice_get xs i x x is)

pub returns-in_err-add-clause-adds : goal.returns-in_err-add-clause-adds
returns-in_err-add-clause-adds g c =
    let exit = err_from_is_err_and c.from_residual.result c.from_residual.ensures.1 in
    let next = first_left c.args.metas.now c.loop-i.i _ c.pair.ensures.pair in
    rw exit.1 (so_far_cut pair_line _ _ _ _ next _ _ _ _ _ _ (c.as_slice.ensures.value ∙ c.pair_line.ensures) c.loop-i.invariant.added c.in_err-add.ensures.adds)

pub loop-i-preserved : goal.loop-i-preserved
loop-i-preserved g c =
    let next = first_left c.args.metas.now c.loop-i.i _ c.pair.ensures.pair in
    record {
      added = so_far_more pair_line _ _ _ _ next _ _ _ _ _ _ (c.as_slice.ensures.value ∙ c.pair_line.ensures) c.loop-i.invariant.added _ c.in_ok-add.ensures.adds;
      failed = search rules;
    }
