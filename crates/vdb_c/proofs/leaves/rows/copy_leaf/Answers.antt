use Rattle.vdb_c.proofs.Common.{◌≡◌, ◌∙◌, ap, sym, ℕ, vdb, cell_in, off, field_of, Cell, IsValueOf, IsWordOf}
use Rattle.vdb_mask.specs.Mask.{is_on}
use Rattle.vdb_c.proofs.LeafRows.{run_as}
use Rattle.vdb_c.proofs.leaves.rows.copy_leaf.Goals as goal

pub returns-clause-values : goal.returns-clause-values
returns-clause-values g c =
    let f = field_of vdb c.args.tree.now in
    let d = off f.background in
    let leaf = c.in-Some.leaf.now in
    run_as _ 512 _ (IsValueOf (λ q. g.V.Number.number_of (f.cell q).value) c.args.p) _ _
    (λ i x _ is q inside place.
    is ∙ ap (λ (j : ℕ). g.V.Number.number_of (cell_in d leaf j).value) (sym place) ∙ ap (λ (a : Cell g.row.V.Denot). g.V.Number.number_of a.value) (sym (c.in-Some.ensures.leaf q inside.0 inside.1)))
    (c.copy_values.ensures d)

pub returns-clause-states : goal.returns-clause-states
returns-clause-states g c =
    let f = field_of vdb c.args.tree.now in
    let leaf = c.in-Some.leaf.now in
    run_as _ 8 _ (IsWordOf (λ q. (f.cell q).on) c.args.p) _ _
    (λ i x _ is q j inside below place.
    sym (is j below) ∙ ap (is_on leaf.states) (sym place) ∙ ap (λ (a : Cell g.row.V.Denot). a.on) (sym (c.in-Some.ensures.leaf q inside.0 inside.1)))
    c.copy_states.ensures
