use Rattle.vdb_c.proofs.Common.{◌≡◌, ◌∙◌, false, inl, inr, subst, sym, ◌&&◌, IsTrue, vdb, Box, is_inside, Coord, field_of, in_leaf, Cell, change_of_voxel, IsWritten}
use Rattle.vdb_c.proofs.LeafFields.{beside_part, leaf_beside, no_part, of_ok, part_beside}
use Rattle.vdb_c.proofs.boxes.leaf_writes.make_leaf.Goals as goal

pub returns-then-is_some-clause-ready : goal.returns-then-is_some-clause-ready
returns-then-is_some-clause-ready g c = λ _ q beside range.
    let there : IsTrue (in_leaf vdb c.args.grid.now.tree c.args.p) = rw (← c.tree.ensures) (sym c.leaf.ensures.there ∙ sym c.is_some.ensures ∙ c.if-is_some.true) in
    inl (leaf_beside c.args.grid.now.tree c.args.p q beside.1 there)

pub returns-in_default-clause-ready : goal.returns-in_default-clause-ready
returns-in_default-clause-ready g c = λ _ q beside.
    absurd (no_part c.args.bounds c.args.p (subst (λ (d : Box). (r : Coord) → (is_inside c.args.bounds r && is_inside d r) ≡ false) c.block.ensures c.in_default.ensures.none) q beside)

pub is_kept-requires-clause-within : goal.is_kept-requires-clause-within
is_kept-requires-clause-within g c = λ q i.
    (part_beside c.args.bounds c.in-Some.part c.args.p (subst (λ (d : Box). (r : Coord) → is_inside c.in-Some.part r ≡ (is_inside c.args.bounds r && is_inside d r)) c.block.ensures c.in-Some.ensures.both) q i).0

pub returns-then-is_kept-clause-ready : goal.returns-then-is_kept-clause-ready
returns-then-is_kept-clause-ready g c = λ _ q beside range.
    let change = change_of_voxel g.V.Voxel.KIND c.args.bounds c.args.strides.now c.args.values.now c.args.states.now in
    let part = subst (λ (d : Box). (r : Coord) → is_inside c.in-Some.part r ≡ (is_inside c.args.bounds r && is_inside d r)) c.block.ensures c.in-Some.ensures.both in
    let kept = c.is_kept.ensures c.if-is_kept.true q (beside_part c.args.bounds c.in-Some.part c.args.p part q beside) in
    let f = field_of vdb c.args.grid.now.tree in
    let none = sym c.is_some.ensures ∙ c.if-is_some.false in
    let tile : f.cell q ≡ f.cell c.args.p = rw (← c.tree.ensures) (c.leaf.ensures.tile none q range beside.1) in
    let read : c.get-cell.result ≡ f.cell c.args.p = rw (← c.tree-2.ensures) c.get-cell.ensures.cell in
    let cell : f.cell q ≡ c.get-cell.result = tile ∙ sym read in
    inr (subst (λ (a : Cell g.row.V.Denot). IsWritten g.V.GridValue.as_scalar (change q) a a) (sym cell) kept)

pub returns-clause-ready : goal.returns-clause-ready
returns-clause-ready g c = λ ok q beside range. inl (leaf_beside c.touch_leaf.new.self.tree c.args.p q beside.1 (of_ok c.touch_leaf.result _ (sym c.is_ok.ensures.value ∙ ok) c.touch_leaf.ensures.made))
