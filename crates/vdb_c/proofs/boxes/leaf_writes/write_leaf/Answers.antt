use Rattle.vdb_c.proofs.Common.{◌≡◌, ◌∙◌, false, subst, sym, true, ◌&&◌, IsTrue, vdb, Box, is_inside, Coord, field_of, IsLeafAround, in_leaf, change_of_voxel, AreLaid, AreWritten, IsBeside}
use Rattle.vdb_node.specs.Leaf.{Leaf}
use Rattle.vdb_c.proofs.LeafFields.{beside_part, leaf_written, no_part, part_beside, part_block, without_leaf, without_voxel}
use Rattle.vdb_c.proofs.boxes.leaf_writes.write_leaf.Goals as goal

pub returns-in_default-clause-written : goal.returns-in_default-clause-written
returns-in_default-clause-written g c =
    let change = change_of_voxel g.V.Voxel.KIND c.args.bounds c.args.strides.now c.args.values.now c.args.states.now in
    without_voxel g.V.GridValue.as_scalar change c.args.bounds c.args.p _ (no_part c.args.bounds c.args.p (subst (λ (d : Box). (r : Coord) → (is_inside c.args.bounds r && is_inside d r) ≡ false) c.block.ensures c.in_default.ensures.none))

pub returns-in_default-leaf-clause-written : goal.returns-in_default-leaf-clause-written
returns-in_default-leaf-clause-written g c =
    let change = change_of_voxel g.V.Voxel.KIND c.args.bounds c.args.strides.now c.args.values.now c.args.states.now in
    without_leaf g.V.GridValue.as_scalar change c.args.bounds c.args.p c.args.grid.now.tree (rw (← c.tree.ensures) (sym c.in_default-leaf.ensures.there)) c.requires.ready

pub lay-requires-clause-within : goal.lay-requires-clause-within
lay-requires-clause-within g c = λ q i.
    (part_beside c.args.bounds c.in-Some.part c.args.p (subst (λ (d : Box). (r : Coord) → is_inside c.in-Some.part r ≡ (is_inside c.args.bounds r && is_inside d r)) c.block.ensures c.in-Some.ensures.both) q i).0

pub lay-requires-clause-block : goal.lay-requires-clause-block
lay-requires-clause-block g c =
    part_block c.args.bounds c.in-Some.part c.args.p (subst (λ (d : Box). (r : Coord) → is_inside c.in-Some.part r ≡ (is_inside c.args.bounds r && is_inside d r)) c.block.ensures c.in-Some.ensures.both)

pub returns-clause-written : goal.returns-clause-written
returns-clause-written g c =
    let make = g.V.GridValue.as_scalar in
    let b = c.args.bounds in
    let p = c.args.p in
    let part = c.in-Some.part in
    let f = field_of vdb c.args.grid.now.tree in
    let change = change_of_voxel g.V.Voxel.KIND b c.args.strides.now c.args.values.now c.args.states.now in
    let is = subst (λ (d : Box). (r : Coord) → is_inside part r ≡ (is_inside b r && is_inside d r)) c.block.ensures c.in-Some.ensures.both in
    let there : IsTrue (in_leaf vdb c.args.grid.now.tree p) = rw (← c.tree.ensures) (sym c.in-Some-leaf.ensures.there) in
    let around : IsLeafAround vdb f p c.in-Some-leaf.old.now = rw (← c.tree.ensures) c.in-Some-leaf.ensures.leaf in
    let laid = subst (λ (l : Leaf g.row.V.Denot). AreLaid make change (λ q. is_inside part q ≡ true) l c.lay.new.leaf) c.copy_from.ensures c.lay.ensures in
    subst (AreWritten make change (IsBeside b p) f) (sym (c.swap_leaf.ensures.field (c.swap_leaf.ensures.answer ∙ there)))
    (leaf_written make change b part p f c.in-Some-leaf.old.now c.lay.new.leaf (part_beside b part p is) (λ q _ beside. beside_part b part p is q beside) around laid)
