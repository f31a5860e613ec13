use Rattle.vdb_tree.proofs.Common.{◌≡◌, ◌∙◌, ap, refl, sym, IsTrue, block_number, is_inside, Bits, Coord, Leaf, Child}
use Rattle.vdb_tree.proofs.LeafWrites.{leaf_sound, painted_here, painted_outside}
use Rattle.vdb_tree.proofs.Sizes.{leaf_small}
use Rattle.vdb_tree.proofs.SweptTables.{not_known}
use Rattle.vdb_tree.proofs.VoxelRuns.{least_inside}
use Rattle.vdb_tree.proofs.tree.TreeOf.paint_leaf.Goals as goal

pub held_place-place-requires : goal.held_place-place-requires
held_place-place-requires g c = c.self.invariant.1.leaves.held c.args.p c.args.leaf (rw (← c.self.view_is) at c.requires.leaf)

pub paint_voxels-requires : goal.paint_voxels-requires
paint_voxels-requires g c =
    let part = c.part-part.result in
    let within = c.part-part.ensures.within in
    let here = c.part-part.ensures.all c.args.p c.requires.inside refl in
    let one : (q : Coord) → IsTrue (is_inside c.part-part.result q) → block_number c.bits-bits.result Leaf c.part-part.result.min ≡ block_number c.bits-bits.result Leaf q
    = λ q i. rw c.bits-bits.ensures.value ((within part.min (least_inside part c.args.p here)).1 ∙ sym (within q i).1) in
    let small = g.met.V.Stored-3.row_small in
    let few = c.self.invariant.0.few_leaf_words in
    let leaf = ap (λ (b : Bits). b.leaf) c.bits-bits.ensures.value in
    (leaf_small _ _ g.row.WF _ few small.1 small.1 small.0, (c.bits-bits.ensures.configured, (leaf, (few, one))))

pub invariant_of-self : goal.invariant_of-self
invariant_of-self g c = (c.self.invariant.0, leaf_sound _ _ _ _ _ c.at_mut.ensures.node c.self.invariant.1, not_known)

pub returns-clause-outside : goal.returns-clause-outside
returns-clause-outside g c =
    rw (← c.self.view_is)
    (painted_outside _ _ _ _ _ c.at_mut.ensures.node c.args.p
    ((rw (← c.self.view_is) at c.requires.leaf) ∙ ap Child (sym c.held_place-place.ensures.slot))
    c.args.bounds c.part-part.result c.args.cell c.self.invariant.1 (rw c.bits-bits.ensures.value at c.paint_voxels.ensures) c.part-part.ensures.within c.part-part.ensures.all)

pub returns-clause-cells : goal.returns-clause-cells
returns-clause-cells g c =
    painted_here _ _ _ _ _ c.at_mut.ensures.node c.args.p
    ((rw (← c.self.view_is) at c.requires.leaf) ∙ ap Child (sym c.held_place-place.ensures.slot))
    c.args.bounds c.part-part.result c.args.cell c.self.invariant.1 (rw c.bits-bits.ensures.value at c.paint_voxels.ensures) c.part-part.ensures.within c.part-part.ensures.all
