use Rattle.vdb_node.proofs.Common.{entry_count, refl, blended}
use Rattle.vdb_node.proofs.Leaves.{AreBlended-leaf_of, LacksBlend-leaf_of}
use Rattle.vdb_node.proofs.leaf.Leaf.blend_with.Goals as goal

pub returns : goal.returns
returns g c =
    let both = blended g.V.Voxel.greater g.V.Voxel.lesser g.V.Voxel.sum_of c.args.how in
    let old = g.V.Stored.value_in c.self.inside.row in
    let n = entry_count g.row.LOG2 in
    rw (← c.self.view_is)
    (record {
      blended = λ yes.
          AreBlended-leaf_of both old n c.self.inside.states (λ d i. c.args.cell) (λ i. c.args.cell.value) (λ i. c.args.cell.on) (λ d i h. refl)
          (g.V.Stored.value_in c.blend_row_with.new.row) c.join.new.mask (rw c.entries-2.ensures at (c.blend_row_with.ensures.blended yes))
          (rw c.entries.ensures at c.join.ensures.within);
      lacks = λ no.
          LacksBlend-leaf_of both old n c.self.inside.states (λ d i. c.args.cell) (λ i. c.args.cell.value) (λ i. c.args.cell.on) (λ d i h. refl)
          (rw c.entries-2.ensures at (c.blend_row_with.ensures.lacks no));
    })
