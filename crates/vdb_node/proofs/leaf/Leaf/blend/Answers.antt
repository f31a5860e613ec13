use Rattle.vdb_node.proofs.Common.{ℕ, is_on, cell_in, entry_count, blended, Cell}
use Rattle.vdb_node.proofs.Leaves.{AreBlended-leaf_of, cell_in-leaf_of, LacksBlend-leaf_of, leaf_of}
use Rattle.vdb_node.proofs.leaf.Leaf.blend.Goals as goal

pub returns : goal.returns
returns g c =
    let both = blended g.V.Voxel.greater g.V.Voxel.lesser g.V.Voxel.sum_of c.args.how in
    let old = g.V.Stored.value_in c.self.inside.row in
    let others = g.V.Stored.value_in c.other.inside.row in
    let n = entry_count g.row.LOG2 in
    let other = λ (d : Cell g.row.V.Denot) (i : ℕ). cell_in d (leaf_of others n c.other.inside.states) i in
    let given = cell_in-leaf_of others n c.other.inside.states in
    rw (← c.self.view_is, ← c.other.view_is)
    (record {
      blended = λ yes.
          AreBlended-leaf_of both old n c.self.inside.states other others (is_on c.other.inside.states) given (g.V.Stored.value_in c.blend_rows.new.row)
          c.union.new.self (rw c.entries.ensures at (c.blend_rows.ensures.blended yes)) (λ i h. c.union.ensures i);
      lacks = λ no.
          LacksBlend-leaf_of both old n c.self.inside.states other others (is_on c.other.inside.states) given
          (rw c.entries.ensures at (c.blend_rows.ensures.lacks no));
    })
