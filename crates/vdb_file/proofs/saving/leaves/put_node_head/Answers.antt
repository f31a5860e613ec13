use Rattle.vdb_file.proofs.Common.{◌∷◌, refl, length, w16, to_be_bytes, block_around, vdb, field_of, listed, source}
use Rattle.vdb_file.proofs.saving.leaves.put_node_head.Goals as goal

pub returns-then-this-eq-COUNTING-clause-puts : goal.returns-then-this-eq-COUNTING-clause-puts
returns-then-this-eq-COUNTING-clause-puts g c =
    let known = g.W.Write.contents (source c.args.writer.now) in
    let count = length (listed g.V.PartialEq.eq g.V.Voxel.bytes_of vdb (field_of vdb c.args.tree.now) c.args.level (block_around vdb c.args.level c.args.p)) in
    c.count.ensures known known (3 ∷ to_be_bytes w16 count) refl

pub returns-clause-puts : goal.returns-clause-puts
returns-clause-puts g c = rw c.count_listed-count.ensures at c.put_head.ensures.puts
