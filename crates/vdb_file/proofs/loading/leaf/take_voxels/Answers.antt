use Rattle.vdb_file.proofs.Common.{◌≡◌, ◌∙◌, ℕ, ap, sym, subst, arith, length, length-take, take, vdb, Position, Reads, ahead}
use Rattle.vdb_file.specs.internal.LeafVoxels.{IsFilled, leaf_field, voxels_bytes}
use Rattle.vdb_file.proofs.FieldBytes.{same_position}
use Rattle.vdb_file.proofs.loading.leaf.take_voxels.Goals as goal

pub read_voxels-result-requires : goal.read_voxels-result-requires
read_voxels-result-requires g c =
    let len = c.voxels_len-len.result in
    let within = c.in-Some.ensures.within in
    let long : length c.in-Some.bytes.now ≡ len = omega (arith, ap length c.in-Some.ensures.bytes, length-take len c.args.input.now.unread, within) in
    record { value = c.requires.value; empty = c.requires.empty; length = long ∙ c.voxels_len-len.ensures }

pub returns-in-Some-clause-reads : goal.returns-in-Some-clause-reads
returns-in-Some-clause-reads g c p =
    let reader = g.S.Source.state c.args.reader.now in
    let input = c.args.input.now in
    let len = c.voxels_len-len.result in
    let same = c.in-Some.ensures.bytes in
    let within = c.in-Some.ensures.within in
    let room = c.in-Some.ensures.capacity in
    let long : length c.in-Some.bytes.now ≡ len = omega (arith, ap length same, length-take len input.unread, within) in
    subst (λ (q : Position). Reads (λ _. leaf_field vdb p c.args.background c.read_voxels-result.new.leaf) (IsFilled g.V.PartialEq.eq g.V.Voxel.bytes_of g.V.Voxel.is_value c.args.background vdb p c.args.count) (voxels_bytes g.V.PartialEq.eq g.V.Voxel.bytes_of vdb p) c.read_voxels-result.result (ahead input reader) q)
    (same_position input c.skip.new.self reader.remaining len (length c.in-Some.bytes.now) long c.skip.ensures.unread c.skip.ensures.capacity)
    (c.read_voxels-result.ensures.reads p input reader.remaining (same ∙ ap (λ (k : ℕ). take k input.unread) (sym long)) (omega (arith, long, room)))
