use Rattle.vdb_file.proofs.Common.{◌≡◌, ◌∙◌, ℕ, arith, ap, refl, sym, length, rules, on_ok_weaker, block_around, entries, vdb, Leaf, fits_everywhere, off, field_of, exact_by, voxel_body}
use Rattle.std.proofs.Common.{◌%◌}
use Rattle.vdb_file.proofs.LeafVoxels.{listed_voxels, voxels_put}
use Rattle.vdb_file.proofs.Outputs.{puts_same}
use Rattle.vdb_file.proofs.PutBlocks.{node_put}
use Rattle.vdb_file.proofs.Standard.{standard_bits}
use Rattle.vdb_file.proofs.saving.leaves.put_leaf_cells.Goals as goal

pub encode_voxels-len-requires : goal.encode_voxels-len-requires
encode_voxels-len-requires g c =
    let count : c.from-n.result ≡ entries vdb Leaf = c.from-n.ensures ∙ c.entries.ensures in
    record { within = omega (arith, count); few = omega (arith, count); rows = ap (λ (n : ℕ). n % 64) count; inactive = refl }

pub returns-clause-puts : goal.returns-clause-puts
returns-clause-puts g c =
    let exact = exact_by g.V.PartialEq.eq g.V.Ord.cmp g.met.V.Ord.matches_eq g.met.V.Voxel.exact in
    let t = c.args.tree.now in
    let eq = g.V.PartialEq.eq in
    let bytes = g.V.Voxel.bytes_of in
    let inside = fits_everywhere c.args.p (search rules) (search rules) (search rules) in
    let n : c.from-n.result ≡ entries vdb Leaf = c.from-n.ensures ∙ c.entries.ensures in
    let listed_are = listed_voxels eq exact g.met.V.Eq.laws.refl vdb standard_bits t c.args.p inside c.args.leaf.now c.requires bytes in
    let count = (rw (c.background.ensures, n) at c.encode_voxels-len.ensures.count (off t.background)) ∙ ap length (sym listed_are) in
    let encoded = rw (c.background.ensures, n) at c.encode_voxels-len.ensures.bytes (off t.background) in
    on_ok_weaker c.put.result
    (λ h. node_put eq bytes vdb (field_of vdb t) (voxel_body eq bytes vdb (field_of vdb t)) Leaf (block_around vdb Leaf c.args.p) _ _ _ c.encode_voxels-len.result.1 (sym c.in_default.ensures.test) c.in_ok-put_head.ensures.puts count
    (voxels_put eq exact g.met.V.Eq.laws.refl vdb standard_bits t c.args.p inside c.args.leaf.now c.requires bytes _ _ (puts_same _ _ _ _ encoded h)))
    c.put.ensures.puts
