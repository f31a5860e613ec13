use Rattle.vdb_file.proofs.Common.{◌∙◌, refl, sym, rules, on_ok_weaker, block_around, vdb, Leaf, fits_everywhere, field_of, exact_by, voxel_body}
use Rattle.vdb_file.proofs.LeafVoxels.{one_everywhere}
use Rattle.vdb_file.proofs.PutBlocks.{cell_put}
use Rattle.vdb_file.proofs.Standard.{standard_bits}
use Rattle.vdb_file.proofs.saving.leaves.put_leaf.Goals as goal

pub returns-in-None-clause-puts : goal.returns-in-None-clause-puts
returns-in-None-clause-puts g c =
    let exact = exact_by g.V.PartialEq.eq g.V.Ord.cmp g.met.V.Ord.matches_eq g.met.V.Voxel.exact in
    let f = field_of vdb c.args.tree.now in
    let eq = g.V.PartialEq.eq in
    let bytes = g.V.Voxel.bytes_of in
    let inside = fits_everywhere c.args.p (search rules) (search rules) (search rules) in
    let one = one_everywhere eq exact g.met.V.Eq.laws.refl vdb standard_bits Leaf f c.args.p inside (f.cell c.args.p) (c.in-None.ensures.tile refl) in
    on_ok_weaker c.put_cell.result (λ h. cell_put eq bytes vdb f (voxel_body eq bytes vdb f) Leaf (block_around vdb Leaf c.args.p) _ _ c.get.result one.0 (one.1 ∙ sym c.get.ensures.cell) h) c.put_cell.ensures.puts
