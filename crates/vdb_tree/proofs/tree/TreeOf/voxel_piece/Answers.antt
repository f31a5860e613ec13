use Rattle.vdb_tree.proofs.Common.{◌∙◌, ap, rules, fits_everywhere, bits_of, cell_at, field_of}
use Rattle.vdb_tree.proofs.Fields.{cell_inside}
use Rattle.vdb_tree.proofs.PieceCells.{only_self}
use Rattle.vdb_tree.proofs.tree.TreeOf.voxel_piece.Goals as goal

pub returns-clause-cells : goal.returns-clause-cells
returns-clause-cells g c q inside =
    let bits = bits_of g.row.U g.row.L g.row.F in
    let t = c.args.self.now in
    let here = fits_everywhere c.args.p (search rules) (search rules) (search rules) in
    let same = only_self c.args.p c.single-bounds.result c.single-bounds.ensures q inside in
    ap (λ r. (field_of bits t).cell r) same ∙ cell_inside t.background (cell_at bits t) c.args.p here ∙ c.voxel-cell.ensures.value
