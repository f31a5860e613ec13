use Rattle.vdb_tree.proofs.Common.{◌∙◌, rules, sym, fits_everywhere, bits_of, cell_at}
use Rattle.vdb_tree.proofs.Fields.{cell_inside}
use Rattle.vdb_tree.proofs.tree.TreeOf.cell_near.Goals as goal

pub returns-clause-cell : goal.returns-clause-cell
returns-clause-cell g c =
    let t = c.args.self.now in
    let here = fits_everywhere c.args.p (search rules) (search rules) (search rules) in
    sym (cell_inside t.background (cell_at (bits_of g.row.U g.row.L g.row.F) t) c.args.p here ∙ c.voxel_at.ensures.value)
