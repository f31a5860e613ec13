use Rattle.vdb_tree.proofs.Common.{rules, subst, sym, fits_everywhere, written, bits_of, cell_at, IsVoxelWritten}
use Rattle.vdb_tree.proofs.Equations.{changes_field}
use Rattle.vdb_tree.proofs.Fields.{cell_inside}
use Rattle.vdb_tree.proofs.Paths.{leaf_whole}
use Rattle.vdb_tree.proofs.tree.TreeOf.write_in_lower.Goals as goal

pub returns-in-Child-clause-field : goal.returns-in-Child-clause-field
returns-in-Child-clause-field g c = λ _.
    changes_field _ c.args.self.now c.write_voxel_at.new.self c.args.p c.args.change c.write_voxel_at.ensures.changes

pub returns-in-Child-clause-alone : goal.returns-in-Child-clause-alone
returns-in-Child-clause-alone g c = λ _.
    let bits = bits_of g.row.U g.row.L g.row.F in
    let here = fits_everywhere c.args.p (search rules) (search rules) (search rules) in
    subst (λ cell. IsVoxelWritten bits c.args.self.now c.write_voxel_at.new.self c.args.p (written c.args.change cell))
    (sym (cell_inside c.args.self.now.background (cell_at bits c.args.self.now) c.args.p here)) c.write_voxel_at.ensures.alone

pub returns-in-Child-clause-whole : goal.returns-in-Child-clause-whole
returns-in-Child-clause-whole g c = λ _.
    let above = rw c.in-ToLower.is at c.shared.ensures.lives in
    let was = leaf_whole {V = g.row.V.Denot} (bits_of g.row.U g.row.L g.row.F) c.args.self.now c.args.q c.args.p c.in-ToLower.upper c.in-ToLower.lower c.leaf_place-leaf.result (above.0, above.1, c.leaf_place-leaf.ensures) in
    c.write_voxel_at.ensures.paths _ _ was

pub returns-in-Child-clause-elsewhere : goal.returns-in-Child-clause-elsewhere
returns-in-Child-clause-elsewhere g c = λ level q _. c.write_voxel_at.ensures.same q level
