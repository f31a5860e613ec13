use Rattle.vdb_tree.proofs.Common.{rules, subst, sym, fits_everywhere, written, bits_of, cell_at, IsVoxelWritten}
use Rattle.vdb_tree.proofs.Equations.{changes_field}
use Rattle.vdb_tree.proofs.Fields.{cell_inside}
use Rattle.vdb_tree.proofs.tree.TreeOf.write_near.Goals as goal

pub returns-in-Some-clause-field : goal.returns-in-Some-clause-field
returns-in-Some-clause-field g c written_here =
    changes_field _ c.args.self.now c.write_voxel_at.new.self c.args.p c.args.change c.write_voxel_at.ensures.changes

pub returns-in-Some-clause-alone : goal.returns-in-Some-clause-alone
returns-in-Some-clause-alone g c written_here =
    let bits = bits_of g.row.U g.row.L g.row.F in
    let here = fits_everywhere c.args.p (search rules) (search rules) (search rules) in
    subst (λ cell. IsVoxelWritten bits c.args.self.now c.write_voxel_at.new.self c.args.p (written c.args.change cell))
    (sym (cell_inside c.args.self.now.background (cell_at bits c.args.self.now) c.args.p here)) c.write_voxel_at.ensures.alone

pub returns-in-Some-clause-limit : goal.returns-in-Some-clause-limit
returns-in-Some-clause-limit g c = c.write_voxel_at.ensures.changes.head.limit

pub returns-in-Some-clause-elsewhere : goal.returns-in-Some-clause-elsewhere
returns-in-Some-clause-elsewhere g c = λ level q _. c.write_voxel_at.ensures.same q level
