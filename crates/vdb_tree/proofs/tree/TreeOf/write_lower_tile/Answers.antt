use Rattle.vdb_tree.proofs.Common.{◌≡◌, arith, Err, common_steps, Memory, write, bits_of, field_of, Leaf}
use Rattle.vdb_tree.proofs.MadeNodes.{but_elsewhere, elsewhere_same, elsewhere_twice}
use Rattle.vdb_tree.proofs.Rooted.{write_altered}
use Rattle.vdb_tree.proofs.Writes.{kept_outcome, lower_has_capacity, written_field}
use Rattle.vdb_tree.proofs.tree.TreeOf.write_lower_tile.Goals as goal

pub returns-in_err-leaf-clause-outcome : goal.returns-in_err-leaf-clause-outcome
returns-in_err-leaf-clause-outcome g c =
    let bits = bits_of g.row.U g.row.L g.row.F in
    let capacity = lower_has_capacity bits c.args.self.now c.args.p c.args.lower c.requires.node in
    let memory : c.from_residual.result ≡ Err Memory = grind (arith, common_steps, c.from_residual.ensures, c.in_err-leaf.ensures.memory) in
    kept_outcome bits g.V.PartialEq.eq c.args.self.now c.split_lower.new.self (write c.args.p c.args.change (field_of bits c.args.self.now)) _ memory c.split_lower.ensures.keeps (c.keeps_to_limit.ensures.within capacity (write c.args.p c.args.change (field_of bits c.args.self.now)) (write_altered c.args.p c.args.change (field_of bits c.args.self.now) bits))

pub returns-clause-outcome : goal.returns-clause-outcome
returns-clause-outcome g c =
    let bits = bits_of g.row.U g.row.L g.row.F in
    let capacity = lower_has_capacity bits c.args.self.now c.args.p c.args.lower c.requires.node in
    (written_field bits c.args.self.now c.split_lower.new.self c.write_voxel.new.self c.args.p c.args.change c.split_lower.ensures.keeps c.write_voxel.ensures.changes, c.keeps_to_limit.ensures.within capacity (write c.args.p c.args.change (field_of bits c.args.self.now)) (write_altered c.args.p c.args.change (field_of bits c.args.self.now) bits))

pub returns-in_err-leaf-clause-elsewhere : goal.returns-in_err-leaf-clause-elsewhere
returns-in_err-leaf-clause-elsewhere g c = but_elsewhere (bits_of g.row.U g.row.L g.row.F) Leaf c.args.self.now c.split_lower.new.self c.args.p c.split_lower.ensures.but

pub returns-clause-elsewhere : goal.returns-clause-elsewhere
returns-clause-elsewhere g c =
    let bits = bits_of g.row.U g.row.L g.row.F in
    let made = c.split_lower.new.self in
    elsewhere_twice bits c.args.self.now made c.write_voxel.new.self c.args.p (but_elsewhere bits Leaf c.args.self.now made c.args.p c.split_lower.ensures.but) (elsewhere_same bits made c.write_voxel.new.self c.args.p c.write_voxel.ensures.same)
