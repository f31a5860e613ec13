use Rattle.vdb_tree.proofs.Common.{◌≡◌, arith, Err, common_steps, Memory, write, bits_of, field_of, Leaf, Lower}
use Rattle.vdb_tree.proofs.MadeNodes.{but_elsewhere, elsewhere_same, elsewhere_twice}
use Rattle.vdb_tree.proofs.Rooted.{write_altered}
use Rattle.vdb_tree.proofs.Splits.{keeps_twice}
use Rattle.vdb_tree.proofs.Writes.{kept_outcome, upper_has_capacity, written_field}
use Rattle.vdb_tree.proofs.tree.TreeOf.write_upper_tile.Goals as goal

pub returns-in_err-lower-clause-outcome : goal.returns-in_err-lower-clause-outcome
returns-in_err-lower-clause-outcome g c =
    let bits = bits_of g.row.U g.row.L g.row.F in
    let capacity = upper_has_capacity bits c.args.self.now c.args.p c.args.upper c.requires.node in
    let memory : c.from_residual.result ≡ Err Memory = grind (arith, common_steps, c.from_residual.ensures, c.in_err-lower.ensures.memory) in
    kept_outcome bits g.V.PartialEq.eq c.args.self.now c.split_upper.new.self (write c.args.p c.args.change (field_of bits c.args.self.now)) _ memory c.split_upper.ensures.keeps (c.keeps_to_limit.ensures.within capacity (write c.args.p c.args.change (field_of bits c.args.self.now)) (write_altered c.args.p c.args.change (field_of bits c.args.self.now) bits))

pub returns-in_err-leaf-clause-outcome : goal.returns-in_err-leaf-clause-outcome
returns-in_err-leaf-clause-outcome g c =
    let bits = bits_of g.row.U g.row.L g.row.F in
    let capacity = upper_has_capacity bits c.args.self.now c.args.p c.args.upper c.requires.node in
    let keeps = keeps_twice bits c.args.self.now c.split_upper.new.self c.leaf_in.new.self c.split_upper.ensures.keeps c.leaf_in.ensures.keeps in
    let memory : c.from_residual-in_err-leaf.result ≡ Err Memory = grind (arith, common_steps, c.from_residual-in_err-leaf.ensures, c.in_err-leaf.ensures.memory) in
    kept_outcome bits g.V.PartialEq.eq c.args.self.now c.leaf_in.new.self (write c.args.p c.args.change (field_of bits c.args.self.now)) _ memory keeps (c.keeps_to_limit.ensures.within capacity (write c.args.p c.args.change (field_of bits c.args.self.now)) (write_altered c.args.p c.args.change (field_of bits c.args.self.now) bits))

pub returns-clause-outcome : goal.returns-clause-outcome
returns-clause-outcome g c =
    let bits = bits_of g.row.U g.row.L g.row.F in
    let capacity = upper_has_capacity bits c.args.self.now c.args.p c.args.upper c.requires.node in
    let keeps = keeps_twice bits c.args.self.now c.split_upper.new.self c.leaf_in.new.self c.split_upper.ensures.keeps c.leaf_in.ensures.keeps in
    (written_field bits c.args.self.now c.leaf_in.new.self c.write_voxel.new.self c.args.p c.args.change keeps c.write_voxel.ensures.changes, c.keeps_to_limit.ensures.within capacity (write c.args.p c.args.change (field_of bits c.args.self.now)) (write_altered c.args.p c.args.change (field_of bits c.args.self.now) bits))

pub returns-in_err-lower-clause-elsewhere : goal.returns-in_err-lower-clause-elsewhere
returns-in_err-lower-clause-elsewhere g c = but_elsewhere (bits_of g.row.U g.row.L g.row.F) Lower c.args.self.now c.split_upper.new.self c.args.p c.split_upper.ensures.but

pub returns-in_err-leaf-clause-elsewhere : goal.returns-in_err-leaf-clause-elsewhere
returns-in_err-leaf-clause-elsewhere g c =
    let bits = bits_of g.row.U g.row.L g.row.F in
    let mid = c.split_upper.new.self in
    elsewhere_twice bits c.args.self.now mid c.leaf_in.new.self c.args.p (but_elsewhere bits Lower c.args.self.now mid c.args.p c.split_upper.ensures.but) (but_elsewhere bits Leaf mid c.leaf_in.new.self c.args.p c.leaf_in.ensures.but)

pub returns-clause-elsewhere : goal.returns-clause-elsewhere
returns-clause-elsewhere g c =
    let bits = bits_of g.row.U g.row.L g.row.F in
    let mid = c.split_upper.new.self in
    let made = c.leaf_in.new.self in
    elsewhere_twice bits c.args.self.now made c.write_voxel.new.self c.args.p
    (elsewhere_twice bits c.args.self.now mid made c.args.p (but_elsewhere bits Lower c.args.self.now mid c.args.p c.split_upper.ensures.but) (but_elsewhere bits Leaf mid made c.args.p c.leaf_in.ensures.but))
    (elsewhere_same bits made c.write_voxel.new.self c.args.p c.write_voxel.ensures.same)
