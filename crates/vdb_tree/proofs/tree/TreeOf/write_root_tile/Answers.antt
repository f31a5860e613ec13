use Rattle.vdb_tree.proofs.Common.{◌≡◌, arith, rules, subst, sym, Err, common_steps, fits_everywhere, Memory, RootLimit, write, Layout, bits_of, field_of, KeepsElsewhere}
use Rattle.vdb_tree.proofs.MadeNodes.{elsewhere_itself, elsewhere_same, elsewhere_twice}
use Rattle.vdb_tree.proofs.Rooted.{write_altered, write_differs}
use Rattle.vdb_tree.proofs.Splits.{keeps_twice}
use Rattle.vdb_tree.proofs.Writes.{full_outcome, kept_outcome, written_field}
use Rattle.vdb_tree.proofs.tree.TreeOf.write_root_tile.Goals as goal

pub returns-in_err-make_capacity-clause-outcome : goal.returns-in_err-make_capacity-clause-outcome
returns-in_err-make_capacity-clause-outcome g c = λ differs.
    let bits = bits_of g.row.U g.row.L g.row.F in
    let old = field_of bits c.args.self.now in
    let inside = fits_everywhere c.args.p (search rules) (search rules) (search rules) in
    let full : c.from_residual.result ≡ Err RootLimit = grind (arith, common_steps, c.from_residual.ensures, c.in_err-make_capacity.ensures.full.0) in
    full_outcome bits g.V.PartialEq.eq c.args.self.now c.make_capacity.new.self (write c.args.p c.args.change old) _ full c.make_capacity.ensures.keeps
    (c.in_err-make_capacity.ensures.full.1 (write c.args.p c.args.change old) (write_altered c.args.p c.args.change old bits) (write_differs c.args.p c.args.change old inside differs))

pub returns-in_err-leaf-clause-outcome : goal.returns-in_err-leaf-clause-outcome
returns-in_err-leaf-clause-outcome g c = λ _.
    let bits = bits_of g.row.U g.row.L g.row.F in
    let keeps = keeps_twice bits c.args.self.now c.make_capacity.new.self c.leaf_around.new.self c.make_capacity.ensures.keeps c.leaf_around.ensures.keeps in
    let memory : c.from_residual-in_err-leaf.result ≡ Err Memory = grind (arith, common_steps, c.from_residual-in_err-leaf.ensures, c.in_err-leaf.ensures.memory) in
    kept_outcome bits g.V.PartialEq.eq c.args.self.now c.leaf_around.new.self (write c.args.p c.args.change (field_of bits c.args.self.now)) _ memory keeps (c.in_ok-make_capacity.ensures.within (write c.args.p c.args.change (field_of bits c.args.self.now)) (write_altered c.args.p c.args.change (field_of bits c.args.self.now) bits))

pub returns-clause-outcome : goal.returns-clause-outcome
returns-clause-outcome g c = λ _.
    let bits = bits_of g.row.U g.row.L g.row.F in
    let keeps = keeps_twice bits c.args.self.now c.make_capacity.new.self c.leaf_around.new.self c.make_capacity.ensures.keeps c.leaf_around.ensures.keeps in
    (written_field bits c.args.self.now c.leaf_around.new.self c.write_voxel.new.self c.args.p c.args.change keeps c.write_voxel.ensures.changes, c.in_ok-make_capacity.ensures.within (write c.args.p c.args.change (field_of bits c.args.self.now)) (write_altered c.args.p c.args.change (field_of bits c.args.self.now) bits))

pub returns-in_err-make_capacity-clause-elsewhere : goal.returns-in_err-make_capacity-clause-elsewhere
returns-in_err-make_capacity-clause-elsewhere g c = λ capacity.
    let bits = bits_of g.row.U g.row.L g.row.F in
    subst (λ (t : Layout g.row.V.Denot). KeepsElsewhere bits c.args.self.now t c.args.p) (sym (c.make_capacity.ensures.there capacity).1) (elsewhere_itself bits c.args.self.now c.args.p)

pub returns-in_err-leaf-clause-elsewhere : goal.returns-in_err-leaf-clause-elsewhere
returns-in_err-leaf-clause-elsewhere g c = λ capacity.
    let bits = bits_of g.row.U g.row.L g.row.F in
    subst (λ (t : Layout g.row.V.Denot). KeepsElsewhere bits t c.leaf_around.new.self c.args.p) (c.make_capacity.ensures.there capacity).1 c.leaf_around.ensures.elsewhere

pub returns-clause-elsewhere : goal.returns-clause-elsewhere
returns-clause-elsewhere g c = λ capacity.
    let bits = bits_of g.row.U g.row.L g.row.F in
    let made = c.leaf_around.new.self in
    let around = subst (λ (t : Layout g.row.V.Denot). KeepsElsewhere bits t made c.args.p) (c.make_capacity.ensures.there capacity).1 c.leaf_around.ensures.elsewhere in
    elsewhere_twice bits c.args.self.now made c.write_voxel.new.self c.args.p around (elsewhere_same bits made c.write_voxel.new.self c.args.p c.write_voxel.ensures.same)
