use Rattle.vdb_tree.specs.Layout.{bits_of}
use Rattle.vdb_tree.proofs.Equations.{keeps_field}
use Rattle.vdb_tree.proofs.MadeNodes.{elsewhere_itself}
use Rattle.vdb_tree.proofs.Splits.{adds_leaves}
use Rattle.vdb_tree.proofs.tree.TreeOf.touch_leaf.Goals as goal

pub returns-in_err-leaf_around-clause-leaves : goal.returns-in_err-leaf_around-clause-leaves
returns-in_err-leaf_around-clause-leaves g c = adds_leaves (bits_of g.row.U g.row.L g.row.F) c.args.self.now c.leaf_around.new.self c.in_err-leaf_around.ensures.adds

pub returns-clause-field : goal.returns-clause-field
returns-clause-field g c = keeps_field (bits_of g.row.U g.row.L g.row.F) c.args.self.now c.leaf_around.new.self c.in_ok-leaf_around.ensures.keeps

pub returns-clause-leaves : goal.returns-clause-leaves
returns-clause-leaves g c = adds_leaves (bits_of g.row.U g.row.L g.row.F) c.args.self.now c.leaf_around.new.self c.in_ok-leaf_around.ensures.adds

pub returns-then-not-has_capacity-clause-elsewhere : goal.returns-then-not-has_capacity-clause-elsewhere
returns-then-not-has_capacity-clause-elsewhere g c = elsewhere_itself (bits_of g.row.U g.row.L g.row.F) c.args.self.now c.args.p
