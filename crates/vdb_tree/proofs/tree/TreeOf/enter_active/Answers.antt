use Rattle.vdb_tree.proofs.Common.{◌≡◌, arith, Err, common_steps, bits_of, RootLimit}
use Rattle.vdb_tree.proofs.Capacities.{obeys_full, obeys_within}
use Rattle.vdb_tree.proofs.MadeNodes.{no_node_twice}
use Rattle.vdb_tree.proofs.Splits.{keeps_twice}
use Rattle.vdb_tree.proofs.tree.TreeOf.enter_active.Goals as goal

pub returns-in_err-make_capacity_for_active-clause-limit : goal.returns-in_err-make_capacity_for_active-clause-limit
returns-in_err-make_capacity_for_active-clause-limit g c =
    let full = c.in_err-make_capacity_for_active.ensures.full in
    let refused : c.from_residual.result ≡ Err RootLimit = grind (arith, common_steps, c.from_residual.ensures, full.0) in
    obeys_full g.V.PartialEq.eq (bits_of g.row.U g.row.L g.row.F) c.args.self.now.limit _ c.from_residual.result refused full.1

pub returns-clause-keeps : goal.returns-clause-keeps
returns-clause-keeps g c = keeps_twice (bits_of g.row.U g.row.L g.row.F) c.args.self.now c.make_capacity_for_active.new.self c.enter_active_blocks.new.self c.in_ok-make_capacity_for_active.ensures.keeps c.enter_active_blocks.ensures.keeps

pub returns-clause-nodes : goal.returns-clause-nodes
returns-clause-nodes g c =
    no_node_twice (bits_of g.row.U g.row.L g.row.F) c.args.self.now c.make_capacity_for_active.new.self c.enter_active_blocks.new.self c.in_ok-make_capacity_for_active.ensures.nodes c.enter_active_blocks.ensures.nodes

pub returns-clause-limit : goal.returns-clause-limit
returns-clause-limit g c =
    obeys_within g.V.PartialEq.eq (bits_of g.row.U g.row.L g.row.F) c.args.self.now.limit _ c.enter_active_blocks.result c.enter_active_blocks.ensures.memory c.in_ok-make_capacity_for_active.ensures.within
