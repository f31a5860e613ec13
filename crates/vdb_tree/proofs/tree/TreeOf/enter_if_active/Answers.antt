use Rattle.vdb_tree.proofs.Common.{key, bits_of}
use Rattle.vdb_tree.proofs.ActiveCapacities.{active_capacity_stays}
use Rattle.vdb_tree.proofs.Blocks.{never}
use Rattle.vdb_tree.proofs.MadeNodes.{same_no_node}
use Rattle.vdb_tree.proofs.tree.TreeOf.enter_if_active.Goals as goal

pub returns-then-not-is_active_root-clause-entered : goal.returns-then-not-is_active_root-clause-entered
returns-then-not-is_active_root-clause-entered g c = λ q. absurd (never (c.is_active_root.ensures.none c.if-not-is_active_root.true q.0 q.1) q.2)

pub returns-clause-nodes : goal.returns-clause-nodes
returns-clause-nodes g c = same_no_node (bits_of g.row.U g.row.L g.row.F) c.args.self.now c.enter_root_block.new.self c.enter_root_block.ensures.same

pub returns-clause-capacity : goal.returns-clause-capacity
returns-clause-capacity g c =
    let bits = bits_of g.row.U g.row.L g.row.F in
    active_capacity_stays bits c.args.other.now c.args.self.now c.requires (key bits c.args.p) (c.is_active_root.ensures.found c.if-not-is_active_root.false) c.enter_root_block.new.self
    c.enter_root_block.ensures.keeps.head.limit c.enter_root_block.ensures.table
