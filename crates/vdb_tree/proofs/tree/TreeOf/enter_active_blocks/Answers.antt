use Rattle.vdb_tree.proofs.Common.{subst, IsSome, Coord, IsActiveKey, bits_of, root_at}
use Rattle.vdb_tree.proofs.ActiveCapacities.{enters_all, enters_next, enters_none}
use Rattle.vdb_tree.proofs.KeysPast.{fewer_past}
use Rattle.vdb_tree.proofs.MadeNodes.{no_node_twice}
use Rattle.vdb_tree.proofs.Splits.{keeps_twice}
use Rattle.vdb_tree.proofs.tree.TreeOf.enter_active_blocks.Goals as goal

pub keys-init : goal.keys-init
keys-init g c = record { enters = enters_none (bits_of g.row.U g.row.L g.row.F) c.args.other.now c.args.self.now; capacity = c.requires }

pub keys-smaller : goal.keys-smaller
keys-smaller g c = fewer_past c.args.other.now.root c.keys.passed c.in-Some.key c.in-Some.ensures.least

pub keys-preserved : goal.keys-preserved
keys-preserved g c =
    let bits = bits_of g.row.U g.row.L g.row.F in
    let u = c.args.other.now in
    let new = c.enter_if_active.new.self in
    let call = c.in_ok-enter_if_active.ensures in
    let entered = subst (λ (k : Coord). IsActiveKey bits u k → IsSome (root_at new.root k)) c.key_corner.ensures.number call.entered in
    record {
      enters = enters_next bits u c.args.self.now c.keys.self c.keys.passed c.keys.invariant.enters new call.keeps call.nodes call.keys c.in-Some.key entered c.in-Some.ensures.least;
      capacity = call.capacity;
    }

pub returns-in_err-enter_if_active-clause-keeps : goal.returns-in_err-enter_if_active-clause-keeps
returns-in_err-enter_if_active-clause-keeps g c =
    keeps_twice (bits_of g.row.U g.row.L g.row.F) c.args.self.now c.keys.self c.enter_if_active.new.self c.keys.invariant.enters.keeps c.in_err-enter_if_active.ensures.keeps

pub returns-in_err-enter_if_active-clause-nodes : goal.returns-in_err-enter_if_active-clause-nodes
returns-in_err-enter_if_active-clause-nodes g c =
    no_node_twice (bits_of g.row.U g.row.L g.row.F) c.args.self.now c.keys.self c.enter_if_active.new.self c.keys.invariant.enters.nodes c.in_err-enter_if_active.ensures.nodes

pub returns-clause-keeps : goal.returns-clause-keeps
returns-clause-keeps g c = c.keys.invariant.enters.keeps

pub returns-clause-nodes : goal.returns-clause-nodes
returns-clause-nodes g c = c.keys.invariant.enters.nodes

pub returns-clause-entered : goal.returns-clause-entered
returns-clause-entered g c = enters_all (bits_of g.row.U g.row.L g.row.F) c.args.other.now c.args.self.now c.keys.self c.keys.passed c.keys.invariant.enters c.in_default.ensures.least
