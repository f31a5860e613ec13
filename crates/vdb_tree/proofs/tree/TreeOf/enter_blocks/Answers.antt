use Rattle.vdb_tree.proofs.Common.{both, bits_of}
use Rattle.vdb_tree.proofs.MadeNodes.{keys_in_twice}
use Rattle.vdb_tree.proofs.Passes.{descent_trans}
use Rattle.vdb_tree.proofs.CapacityWalks.{EntersTo, enters_all, enters_next, enters_none}
use Rattle.vdb_tree.proofs.Splits.{adds_twice}
use Rattle.vdb_tree.proofs.tree.TreeOf.enter_blocks.Goals as goal

pub loop-self-init : goal.loop-self-init
loop-self-init g c =
    let first : EntersTo (bits_of g.row.U g.row.L g.row.F) c.args.bounds c.args.self.now c.args.self.now c.min-p.result =
    rw c.min-p.ensures.corner (enters_none (bits_of g.row.U g.row.L g.row.F) c.args.bounds c.args.self.now (both _ _ c.min-p.ensures.bounds).0) in
    (first, c.requires)

pub returns-in_err-enter_block-clause-adds : goal.returns-in_err-enter_block-clause-adds
returns-in_err-enter_block-clause-adds g c =
    adds_twice (bits_of g.row.U g.row.L g.row.F) c.args.self.now c.loop-self.self c.enter_block.new.self c.loop-self.invariant.0.adds c.in_err-enter_block.ensures.adds

pub loop-self-preserved : goal.loop-self-preserved
loop-self-preserved g c =
    let call = c.in_ok-enter_block.ensures in (
      enters_next (bits_of g.row.U g.row.L g.row.F) c.args.bounds c.args.self.now c.loop-self.self c.enter_block.new.self c.loop-self.p c.loop-self.invariant.0
          call.keeps call.adds call.same call.keys call.entered c.in-Some.next c.in-Some.ensures.next,
      call.capacity,
    )

pub returns-in-None-clause-adds : goal.returns-in-None-clause-adds
returns-in-None-clause-adds g c =
    adds_twice (bits_of g.row.U g.row.L g.row.F) c.args.self.now c.loop-self.self c.enter_block.new.self c.loop-self.invariant.0.adds c.in_ok-enter_block.ensures.adds

pub returns-in-None-clause-entered : goal.returns-in-None-clause-entered
returns-in-None-clause-entered g c =
    let call = c.in_ok-enter_block.ensures in
    enters_all (bits_of g.row.U g.row.L g.row.F) c.args.bounds c.args.self.now c.loop-self.self c.enter_block.new.self c.loop-self.p c.loop-self.invariant.0
    call.keeps call.adds call.same call.keys call.entered c.in-None.ensures.next

pub returns-in_err-enter_block-clause-same : goal.returns-in_err-enter_block-clause-same
returns-in_err-enter_block-clause-same g c = λ q.
    descent_trans (bits_of g.row.U g.row.L g.row.F) c.args.self.now c.loop-self.self c.enter_block.new.self q (c.loop-self.invariant.0.same q) (c.in_err-enter_block.ensures.same q)

pub returns-in_err-enter_block-clause-keys : goal.returns-in_err-enter_block-clause-keys
returns-in_err-enter_block-clause-keys g c =
    keys_in_twice (bits_of g.row.U g.row.L g.row.F) c.args.bounds c.args.self.now c.loop-self.self c.enter_block.new.self c.loop-self.invariant.0.keys c.in_err-enter_block.ensures.keys

pub returns-in-None-clause-same : goal.returns-in-None-clause-same
returns-in-None-clause-same g c = λ q.
    descent_trans (bits_of g.row.U g.row.L g.row.F) c.args.self.now c.loop-self.self c.enter_block.new.self q (c.loop-self.invariant.0.same q) (c.in_ok-enter_block.ensures.same q)

pub returns-in-None-clause-keys : goal.returns-in-None-clause-keys
returns-in-None-clause-keys g c =
    keys_in_twice (bits_of g.row.U g.row.L g.row.F) c.args.bounds c.args.self.now c.loop-self.self c.enter_block.new.self c.loop-self.invariant.0.keys c.in_ok-enter_block.ensures.keys
