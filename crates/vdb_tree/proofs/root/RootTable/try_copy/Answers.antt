use Rattle.vdb_tree.proofs.CopiedTables.{copied_next, copied_none}
use Rattle.vdb_tree.proofs.KeysPast.{fewer_past}
use Rattle.vdb_tree.proofs.root.RootTable.try_copy.Goals as goal

pub loop-key-init : goal.loop-key-init
loop-key-init g c = copied_none c.args.self.now c.new-copy.result c.new-copy.ensures.none c.new-copy.ensures.empty c.new-copy.ensures.apart

pub loop-key-smaller : goal.loop-key-smaller
loop-key-smaller g c = fewer_past c.args.self.now c.loop-key.passed c.in-Some.key c.in-Some.ensures.0

pub loop-key-preserved : goal.loop-key-preserved
loop-key-preserved g c =
    let none = c.loop-key.invariant.ahead c.in-Some.key c.in-Some.ensures.0.1 in
    copied_next c.args.self.now c.loop-key.copy c.enter.new.self c.loop-key.passed c.in-Some.key c.in-Some.entry c.loop-key.invariant c.in-Some.ensures.0 c.in-Some.ensures.1
    (rw none at c.in_ok-enter.ensures.ok) (rw none at c.in_ok-enter.ensures.size) c.in_ok-enter.ensures.apart
