use Rattle.vdb_tree.proofs.Common.{◌≡◌, ◌<◌, true, false, arith, rules, is_none, key, both, min_inside, bits_of, root_at}
use Rattle.vdb_tree.proofs.Capacities.{capacity_of_few}
use Rattle.vdb_tree.proofs.CapacityWalks.{CountsWith, counts_all, counts_full, counts_held, counts_more, counts_next, counts_none, none_from, some_from}
use Rattle.vdb_tree.proofs.tree.TreeOf.has_capacity_for.Goals as goal
use Rattle.vdb_tree.proofs.tree.TreeOf.has_capacity_for.Goals.{then-is_none+else-capacity-eq0, else-is_none}

pub loop-self-init : goal.loop-self-init
loop-self-init g c =
    let bits = bits_of g.row.U g.row.L g.row.F in
    let is = (both _ _ c.min-p.ensures.bounds).0 in
    rw (c.min-p.ensures.corner, c.len.ensures, ← c.self.view_is) (counts_none bits c.args.bounds _ is c.self.invariant.1, min_inside c.args.bounds is)

pub returns-then-capacity-eq0-clause-full : goal.returns-then-capacity-eq0-clause-full
returns-then-capacity-eq0-clause-full g c = λ _.
    let bits = bits_of g.row.U g.row.L g.row.F in
    let t = c.args.self.now in
    let p = c.loop-self.p in
    let at : c.get.result ≡ root_at t.root (key bits p) = search rules in
    let none = none_from (root_at t.root (key bits p)) (let h : is_none c.get.result ≡ true = search rules in rw at at h) in
    counts_full bits c.args.bounds t p c.loop-self.capacity c.loop-self.invariant.0 c.loop-self.invariant.1 none (search rules)

pub loop-self-preserved : goal.loop-self-preserved
loop-self-preserved g c =
    let bits = bits_of g.row.U g.row.L g.row.F in
    let t = c.args.self.now in
    let p = c.loop-self.p in
    let before = c.loop-self.capacity in
    let at : c.get.result ≡ root_at t.root (key bits p) = search rules in
    let with : CountsWith bits c.args.bounds t p c.if-is_none.capacity =
    elim c.if-is_none.branch [
      | then-is_none+else-capacity-eq0 w ↦
          let none = none_from (root_at t.root (key bits p)) (let h : is_none c.get.result ≡ true = search rules in rw at at h) in
          let some : 0 < before = search rules in
          rw w.capacity-is (counts_more bits c.args.bounds t p before c.loop-self.invariant.0 c.loop-self.invariant.1 none some)
      | else-is_none w ↦
          rw w.capacity-is (counts_held bits c.args.bounds t p before c.loop-self.invariant.0 (some_from (root_at t.root (key bits p)) (let h : is_none c.get.result ≡ false = search rules in rw at at h)))
    ] in
    (counts_next bits c.args.bounds t p c.if-is_none.capacity with c.in-Some.next c.in-Some.ensures.next, c.in-Some.ensures.next.0)

pub returns-in-None-clause-capacity : goal.returns-in-None-clause-capacity
returns-in-None-clause-capacity g c = λ _.
    let bits = bits_of g.row.U g.row.L g.row.F in
    let t = c.args.self.now in
    let p = c.loop-self.p in
    let before = c.loop-self.capacity in
    let at : c.get.result ≡ root_at t.root (key bits p) = search rules in
    let with : CountsWith bits c.args.bounds t p c.if-is_none.capacity =
    elim c.if-is_none.branch [
      | then-is_none+else-capacity-eq0 w ↦
          let none = none_from (root_at t.root (key bits p)) (let h : is_none c.get.result ≡ true = search rules in rw at at h) in
          let some : 0 < before = search rules in
          rw w.capacity-is (counts_more bits c.args.bounds t p before c.loop-self.invariant.0 c.loop-self.invariant.1 none some)
      | else-is_none w ↦
          rw w.capacity-is (counts_held bits c.args.bounds t p before c.loop-self.invariant.0 (some_from (root_at t.root (key bits p)) (let h : is_none c.get.result ≡ false = search rules in rw at at h)))
    ] in
    counts_all bits c.args.bounds t p c.if-is_none.capacity with c.in-None.ensures.next

pub returns-then-blocks_meeting_in-capacity-clause-capacity : goal.returns-then-blocks_meeting_in-capacity-clause-capacity
returns-then-blocks_meeting_in-capacity-clause-capacity g c = λ _.
    let bits = bits_of g.row.U g.row.L g.row.F in
    let few = rw (c.blocks_meeting_in.ensures, c.bits.ensures.value, c.len.ensures) at c.if-blocks_meeting_in-capacity.true in
    rw (← c.self.view_is) (capacity_of_few bits _ c.args.bounds (both _ _ c.min-p.ensures.bounds).1 (let limit = c.self.invariant.1.limit in omega (arith, few, limit)))
