use Rattle.vdb_tree.proofs.Common.{◌≡◌, ◌<◌, ◌⊎◌, inl, inr, false, rules, subst, IsSome, None, key, Coord, IsActiveKey, bits_of, cell_at, root_at}
use Rattle.vdb_tree.proofs.ActiveCapacities.{capacity_of_few, counts_all, counts_full, counts_held, counts_idle, counts_more, counts_none}
use Rattle.vdb_tree.proofs.KeysPast.{fewer_past}
use Rattle.vdb_tree.proofs.tree.TreeOf.has_capacity_for_active.Goals as goal

pub keys-init : goal.keys-init
keys-init g c = rw (c.len.ensures, ← c.self.view_is) (counts_none (bits_of g.row.U g.row.L g.row.F) c.args.other.now _ c.self.invariant.1)

pub keys-smaller : goal.keys-smaller
keys-smaller g c = fewer_past c.args.other.now.root c.keys.passed c.in-Some.key c.in-Some.ensures.least

pub keys-smaller-else-capacity-eq0 : goal.keys-smaller-else-capacity-eq0
keys-smaller-else-capacity-eq0 g c = fewer_past c.args.other.now.root c.keys.passed c.in-Some.key c.in-Some.ensures.least

pub keys-preserved-else-capacity-eq0 : goal.keys-preserved-else-capacity-eq0
keys-preserved-else-capacity-eq0 g c =
    let bits = bits_of g.row.U g.row.L g.row.F in
    let t = c.args.self.now in
    let u = c.args.other.now in
    let lacks = subst (λ (k : Coord). (root_at t.root k ≡ None) × IsActiveKey bits u k) c.key_corner.ensures.number (c.lacks_entry_for.ensures.lacks c.if-lacks_entry_for.true) in
    let some : 0 < c.keys.capacity = search rules in
    counts_more bits u t c.keys.passed c.keys.capacity c.keys.invariant c.in-Some.key c.in-Some.ensures.least lacks.0 lacks.1 some

pub keys-preserved : goal.keys-preserved
keys-preserved g c =
    let bits = bits_of g.row.U g.row.L g.row.F in
    let t = c.args.self.now in
    let u = c.args.other.now in
    let held = subst (λ (k : Coord). IsSome (root_at t.root k) ⊎ ((q : Coord) → key bits q ≡ k → (cell_at bits u q).on ≡ false)) c.key_corner.ensures.number (c.lacks_entry_for.ensures.held c.if-lacks_entry_for.false) in
    elim held [
      | inl entry ↦ counts_held bits u t c.keys.passed c.keys.capacity c.keys.invariant c.in-Some.key c.in-Some.ensures.least entry
      | inr idle ↦ counts_idle bits u t c.keys.passed c.keys.capacity c.keys.invariant c.in-Some.key c.in-Some.ensures.least idle
    ]

pub returns-then-capacity-eq0-clause-full : goal.returns-then-capacity-eq0-clause-full
returns-then-capacity-eq0-clause-full g c = λ _.
    let bits = bits_of g.row.U g.row.L g.row.F in
    let t = c.args.self.now in
    let u = c.args.other.now in
    let lacks = subst (λ (k : Coord). (root_at t.root k ≡ None) × IsActiveKey bits u k) c.key_corner.ensures.number (c.lacks_entry_for.ensures.lacks c.if-lacks_entry_for.true) in
    counts_full bits u t c.keys.passed c.keys.capacity c.keys.invariant c.in-Some.key c.in-Some.ensures.least lacks.0 lacks.1 (search rules)

pub returns-clause-capacity : goal.returns-clause-capacity
returns-clause-capacity g c = λ _.
    counts_all (bits_of g.row.U g.row.L g.row.F) c.args.other.now c.args.self.now c.keys.passed c.keys.capacity c.keys.invariant c.in_default.ensures.least

pub returns-then-len-capacity-clause-capacity : goal.returns-then-len-capacity-clause-capacity
returns-then-len-capacity-clause-capacity g c = λ _.
    let few = rw (c.len-2.ensures, c.len.ensures) at c.if-len-capacity.true in
    rw (← c.self.view_is, ← c.other.view_is) (capacity_of_few (bits_of g.row.U g.row.L g.row.F) _ _ few c.self.invariant.1.limit)
