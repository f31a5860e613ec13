use Rattle.vdb_tree.proofs.Common.{◌≤◌, ℕ, arith, refl, ◌∙◌, Leaf, Lower, Upper, upper_from_lower, offset_below, bits_of, root_at}
use Rattle.vdb_tree.proofs.Passes.{descent_by, descent_trans, fills_keeps, keeps_trans, non_constant_needed, none_non_constant, tile_needed, tiles_constant, tiles_of_constant}
use Rattle.vdb_tree.proofs.Splits.{root_turns}
use Rattle.vdb_tree.proofs.RootSweeps.{other_key}
use Rattle.vdb_tree.proofs.tree.TreeOf.prune_upper.Goals as goal

least : (n : ℕ) → 0 ≤ n
least n = omega arith

pub returns-in-Some-clause-keeps : goal.returns-in-Some-clause-keeps
returns-in-Some-clause-keeps g c =
    let bits = bits_of g.row.U g.row.L g.row.F in
    let mid = c.prune_lowers.new.self in
    keeps_trans bits c.args.self.now mid c.drop_upper.new.self c.prune_lowers.ensures.done.keeps
    (fills_keeps bits Upper mid c.drop_upper.new.self c.args.p _ c.drop_upper.ensures.fills (tiles_constant bits Lower Upper mid c.args.p _ ((c.in-Some.ensures.constant c.in-Some.cell).0 refl)))

pub returns-in-Some-clause-others : goal.returns-in-Some-clause-others
returns-in-Some-clause-others g c = λ q d.
    let bits = bits_of g.row.U g.row.L g.row.F in
    let mid = c.prune_lowers.new.self in
    let new = c.drop_upper.new.self in
    let roots = root_turns bits mid new c.args.p _ c.drop_upper.ensures.fills.head.background c.drop_upper.ensures.table in
    descent_trans bits c.args.self.now mid new q (c.prune_lowers.ensures.done.others q d)
    (descent_by bits mid new q (roots.there q d) (c.drop_upper.ensures.uppers.there q d) (c.drop_upper.ensures.lowers.there q d))

pub returns-in-Some-clause-table : goal.returns-in-Some-clause-table
returns-in-Some-clause-table g c = λ k d.
    other_key c.prune_lowers.new.self.root c.drop_upper.new.self.root _ k _ c.drop_upper.ensures.table d ∙ (λ i. root_at (c.prune_lowers.ensures.above i) k)

pub returns-in-Some-clause-needed : goal.returns-in-Some-clause-needed
returns-in-Some-clause-needed g c = λ q b.
    let bits = bits_of g.row.U g.row.L g.row.F in
    let mid = c.prune_lowers.new.self in
    let new = c.drop_upper.new.self in
    let roots = root_turns bits mid new c.args.p _ c.drop_upper.ensures.fills.head.background c.drop_upper.ensures.table in
    (tile_needed bits Leaf new q _ (c.drop_upper.ensures.lowers.here q b), tile_needed bits Lower new q _ (c.drop_upper.ensures.uppers.here q b), tile_needed bits Upper new q _ (roots.here q b))

pub returns-in_default-clause-needed : goal.returns-in_default-clause-needed
returns-in_default-clause-needed g c =
    let bits = bits_of g.row.U g.row.L g.row.F in
    let mid = c.prune_lowers.new.self in
    λ q b.
    let below = c.prune_lowers.ensures.done.done q b (least _) (offset_below bits Upper q) in (
      below.0,
      below.1,
      non_constant_needed bits Upper mid c.args.p
          (none_non_constant bits Upper mid c.args.p _ c.in_default.is (λ cell const. (c.upper_constant.ensures.constant cell).1 (tiles_of_constant bits Lower Upper mid c.args.p cell (upper_from_lower bits)
          (λ r f. (c.prune_lowers.ensures.done.done r f (least _) (offset_below bits Upper r)).1) const))) q b,
    )
