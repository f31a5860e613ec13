use Rattle.vdb_tree.proofs.Common.{◌≤◌, ℕ, arith, refl, ◌∙◌, Leaf, Lower, lower_from_leaf, offset_below, bits_of}
use Rattle.vdb_tree.proofs.Passes.{block_of_tile_needed, descent_by, descent_trans, fills_keeps, keeps_trans, non_constant_needed, none_non_constant, root_entry_same, tile_needed, tiles_constant, tiles_of_constant}
use Rattle.vdb_tree.proofs.tree.TreeOf.prune_lower.Goals as goal

least : (n : ℕ) → 0 ≤ n
least n = omega arith

pub returns-in-Tile-clause-needed : goal.returns-in-Tile-clause-needed
returns-in-Tile-clause-needed g c = block_of_tile_needed _ Lower c.args.self.now c.args.p _ c.in-Tile.ensures.value

pub returns-in-Some-clause-keeps : goal.returns-in-Some-clause-keeps
returns-in-Some-clause-keeps g c =
    let bits = bits_of g.row.U g.row.L g.row.F in
    let mid = c.prune_leaves.new.self in
    keeps_trans bits c.args.self.now mid c.drop_lower.new.self c.prune_leaves.ensures.done.keeps
    (fills_keeps bits Lower mid c.drop_lower.new.self c.args.p _ c.drop_lower.ensures.fills (tiles_constant bits Leaf Lower mid c.args.p _ ((c.in-Some.ensures.constant c.in-Some.cell).0 refl)))

pub returns-in-Some-clause-root : goal.returns-in-Some-clause-root
returns-in-Some-clause-root g c = c.drop_lower.ensures.root ∙ c.prune_leaves.ensures.above.root

pub returns-in-Some-clause-others : goal.returns-in-Some-clause-others
returns-in-Some-clause-others g c = λ q d.
    let bits = bits_of g.row.U g.row.L g.row.F in
    let mid = c.prune_leaves.new.self in
    let new = c.drop_lower.new.self in
    descent_trans bits c.args.self.now mid new q (c.prune_leaves.ensures.done.others q d)
    (descent_by bits mid new q (root_entry_same bits mid new c.drop_lower.ensures.fills.head c.drop_lower.ensures.root q) (c.drop_lower.ensures.uppers.there q d) (c.drop_lower.ensures.lowers.there q d))

pub returns-in-Some-clause-needed : goal.returns-in-Some-clause-needed
returns-in-Some-clause-needed g c = λ q b.
    let bits = bits_of g.row.U g.row.L g.row.F in
    let new = c.drop_lower.new.self in
    (tile_needed bits Leaf new q _ (c.drop_lower.ensures.lowers.here q b), tile_needed bits Lower new q _ (c.drop_lower.ensures.uppers.here q b))

pub returns-in_default-clause-keeps : goal.returns-in_default-clause-keeps
returns-in_default-clause-keeps g c = c.prune_leaves.ensures.done.keeps

pub returns-in_default-clause-root : goal.returns-in_default-clause-root
returns-in_default-clause-root g c = c.prune_leaves.ensures.above.root

pub returns-in_default-clause-others : goal.returns-in_default-clause-others
returns-in_default-clause-others g c = c.prune_leaves.ensures.done.others

pub returns-in_default-clause-needed : goal.returns-in_default-clause-needed
returns-in_default-clause-needed g c =
    let bits = bits_of g.row.U g.row.L g.row.F in
    let mid = c.prune_leaves.new.self in
    λ q b. (
      c.prune_leaves.ensures.done.done q b (least _) (offset_below bits Lower q),
      non_constant_needed bits Lower mid c.args.p
          (none_non_constant bits Lower mid c.args.p _ c.in_default.is (λ cell const. (c.lower_constant.ensures.constant cell).1 (tiles_of_constant bits Leaf Lower mid c.args.p cell (lower_from_leaf bits) (λ r f. c.prune_leaves.ensures.done.done r f (least _) (offset_below bits Lower r)) const))) q b,
    )
