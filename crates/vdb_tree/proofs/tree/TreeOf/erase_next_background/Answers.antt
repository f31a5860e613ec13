use Rattle.vdb_tree.proofs.Common.{subst, Coord, PrunesRoot, bits_of}
use Rattle.vdb_tree.proofs.Blocks.{never}
use Rattle.vdb_tree.proofs.Erasing.{erases_none, erases_pruned}
use Rattle.vdb_tree.proofs.RootSweeps.{prunes_root}
use Rattle.vdb_tree.proofs.tree.TreeOf.erase_next_background.Goals as goal

pub returns-then-root_block_is-clause-erased : goal.returns-then-root_block_is-clause-erased
returns-then-root_block_is-clause-erased g c =
    let bits = bits_of g.row.U g.row.L g.row.F in
    let t = c.args.self.now in
    let p = c.key_corner-corner.result in
    let test = rw c.background_cell.ensures at c.root_block_is.ensures in
    let prunes = subst (λ (k : Coord). PrunesRoot bits t c.drop_background.new.self k) c.key_corner-corner.ensures.number
    (prunes_root bits t c.prune_upper.new.self c.drop_background.new.self p
    c.prune_upper.ensures.keeps c.prune_upper.ensures.others c.prune_upper.ensures.table c.prune_upper.ensures.needed
    c.drop_background.ensures.keeps c.drop_background.ensures.same c.drop_background.ensures.table c.drop_background.ensures.gone) in
    erases_pruned bits t p c.in_ok-key.key c.key_corner-corner.ensures.number c.drop_background.new.self (test.0 c.if-root_block_is.true) prunes

pub returns-else-root_block_is-clause-erased : goal.returns-else-root_block_is-clause-erased
returns-else-root_block_is-clause-erased g c =
    let bits = bits_of g.row.U g.row.L g.row.F in
    let t = c.args.self.now in
    let p = c.key_corner-corner.result in
    let test = rw c.background_cell.ensures at c.root_block_is.ensures in
    erases_none bits t p c.in_ok-key.key c.key_corner-corner.ensures.number (λ const. never c.if-root_block_is.false (test.1 const))
