use Rattle.vdb_tree.proofs.Common.{◌∙◌, sym, bits_of}
use Rattle.vdb_tree.proofs.KeysPast.{fewer_past}
use Rattle.vdb_tree.proofs.NextLeaf.{table_found, table_next}
use Rattle.vdb_tree.proofs.tree.TreeOf.next_leaf_of_keys.Goals as goal

pub returns-then-is_some : goal.returns-then-is_some
returns-then-is_some g c =
    table_found (bits_of g.row.U g.row.L g.row.F) c.args.self.now c.args.after c.loop-key.passed c.loop-key.invariant c.in-Some.key c.in-Some.ensures.least c.key_corner.result c.key_corner.ensures.number
    c.next_leaf_of_upper-found.result (sym c.is_some.ensures ∙ c.if-is_some.true) c.next_leaf_of_upper-found.ensures

pub loop-key-preserved : goal.loop-key-preserved
loop-key-preserved g c =
    table_next (bits_of g.row.U g.row.L g.row.F) c.args.self.now c.args.after c.loop-key.passed c.loop-key.invariant c.in-Some.key c.in-Some.ensures.least c.key_corner.result c.key_corner.ensures.number
    c.next_leaf_of_upper-found.result (sym c.is_some.ensures ∙ c.if-is_some.false) c.next_leaf_of_upper-found.ensures

pub loop-key-smaller : goal.loop-key-smaller
loop-key-smaller g c = fewer_past c.args.self.now.root c.loop-key.passed c.in-Some.key c.in-Some.ensures.least
