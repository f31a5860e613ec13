use Rattle.vdb_tree.proofs.Common.{sym, subst, Option, Coord, bits_of, IsNextLeaf}
use Rattle.vdb_tree.proofs.NextLeaf.{all_leaves}
use Rattle.vdb_tree.proofs.tree.TreeOf.next_leaf.Goals as goal

pub returns-in-None : goal.returns-in-None
returns-in-None g c =
    let bits = bits_of g.row.U g.row.L g.row.F in
    let t = c.args.self.now in
    subst (λ (o : Option Coord). IsNextLeaf bits t o c.next_leaf_of_keys.result) (sym c.in-None.is) (all_leaves bits t c.next_leaf_of_keys.result c.next_leaf_of_keys.ensures)
