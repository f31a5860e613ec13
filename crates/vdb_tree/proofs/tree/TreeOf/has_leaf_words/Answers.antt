use Rattle.vdb_tree.proofs.Common.{ℕ, ◌*◌, ◌≤◌, subst, sym, Leaf, entries_is, bits_of}
use Rattle.vdb_tree.proofs.tree.TreeOf.has_leaf_words.Goals as goal

pub returns-clause-capacity : goal.returns-clause-capacity
returns-clause-capacity g c = subst (λ (n : ℕ). n ≤ 64 * g.row.WF) (sym (entries_is (bits_of g.row.U g.row.L g.row.F) Leaf)) c.self.invariant.0.leaf_words
