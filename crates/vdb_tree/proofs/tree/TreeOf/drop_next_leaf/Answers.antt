use Rattle.vdb_tree.proofs.Common.{Leaf, Lower, lower_from_leaf, entries_is, bits_of, lower_entry}
use Rattle.vdb_tree.proofs.Clears.{after, beyond_wider, clears_end, clears_step, filled_beyond}
use Rattle.vdb_tree.proofs.Passes.{corner_block, leaf_descent}
use Rattle.vdb_tree.proofs.tree.TreeOf.drop_next_leaf.Goals as goal

pub returns-in_default-clause-clears : goal.returns-in_default-clause-clears
returns-in_default-clause-clears g c =
    let bits = bits_of g.row.U g.row.L g.row.F in
    clears_end bits Lower c.args.p (lower_entry bits c.args.self.now) c.args.from _ c.in_default.ensures.corner

pub returns-clause-beyond : goal.returns-clause-beyond
returns-clause-beyond g c =
    let bits = bits_of g.row.U g.row.L g.row.F in
    let old = c.args.self.now in
    let new = c.drop_leaf.new.self in
    let made = c.drop_leaf.ensures in
    beyond_wider bits Lower Leaf (lower_from_leaf bits) old new c.args.p c.in-Some.corner (corner_block bits Lower Leaf c.args.p (lower_entry bits old) c.args.from c.in-Some.offset c.in-Some.corner c.in-Some.ensures.corner)
    (filled_beyond bits Leaf old new c.in-Some.corner c.args.cell made.fills (λ q d. leaf_descent bits old new made.above q (made.entries.there q d)))

pub returns-clause-clears : goal.returns-clause-clears
returns-clause-clears g c =
    let bits = bits_of g.row.U g.row.L g.row.F in
    clears_step bits Lower c.args.p (lower_entry bits c.args.self.now) (lower_entry bits c.drop_leaf.new.self) c.args.from c.in-Some.offset c.in-Some.corner c.args.cell c.in-Some.ensures.corner
    c.drop_leaf.ensures.entries.here c.drop_leaf.ensures.entries.there

pub returns-clause-further : goal.returns-clause-further
returns-clause-further g c =
    let next = c.in-Some.ensures.corner in
    after c.args.from c.in-Some.offset _ next.from_on (rw (entries_is (bits_of g.row.U g.row.L g.row.F) Lower) at next.within)
