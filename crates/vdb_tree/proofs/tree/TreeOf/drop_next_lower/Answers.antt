use Rattle.vdb_tree.proofs.Common.{◌∙◌, Lower, Upper, upper_from_lower, entries_is, bits_of, upper_entry}
use Rattle.vdb_tree.proofs.Clears.{after, beyond_twice, beyond_wider, clears_end, clears_step, filled_beyond}
use Rattle.vdb_tree.proofs.Passes.{corner_block, descent_by, root_entry_same, upper_entry_same}
use Rattle.vdb_tree.proofs.tree.TreeOf.drop_next_lower.Goals as goal

pub returns-in_default-clause-clears : goal.returns-in_default-clause-clears
returns-in_default-clause-clears g c =
    let bits = bits_of g.row.U g.row.L g.row.F in
    clears_end bits Upper c.args.p (upper_entry bits c.args.self.now) c.args.from _ c.in_default.ensures.corner

pub returns-clause-beyond : goal.returns-clause-beyond
returns-clause-beyond g c =
    let bits = bits_of g.row.U g.row.L g.row.F in
    let old = c.args.self.now in
    let mid = c.drop_leaves.new.self in
    let new = c.drop_lower.new.self in
    let made = c.drop_lower.ensures in
    let corner = c.in-Some.corner in
    beyond_wider bits Upper Lower (upper_from_lower bits) old new c.args.p corner (corner_block bits Upper Lower c.args.p (upper_entry bits old) c.args.from c.in-Some.offset corner c.in-Some.ensures.corner)
    (beyond_twice bits Lower old mid new corner c.drop_leaves.ensures.beyond
    (filled_beyond bits Lower mid new corner c.args.cell made.fills (λ q d. descent_by bits mid new q (root_entry_same bits mid new made.fills.head made.root q) (made.uppers.there q d) (made.lowers.there q d))))

pub returns-clause-clears : goal.returns-clause-clears
returns-clause-clears g c =
    let bits = bits_of g.row.U g.row.L g.row.F in
    let old = c.args.self.now in
    let mid = c.drop_leaves.new.self in
    clears_step bits Upper c.args.p (upper_entry bits old) (upper_entry bits c.drop_lower.new.self) c.args.from c.in-Some.offset c.in-Some.corner c.args.cell c.in-Some.ensures.corner
    c.drop_lower.ensures.uppers.here (λ q d. c.drop_lower.ensures.uppers.there q d ∙ upper_entry_same bits old mid c.drop_leaves.ensures.above q)

pub returns-clause-further : goal.returns-clause-further
returns-clause-further g c =
    let next = c.in-Some.ensures.corner in
    after c.args.from c.in-Some.offset _ next.from_on (rw (entries_is (bits_of g.row.U g.row.L g.row.F) Upper) at next.within)
