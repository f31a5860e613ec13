use Rattle.vdb_tree.proofs.Common.{Lower, Upper, entries_is, bits_of}
use Rattle.vdb_tree.proofs.Clears.{after}
use Rattle.vdb_tree.proofs.Passes.{passes_end, passes_step}
use Rattle.vdb_tree.proofs.tree.TreeOf.prune_next_lower.Goals as goal

pub returns-in-Some-clause-passes : goal.returns-in-Some-clause-passes
returns-in-Some-clause-passes g c =
    let bits = bits_of g.row.U g.row.L g.row.F in
    let made = c.prune_lower.ensures in
    passes_step bits Upper Lower c.args.p c.args.self.now c.prune_lower.new.self c.args.from c.in-Some.offset c.in-Some.corner c.in-Some.ensures.corner made.keeps made.others made.needed

pub returns-in-Some-clause-further : goal.returns-in-Some-clause-further
returns-in-Some-clause-further g c =
    let next = c.in-Some.ensures.corner in
    after c.args.from c.in-Some.offset _ next.from_on (rw (entries_is (bits_of g.row.U g.row.L g.row.F) Upper) at next.within)

pub returns-in-None-clause-passes : goal.returns-in-None-clause-passes
returns-in-None-clause-passes g c = passes_end (bits_of g.row.U g.row.L g.row.F) Upper Lower c.args.p c.args.self.now c.args.from c.in-None.ensures.corner
