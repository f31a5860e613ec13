use Rattle.vdb_tree.specs.Layout.{bits_of}
use Rattle.vdb_tree.proofs.Clears.{after}
use Rattle.vdb_tree.proofs.StateRuns.{run_end, run_step}
use Rattle.vdb_tree.proofs.tree.TreeOf.set_next_states.Goals as goal

pub returns-in-Some-clause-sets : goal.returns-in-Some-clause-sets
returns-in-Some-clause-sets g c =
    run_step (bits_of g.row.U g.row.L g.row.F) c.args.rule c.args.other.now c.args.p c.args.self.now c.set_entry_states.new.self c.args.from c.in-Some.offset c.in-Some.corner c.in-Some.ensures.sets.0 c.in-Some.ensures.sets.1
    c.set_entry_states.ensures.sets

pub returns-in-Some-clause-further : goal.returns-in-Some-clause-further
returns-in-Some-clause-further g c = after c.args.from c.in-Some.offset _ c.in-Some.ensures.sets.0.from_on c.in-Some.ensures.sets.0.within

pub returns-in-None-clause-sets : goal.returns-in-None-clause-sets
returns-in-None-clause-sets g c = run_end (bits_of g.row.U g.row.L g.row.F) c.args.rule c.args.other.now c.args.p c.args.self.now c.args.from _ c.in-None.ensures.none
