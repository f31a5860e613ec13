use Rattle.vdb_tree.proofs.Common.{Lower, Upper, bits_of, Background, Inactive}
use Rattle.vdb_tree.proofs.Jumps.{none_left}
use Rattle.vdb_tree.proofs.tree.TreeOf.start_in_upper_node.Goals as goal

pub returns-in-Some : goal.returns-in-Some
returns-in-Some g c = c.start_of_entry.ensures (rw c.in-Background.is c.in-Some.ensures)

pub returns-in-None : goal.returns-in-None
returns-in-None g c =
    rw c.in-Background.is (none_left (bits_of g.row.U g.row.L g.row.F) c.args.self.now c.args.bounds Background Upper Lower tt c.args.p c.requires.inside c.in-None.ensures)

pub returns-in-Some-next_active_in_upper : goal.returns-in-Some-next_active_in_upper
returns-in-Some-next_active_in_upper g c = c.start_of_entry-in-Some-next_active_in_upper.ensures (rw c.in-Inactive.is c.in-Some-next_active_in_upper.ensures)

pub returns-in-None-next_active_in_upper : goal.returns-in-None-next_active_in_upper
returns-in-None-next_active_in_upper g c =
    rw c.in-Inactive.is (none_left (bits_of g.row.U g.row.L g.row.F) c.args.self.now c.args.bounds Inactive Upper Lower tt c.args.p c.requires.inside c.in-None-next_active_in_upper.ensures)
