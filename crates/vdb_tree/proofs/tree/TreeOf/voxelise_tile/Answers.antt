use Rattle.vdb_tree.proofs.Common.{Some, None, key, bits_of}
use Rattle.vdb_tree.proofs.MadeNodes.{active_entered, active_made, keys_but}
use Rattle.vdb_tree.proofs.Needed.{is_child_from}
use Rattle.vdb_tree.proofs.Voxels.{fewer_left, past_leaf}
use Rattle.vdb_tree.proofs.tree.TreeOf.voxelise_tile.Goals as goal

pub returns-in-Some-clause-done : goal.returns-in-Some-clause-done
returns-in-Some-clause-done g c =
    let bits = bits_of g.row.U g.row.L g.row.F in
    past_leaf bits c.args.bounds c.leaf_around.new.self c.args.p (is_child_from _ _ c.in_ok-leaf_around.ensures.ok) (Some c.in-Some.next) (rw c.bits.ensures.value at c.in-Some.ensures.next)

pub returns-in-None-clause-done : goal.returns-in-None-clause-done
returns-in-None-clause-done g c =
    let bits = bits_of g.row.U g.row.L g.row.F in
    past_leaf bits c.args.bounds c.leaf_around.new.self c.args.p (is_child_from _ _ c.in_ok-leaf_around.ensures.ok) None (rw c.bits.ensures.value at c.in-None.ensures.next)

pub returns-in-Some-clause-nearer : goal.returns-in-Some-clause-nearer
returns-in-Some-clause-nearer g c =
    fewer_left (bits_of g.row.U g.row.L g.row.F) c.args.p (Some c.in-Some.next) (rw c.bits.ensures.value at c.in-Some.ensures.nearer)

pub returns-in_err-leaf_around-clause-made : goal.returns-in_err-leaf_around-clause-made
returns-in_err-leaf_around-clause-made g c = λ active.
    active_made (bits_of g.row.U g.row.L g.row.F) c.args.bounds c.args.self.now c.leaf_around.new.self c.args.p c.requires.inside active c.in_err-leaf_around.ensures.elsewhere

pub returns-in_err-leaf_around-clause-keys : goal.returns-in_err-leaf_around-clause-keys
returns-in_err-leaf_around-clause-keys g c = λ active.
    let bits = bits_of g.row.U g.row.L g.row.F in
    keys_but c.args.self.now c.leaf_around.new.self (key bits c.args.p) (active_entered bits c.args.self.now c.args.p active) c.in_err-leaf_around.ensures.table

pub returns-in-Some-clause-made : goal.returns-in-Some-clause-made
returns-in-Some-clause-made g c = λ active.
    active_made (bits_of g.row.U g.row.L g.row.F) c.args.bounds c.args.self.now c.leaf_around.new.self c.args.p c.requires.inside active c.in_ok-leaf_around.ensures.elsewhere

pub returns-in-Some-clause-keys : goal.returns-in-Some-clause-keys
returns-in-Some-clause-keys g c = λ active.
    let bits = bits_of g.row.U g.row.L g.row.F in
    keys_but c.args.self.now c.leaf_around.new.self (key bits c.args.p) (active_entered bits c.args.self.now c.args.p active) c.in_ok-leaf_around.ensures.table

pub returns-in-None-clause-made : goal.returns-in-None-clause-made
returns-in-None-clause-made g c = λ active.
    active_made (bits_of g.row.U g.row.L g.row.F) c.args.bounds c.args.self.now c.leaf_around.new.self c.args.p c.requires.inside active c.in_ok-leaf_around.ensures.elsewhere

pub returns-in-None-clause-keys : goal.returns-in-None-clause-keys
returns-in-None-clause-keys g c = λ active.
    let bits = bits_of g.row.U g.row.L g.row.F in
    keys_but c.args.self.now c.leaf_around.new.self (key bits c.args.p) (active_entered bits c.args.self.now c.args.p active) c.in_ok-leaf_around.ensures.table
