use Rattle.vdb_tree.proofs.Common.{◌∙◌, bits_of}
use Rattle.vdb_tree.proofs.Descents.{upper_by_block}
use Rattle.vdb_tree.proofs.StateRuns.{corner_there, index_small}
use Rattle.vdb_tree.proofs.tree.TreeOf.next_corner_to_set.Goals as goal

pub entry_corner-requires-clause-within : goal.entry_corner-requires-clause-within
entry_corner-requires-clause-within g c = rw c.bits-bits.ensures.value c.in-Some.ensures.within

pub returns-in-Some-clause-sets : goal.returns-in-Some-clause-sets
returns-in-Some-clause-sets g c = let is = c.entry_corner.ensures in (c.in-Some.ensures, rw c.bits-bits.ensures.value at is)

pub returns-in-Some-clause-node : goal.returns-in-Some-clause-node
returns-in-Some-clause-node g c =
    let bits = bits_of g.row.U g.row.L g.row.F in
    let is = c.entry_corner.ensures in
    upper_by_block bits c.args.self.now c.entry_corner.result c.args.p (corner_there bits c.args.p c.in-Some.offset c.entry_corner.result c.in-Some.ensures.within (rw c.bits-bits.ensures.value at is))
    ∙ c.requires.node

pub returns-in-Some-clause-over : goal.returns-in-Some-clause-over
returns-in-Some-clause-over g c =
    let bits = bits_of g.row.U g.row.L g.row.F in
    let is = c.entry_corner.ensures in
    upper_by_block bits c.args.other.now c.entry_corner.result c.args.p (corner_there bits c.args.p c.in-Some.offset c.entry_corner.result c.in-Some.ensures.within (rw c.bits-bits.ensures.value at is))
    ∙ c.requires.over

pub returns-in-Some-clause-few : goal.returns-in-Some-clause-few
returns-in-Some-clause-few g c =
    let configured = c.bits-bits.ensures.configured in
    index_small (bits_of g.row.U g.row.L g.row.F) c.in-Some.offset (rw c.bits-bits.ensures.value at configured) c.in-Some.ensures.within

pub returns-in-None-clause-none : goal.returns-in-None-clause-none
returns-in-None-clause-none g c = c.in-None.ensures
