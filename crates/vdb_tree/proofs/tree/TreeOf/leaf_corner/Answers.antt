use Rattle.vdb_tree.proofs.Common.{◌<◌, sym, subst, entries, Bits, Lower, bits_of}
use Rattle.vdb_tree.proofs.BlockTests.{same_upper}
use Rattle.vdb_tree.proofs.UnlikeEntries.{entry_at}
use Rattle.vdb_tree.proofs.tree.TreeOf.leaf_corner.Goals as goal

pub entry_corner-requires-clause-within : goal.entry_corner-requires-clause-within
entry_corner-requires-clause-within g c = subst (λ (b : Bits). c.args.index < entries b Lower) (sym c.bits.ensures.value) c.requires.within

pub returns-clause-block : goal.returns-clause-block
returns-clause-block g c =
    let bits = bits_of g.row.U g.row.L g.row.F in
    (entry_at bits Lower c.args.p c.entry_corner.result c.args.index c.bits.result c.entry_corner.ensures c.bits.ensures.value c.requires.within).0

pub returns-clause-entry : goal.returns-clause-entry
returns-clause-entry g c =
    let bits = bits_of g.row.U g.row.L g.row.F in
    (entry_at bits Lower c.args.p c.entry_corner.result c.args.index c.bits.result c.entry_corner.ensures c.bits.ensures.value c.requires.within).1

pub returns-clause-inside : goal.returns-clause-inside
returns-clause-inside g c =
    let bits = bits_of g.row.U g.row.L g.row.F in
    let at = entry_at bits Lower c.args.p c.entry_corner.result c.args.index c.bits.result c.entry_corner.ensures c.bits.ensures.value c.requires.within in
    same_upper bits c.args.self.now c.args.p c.args.lower c.entry_corner.result at.0 c.requires.child
