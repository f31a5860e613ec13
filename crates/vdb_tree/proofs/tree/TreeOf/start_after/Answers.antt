use Rattle.vdb_tree.proofs.Common.{rules, fits_everywhere, bits_of, end_level}
use Rattle.vdb_tree.proofs.PartWalks.{start_nearer}
use Rattle.vdb_tree.proofs.tree.TreeOf.start_after.Goals as goal

pub returns-in-Some-clause-nearer : goal.returns-in-Some-clause-nearer
returns-in-Some-clause-nearer g c =
    let bits = bits_of g.row.U g.row.L g.row.F in
    let there = fits_everywhere c.in-Some.next (search rules) (search rules) (search rules) in
    start_nearer bits c.args.self.now c.args.bounds c.args.skip (end_level bits c.args.self.now c.args.p) c.args.p c.in-Some.next c.requires.inside there c.in-Some.ensures
