use Rattle.vdb_tree.proofs.Common.{◌≡◌, coordinates_after, Lower, Child, bits_of, root_entry}
use Rattle.vdb_tree.proofs.SplitTiles.{SplitsTo}
use Rattle.vdb_tree.proofs.tree.TreeOf.split_lower_blocks.Given as goal

abbrev pub invariant-loop-self : goal.invariant-loop-self
invariant-loop-self g l =
    let bits = bits_of g.row.U g.row.L g.row.F in
    SplitsTo bits l.fn.bounds l.fn.cell Lower l.fn.part l.fn.self l.self l.at × (l.self.root ≡ l.fn.self.root) × (root_entry bits l.self l.at ≡ Child l.fn.upper)

abbrev pub decreases-loop-self : goal.decreases-loop-self
decreases-loop-self g l = coordinates_after l.at
