use Rattle.vdb_tree.proofs.Common.{IfSome, IsTrue, is_inside, AddsNodes, Keeps, bits_of, IsActiveIn, MakesNoKey, MakesOnly, left_count, IsVoxelisedTo}
use Rattle.vdb_tree.proofs.tree.TreeOf.make_leaves.Given as goal

abbrev pub invariant-loop-next : goal.invariant-loop-next
invariant-loop-next g l =
    let bits = bits_of g.row.U g.row.L g.row.F in
    record {
      keeps : Keeps bits l.fn.self l.self;
      made : MakesOnly bits (IsActiveIn bits l.fn.bounds) l.fn.self l.self;
      adds : AddsNodes bits l.fn.self l.self;
      keys : MakesNoKey l.fn.self l.self;
      inside : IfSome l.next (λ p. IsTrue (is_inside l.fn.bounds p));
      done : IsVoxelisedTo bits l.self l.fn.bounds l.next;
    }

abbrev pub decreases-loop-next : goal.decreases-loop-next
decreases-loop-next g l = left_count (bits_of g.row.U g.row.L g.row.F) l.next
