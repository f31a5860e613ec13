use Rattle.vdb_walk.proofs.Common.{IsTrue, IfSome, everywhere, is_inside, bits_of, field_of, left_count, IsFoundTo}
use Rattle.vdb_walk.proofs.bounding_box.active_bounds.Given as goal

abbrev pub invariant-starts : goal.invariant-starts
invariant-starts g l =
    let bits = bits_of g.row.U g.row.L g.row.F in
    record {
      start : IfSome l.at (λ p. IsTrue (is_inside everywhere p));
      found : IsFoundTo bits (field_of bits l.tree) l.at l.found;
    }

abbrev pub decreases-starts : goal.decreases-starts
decreases-starts g l = left_count (bits_of g.row.U g.row.L g.row.F) l.at
