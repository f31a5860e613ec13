use Rattle.vdb_walk.proofs.Common.{◌≡◌, ◌+◌, IfSome, Upper, bits_of, field_of, left_count, count, IsBoxStart, active_from}
use Rattle.vdb_walk.proofs.active_count.count_blocks.Given as goal

abbrev pub invariant-starts : goal.invariant-starts
invariant-starts g l =
    let bits = bits_of g.row.U g.row.L g.row.F in
    record {
      start : IfSome l.at (IsBoxStart bits Upper l.bounds);
      counted : l.total + active_from bits l.tree l.bounds l.at ≡ count (field_of bits l.tree) l.bounds;
    }

abbrev pub decreases-starts : goal.decreases-starts
decreases-starts g l = left_count (bits_of g.row.U g.row.L g.row.F) l.at
