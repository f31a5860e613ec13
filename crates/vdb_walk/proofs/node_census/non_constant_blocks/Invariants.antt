use Rattle.vdb_walk.proofs.Common.{◌≡◌, ◌+◌, IfSome, everywhere, bits_of, field_of, left_count, non_constant, IsBoxStart, non_constant_from}
use Rattle.vdb_walk.proofs.node_census.non_constant_blocks.Given as goal

abbrev pub invariant-starts : goal.invariant-starts
invariant-starts g l =
    let bits = bits_of g.row.U g.row.L g.row.F in
    record {
      start : IfSome l.at (IsBoxStart bits l.level everywhere);
      counted : l.total + non_constant_from g.V.PartialEq.eq bits l.level (field_of bits l.tree) l.at ≡ non_constant g.V.PartialEq.eq bits l.level (field_of bits l.tree);
    }

abbrev pub decreases-starts : goal.decreases-starts
decreases-starts g l = left_count (bits_of g.row.U g.row.L g.row.F) l.at
