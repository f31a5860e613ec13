use Rattle.vdb_walk.proofs.Common.{◌≡◌, everywhere, bits_of, field_of, IsWalk, left_count, Inactive, IsFoundTo}
use Rattle.vdb_walk.proofs.bounding_box.around_from.Given as goal

abbrev pub invariant-parts : goal.invariant-parts
invariant-parts g l =
    let bits = bits_of g.row.U g.row.L g.row.F in
    record {
      walk : IsWalk bits l.tree l.walk;
      skip : l.walk.skip ≡ Inactive;
      box : l.walk.box ≡ everywhere;
      found : IsFoundTo bits (field_of bits l.tree) l.walk.at l.around;
    }

abbrev pub decreases-parts : goal.decreases-parts
decreases-parts g l = left_count (bits_of g.row.U g.row.L g.row.F) l.walk.at
