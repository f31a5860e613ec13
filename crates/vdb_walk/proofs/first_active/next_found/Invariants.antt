use Rattle.vdb_walk.proofs.Common.{◌≡◌, None, bits_of, left_count, IsListing}
use Rattle.vdb_walk.proofs.first_active.next_found.Given as goal

abbrev pub invariant-parts : goal.invariant-parts
invariant-parts g l =
    record {
      listing : IsListing (bits_of g.row.U g.row.L g.row.F) l.tree l.after l.walk None;
      bounds : l.walk.box ≡ l.initial.walk.box;
    }

abbrev pub decreases-parts : goal.decreases-parts
decreases-parts g l = left_count (bits_of g.row.U g.row.L g.row.F) l.walk.at
