-- Each call has one face less.
use Rattle.std.proofs.Common.{length}
use Rattle.vdb_morph.proofs.dilated.+fill_behind.Given as goal

abbrev pub decreases-fill_behind : goal.decreases-fill_behind
decreases-fill_behind l = length l.faces.now
