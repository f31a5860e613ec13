use Rattle.std.proofs.Common.{length}
use Rattle.vdb_region.proofs.clip_box.+clear_ring.Given as goal

abbrev pub decreases-clear_ring : goal.decreases-clear_ring
decreases-clear_ring g l = length l.faces.now
