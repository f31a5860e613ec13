use Rattle.vdb_script.proofs.Common.{◌≡◌, ◌+◌, drop, length, take, listed_of, has_failed, source, voxel_line}
use Rattle.vdb_script.proofs.Pages.{AddedSoFar}
use Rattle.vdb_script.proofs.lists.add_voxels.Given as goal

-- the voxels so far were added and counted, and the others are left
abbrev pub invariant-loop-voxel : goal.invariant-loop-voxel
invariant-loop-voxel g l = record {
  added : AddedSoFar voxel_line (take l.fn.limit (listed_of l.fn.listing).rest) (take (listed_of l.listing).left (listed_of l.listing).rest)
      (g.W.Write.contents (source l.fn.writer)) (g.W.Write.contents (source l.writer)) l.fn.page.items l.page.items;
  limit : l.count + (listed_of l.listing).left ≡ l.fn.limit;
  many : l.count + length (take (listed_of l.listing).left (listed_of l.listing).rest) ≡ length (take l.fn.limit (listed_of l.fn.listing).rest);
  rest : drop (listed_of l.listing).left (listed_of l.listing).rest ≡ drop l.fn.limit (listed_of l.fn.listing).rest;
  failed : has_failed l.writer ≡ has_failed l.fn.writer;
}

abbrev pub decreases-loop-voxel : goal.decreases-loop-voxel
decreases-loop-voxel g l = length (listed_of l.listing).rest
