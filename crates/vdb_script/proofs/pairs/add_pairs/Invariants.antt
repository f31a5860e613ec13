use Rattle.vdb_script.proofs.Common.{◌≡◌, drop, has_failed, source, pair_line}
use Rattle.vdb_script.proofs.Pages.{AddedSoFar}
use Rattle.vdb_script.proofs.pairs.add_pairs.Given as goal

-- the pairs so far were added, and the others are left
abbrev pub invariant-loop-i : goal.invariant-loop-i
invariant-loop-i g l = record {
  added : AddedSoFar pair_line l.fn.metas (drop l.i l.fn.metas) (g.W.Write.contents (source l.fn.writer)) (g.W.Write.contents (source l.writer)) l.fn.page.items l.page.items;
  failed : has_failed l.writer ≡ has_failed l.fn.writer;
}
