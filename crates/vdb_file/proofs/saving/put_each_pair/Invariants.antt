use Rattle.vdb_file.proofs.Common.{◌≡◌, ◌++◌, take, flat_map, has_failed, source, counted, Puts, sent}
use Rattle.vdb_file.proofs.saving.put_each_pair.Given as goal

-- the first `i` pairs are written
abbrev pub invariant-loop-i : goal.invariant-loop-i
invariant-loop-i g l = record {
  puts : Puts (sent g.row.C l.fn.out (g.W.Write.contents (source l.fn.writer))) (sent g.row.C l.out (g.W.Write.contents (source l.writer))) (flat_map (λ pair. counted pair.0 ++ counted pair.1) (take l.i l.metas));
  failed : has_failed l.writer ≡ has_failed l.fn.writer;
}
