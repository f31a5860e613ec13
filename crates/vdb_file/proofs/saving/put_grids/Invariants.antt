use Rattle.vdb_file.proofs.Common.{◌≡◌, take, flat_map, scene_of, has_failed, source, grid_bytes, head_bytes, Puts, sent}
use Rattle.vdb_file.proofs.saving.put_grids.Given as goal

-- the first `i` grids are written
abbrev pub invariant-loop-i : goal.invariant-loop-i
invariant-loop-i g l = record {
  puts : Puts (sent g.row.C l.fn.out (g.W.Write.contents (source l.fn.writer))) (sent g.row.C l.out (g.W.Write.contents (source l.writer))) (flat_map (grid_bytes head_bytes) (take l.i (scene_of l.scene)));
  failed : has_failed l.writer ≡ has_failed l.fn.writer;
}
