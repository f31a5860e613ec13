use Rattle.vdb_file.proofs.Common.{◌≡◌, ◌++◌, flat_map, block, vdb, Upper, field_of, has_failed, source, key_bytes, root_body, Puts, sent}
use Rattle.vdb_tree.proofs.KeysPast.{keys_past}
use Rattle.vdb_file.proofs.PutRoots.{put_keys}
use Rattle.vdb_file.proofs.saving.nodes.put_each_root.Given as goal

-- the root blocks that hold something, among those whose keys were passed, are written
abbrev pub invariant-loop-key : goal.invariant-loop-key
invariant-loop-key g l = record {
  puts : Puts (sent g.row.C l.fn.out (g.W.Write.contents (source l.fn.writer))) (sent g.row.C l.out (g.W.Write.contents (source l.writer)))
      (flat_map (λ k. key_bytes k ++ root_body g.V.PartialEq.eq g.V.Voxel.bytes_of vdb (field_of vdb l.tree) (block vdb Upper k)) (put_keys g.V.PartialEq.eq vdb l.tree l.passed));
  failed : has_failed l.writer ≡ has_failed l.fn.writer;
}

abbrev pub decreases-loop-key : goal.decreases-loop-key
decreases-loop-key g l = keys_past l.passed l.tree.root
