use Rattle.vdb_file.proofs.Common.{◌≡◌, ◌≤◌, ◌+◌, ◌-◌, ◌*◌, entries, vdb, field_of, has_failed, source, level_body, Puts, numbered, passing, sent}
use Rattle.vdb_file.proofs.Levels.{rank}
use Rattle.vdb_file.proofs.ListedEntries.{around, flat}
use Rattle.vdb_file.proofs.Passing.{others}
use Rattle.vdb_file.proofs.saving.nodes.+blocks.Given as goal

abbrev pub decreases-put_entry : goal.decreases-put_entry
decreases-put_entry g l = 4 * rank l.level + 3

abbrev pub decreases-put_block : goal.decreases-put_block
decreases-put_block g l = 4 * rank l.level + 2

abbrev pub decreases-put_node : goal.decreases-put_node
decreases-put_node g l = 4 * rank l.level + 1

abbrev pub decreases-put_entries : goal.decreases-put_entries
decreases-put_entries g l = 4 * rank l.level

-- the listed entries among those passed are written
abbrev pub invariant-put_entries-loop-i : goal.invariant-put_entries-loop-i
invariant-put_entries-loop-i g l = record {
  within : l.from ≤ entries vdb l.level;
  puts : Puts (sent g.row.C l.fn.out (g.W.Write.contents (source l.fn.writer))) (sent g.row.C l.out (g.W.Write.contents (source l.writer)))
      (numbered (λ i. level_body g.V.PartialEq.eq g.V.Voxel.bytes_of vdb l.below (field_of vdb l.tree) (around vdb l.p l.level i)) (passing (others (flat vdb l.p g.V.PartialEq.eq (field_of vdb l.tree) l.level)) l.from));
  failed : has_failed l.writer ≡ has_failed l.fn.writer;
}

abbrev pub decreases-put_entries-loop-i : goal.decreases-put_entries-loop-i
decreases-put_entries-loop-i g l = entries vdb l.level - l.from
