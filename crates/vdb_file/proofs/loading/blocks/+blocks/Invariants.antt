use Rattle.vdb_file.proofs.Common.{◌≡◌, ℕ, Some, ◌+◌, ◌*◌, block_around, entries, vdb, field_of, level_body, AreLoadable, entry_box, IsIndex, EndsWith, GaveWithin, ahead, byte_total}
use Rattle.vdb_file.proofs.RowInstances.{node_row}
use Rattle.vdb_file.proofs.RowLoops.{IsUnderway}
use Rattle.vdb_file.proofs.Levels.{rank}
use Rattle.vdb_file.proofs.loading.blocks.+blocks.Given as goal

abbrev pub decreases-take_entry : goal.decreases-take_entry
decreases-take_entry g l = 6 * rank l.level + 0

abbrev pub decreases-take_next : goal.decreases-take_next
decreases-take_next g l = 6 * rank l.level + 1

abbrev pub decreases-take_entries : goal.decreases-take_entries
decreases-take_entries g l = 6 * rank l.level + 2

abbrev pub decreases-take_node : goal.decreases-take_node
decreases-take_node g l = 6 * rank l.level + 3

abbrev pub decreases-take_inner : goal.decreases-take_inner
decreases-take_inner g l = 6 * rank l.level + 4

abbrev pub decreases-take_block : goal.decreases-take_block
decreases-take_block g l = 6 * rank l.level + 5

-- this many entries were read, and the next ones are loadable
abbrev pub invariant-take_entries-loop : goal.invariant-take_entries-loop
invariant-take_entries-loop g l = record {
  underway : IsUnderway g.V.PartialEq.eq g.V.Voxel.is_value (node_row vdb l.fn.level (block_around vdb l.fn.level l.fn.p) (level_body g.V.PartialEq.eq g.V.Voxel.bytes_of vdb l.fn.below)) l.fn.tree.background (block_around vdb l.fn.level l.fn.p)
      (field_of vdb l.fn.tree) (ahead l.fn.input (g.S.Source.state l.fn.reader)) l.counter l.before (field_of vdb l.tree) (ahead l.input (g.S.Source.state l.reader));
  loadable : AreLoadable g.V.PartialEq.eq g.V.Voxel.is_value vdb l.tree.limit l.fn.below (IsIndex (entries vdb l.fn.level) l.before) (entry_box vdb l.fn.level l.fn.p) (field_of vdb l.tree);
  ends : EndsWith l.input (g.S.Source.state l.reader);
  total : (n : ℕ) → byte_total l.fn.input (g.S.Source.state l.fn.reader).remaining ≡ Some n → byte_total l.input (g.S.Source.state l.reader).remaining ≡ Some n;
  given : (n m : ℕ) → GaveWithin n m l.fn.input (g.S.Source.state l.fn.reader).given (g.S.Source.state l.fn.reader).empty → GaveWithin n m l.input (g.S.Source.state l.reader).given (g.S.Source.state l.reader).empty;
  limit : l.tree.limit ≡ l.fn.tree.limit;
  failed : (g.S.Source.state l.reader).failed ≡ (g.S.Source.state l.fn.reader).failed;
}
