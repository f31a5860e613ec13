use Rattle.vdb_file.proofs.Common.{◌≡◌, ◌<◌, ℕ, Some, block, vdb, everywhere, Upper, field_of, AreLoadable, IsKey, EndsWith, GaveWithin, ahead, byte_total}
use Rattle.vdb_file.proofs.RowInstances.{root_row}
use Rattle.vdb_file.proofs.RowLoops.{IsUnderway}
use Rattle.vdb_file.proofs.loading.roots.take_keyed_roots.Given as goal

-- this many root blocks were read, and the next ones are loadable while fewer than the count were read
abbrev pub invariant-loop : goal.invariant-loop
invariant-loop g l = record {
  underway : IsUnderway g.V.PartialEq.eq g.V.Voxel.is_value (root_row g.V.PartialEq.eq g.V.Voxel.bytes_of vdb) l.fn.tree.background everywhere (field_of vdb l.fn.tree)
      (ahead l.fn.input (g.S.Source.state l.fn.reader)) l.counter l.before (field_of vdb l.tree) (ahead l.input (g.S.Source.state l.reader));
  loadable : l.counter < l.fn.count → AreLoadable g.V.PartialEq.eq g.V.Voxel.is_value vdb l.tree.limit Upper (IsKey vdb l.before) (block vdb Upper) (field_of vdb l.tree);
  ends : EndsWith l.input (g.S.Source.state l.reader);
  total : (n : ℕ) → byte_total l.fn.input (g.S.Source.state l.fn.reader).remaining ≡ Some n → byte_total l.input (g.S.Source.state l.reader).remaining ≡ Some n;
  given : (n m : ℕ) → GaveWithin n m l.fn.input (g.S.Source.state l.fn.reader).given (g.S.Source.state l.fn.reader).empty → GaveWithin n m l.input (g.S.Source.state l.reader).given (g.S.Source.state l.reader).empty;
  limit : l.tree.limit ≡ l.fn.tree.limit;
  failed : (g.S.Source.state l.reader).failed ≡ (g.S.Source.state l.fn.reader).failed;
}
