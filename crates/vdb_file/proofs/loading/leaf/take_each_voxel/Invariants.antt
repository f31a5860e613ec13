use Rattle.vdb_file.proofs.Common.{◌≡◌, ℕ, Some, cell_in, off, vdb, Coord, EndsWith, GaveWithin, ahead, byte_total}
use Rattle.vdb_file.proofs.LeafReads.{AreCells, HasRead}
use Rattle.vdb_file.proofs.loading.leaf.take_each_voxel.Given as goal

-- the voxels so far were read into the leaf, whatever the leaf's block, and the next must follow the last of them
abbrev pub invariant-loop : goal.invariant-loop
invariant-loop g l = record {
  ends : EndsWith l.input (g.S.Source.state l.reader);
  total : (n : ℕ) → byte_total l.fn.input (g.S.Source.state l.fn.reader).remaining ≡ Some n → byte_total l.input (g.S.Source.state l.reader).remaining ≡ Some n;
  given : (n m : ℕ) → GaveWithin n m l.fn.input (g.S.Source.state l.fn.reader).given (g.S.Source.state l.fn.reader).empty → GaveWithin n m l.input (g.S.Source.state l.reader).given (g.S.Source.state l.reader).empty;
  failed : (g.S.Source.state l.reader).failed ≡ (g.S.Source.state l.fn.reader).failed;
  cells : AreCells g.V.Voxel.is_value vdb (cell_in (off l.background) l.leaf);
  each : (p : Coord) → HasRead g.V.PartialEq.eq g.V.Voxel.bytes_of vdb l.background p (cell_in (off l.background) l.leaf)
      (ahead l.fn.input (g.S.Source.state l.fn.reader)) (ahead l.input (g.S.Source.state l.reader)) l.counter l.before;
}
