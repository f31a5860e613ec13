use Rattle.vdb_file.proofs.Common.{◌≡◌, length, ℕ, Some, None, flat_map, scene_of, HaveUnusedAccessors, IsNamed, name_of, named_bytes, EndsWith, GaveWithin, Took, ahead, byte_total}
use Rattle.vdb_file.proofs.Items.{IsChain, last_of}
use Rattle.vdb_file.proofs.loading.take_grids.Given as goal

-- the grids so far were read, and the next must follow the last of them
abbrev pub invariant-loop : goal.invariant-loop
invariant-loop g l = record {
  took : Took (ahead l.fn.input (g.S.Source.state l.fn.reader)) (ahead l.input (g.S.Source.state l.reader)) (flat_map (named_bytes l.fn.version) (scene_of l.scene));
  ends : EndsWith l.input (g.S.Source.state l.reader);
  total : (n : ℕ) → byte_total l.fn.input (g.S.Source.state l.fn.reader).remaining ≡ Some n → byte_total l.input (g.S.Source.state l.reader).remaining ≡ Some n;
  given : (n m : ℕ) → GaveWithin n m l.fn.input (g.S.Source.state l.fn.reader).given (g.S.Source.state l.fn.reader).empty → GaveWithin n m l.input (g.S.Source.state l.reader).given (g.S.Source.state l.reader).empty;
  count : length (scene_of l.scene) ≡ l.counter;
  chain : IsChain (IsNamed l.fn.version) name_of None (scene_of l.scene);
  before : l.before ≡ last_of (IsNamed l.fn.version) name_of None (scene_of l.scene);
  unused : HaveUnusedAccessors l.scene;
  failed : (g.S.Source.state l.reader).failed ≡ (g.S.Source.state l.fn.reader).failed;
}
