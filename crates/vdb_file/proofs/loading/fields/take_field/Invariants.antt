use Rattle.vdb_file.proofs.Common.{◌≡◌, ◌≤◌, ◌-◌, length, take, ℕ, Some, EndsWith, GaveWithin, Took, ahead, byte_total}
use Rattle.vdb_file.proofs.loading.fields.take_field.Given as goal

-- the front of the field was read
abbrev pub invariant-loop-at : goal.invariant-loop-at
invariant-loop-at g l = record {
  took : Took (ahead l.fn.input (g.S.Source.state l.fn.reader)) (ahead l.input (g.S.Source.state l.reader)) (take l.at l.field);
  ends : EndsWith l.input (g.S.Source.state l.reader);
  total : (n : ℕ) → byte_total l.fn.input (g.S.Source.state l.fn.reader).remaining ≡ Some n → byte_total l.input (g.S.Source.state l.reader).remaining ≡ Some n;
  given : (n m : ℕ) → GaveWithin n m l.fn.input (g.S.Source.state l.fn.reader).given (g.S.Source.state l.fn.reader).empty → GaveWithin n m l.input (g.S.Source.state l.reader).given (g.S.Source.state l.reader).empty;
  within : l.at ≤ length l.field;
  same : length l.field ≡ length l.fn.field;
  fits : length l.fn.field ≤ l.fn.input.capacity;
  failed : (g.S.Source.state l.reader).failed ≡ (g.S.Source.state l.fn.reader).failed;
}

-- the bytes that are still needed decrease
abbrev pub decreases-loop-at : goal.decreases-loop-at
decreases-loop-at g l = length l.field - l.at
