use Rattle.vdb_file.proofs.Common.{◌≡◌, ◌≤◌, ◌<◌, ◌-◌, ℕ, true, block_around, entries, sub_block, vdb, is_background, field_of}
use Rattle.vdb_file.proofs.saving.leaves.next_listed.Given as goal

-- the entries before this one are background
abbrev pub invariant-loop-i : goal.invariant-loop-i
invariant-loop-i g l = record {
  within : l.at ≤ entries vdb l.level;
  from_on : l.from ≤ l.at;
  flat : (k : ℕ) → l.from ≤ k → k < l.at → is_background g.V.PartialEq.eq (field_of vdb l.tree) (sub_block vdb l.level (block_around vdb l.level l.p) k) ≡ true;
}

abbrev pub decreases-loop-i : goal.decreases-loop-i
decreases-loop-i g l = entries vdb l.level - l.at
