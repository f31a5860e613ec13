use Rattle.vdb_file.proofs.Common.{◌≡◌, ◌≤◌, ◌-◌, length, not, block_around, entries, sub_block, vdb, is_background, field_of, passing}
use Rattle.vdb_file.proofs.saving.leaves.count_listed.Given as goal

-- the listed entries among those passed are counted
abbrev pub invariant-loop-i : goal.invariant-loop-i
invariant-loop-i g l = record {
  within : l.from ≤ entries vdb l.level;
  counted : l.count ≡ length (passing (λ i. not (is_background g.V.PartialEq.eq (field_of vdb l.tree) (sub_block vdb l.level (block_around vdb l.level l.p) i))) l.from);
}

abbrev pub decreases-loop-i : goal.decreases-loop-i
decreases-loop-i g l = entries vdb l.level - l.from
