use Rattle.vdb_node.proofs.Common.{◌≡◌, ◌*◌, ◌<◌, ◌≤◌, ℕ, false, is_on}
use Rattle.vdb_node.specs.Nodes.{IsOffFrom}
use Rattle.vdb_node.proofs.uniform.cut.Given as goal

abbrev pub invariant-loop-i : goal.invariant-loop-i
invariant-loop-i g l =
    record {
      cleared : (j : ℕ) → l.count ≤ j → j < l.i → is_on l.mask j ≡ false;
      kept : (j : ℕ) → j < l.count → is_on l.mask j ≡ is_on l.initial.mask j;
      past_end : IsOffFrom l.mask (64 * g.row.W);
    }
