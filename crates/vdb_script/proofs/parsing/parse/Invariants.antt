use Rattle.vdb_script.proofs.Common.{◌≡◌, ◌≤◌, ◌++◌, ◌∷◌, map, length, tokens}
use Rattle.vdb_script.proofs.parsing.parse.Given as goal

-- the tokens so far, and those of what is left
abbrev pub invariant-loop-token : goal.invariant-loop-token
invariant-loop-token l = record {
  told : tokens l.fn.line ≡ l.word ∷ (map (λ t. t.now) l.tokens.items ++ tokens l.left);
  capacity : l.tokens.capacity ≡ 12;
  few : length l.tokens.items ≤ 9;
}

abbrev pub decreases-loop-token : goal.decreases-loop-token
decreases-loop-token l = length l.left
