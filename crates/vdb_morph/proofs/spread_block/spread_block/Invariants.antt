use Rattle.vdb_morph.proofs.Common.{◌≡◌, take, list_any, vdb, faces, field_of, is_over, with_active}
use Rattle.vdb_morph.proofs.spread_block.spread_block.Given as goal

abbrev pub invariant-loop-face : goal.invariant-loop-face
invariant-loop-face l =
    field_of vdb l.states ≡ with_active (λ q. list_any (λ face. is_over vdb l.p l.marks face q) (take l.face-index faces)) (field_of vdb l.initial.states)
