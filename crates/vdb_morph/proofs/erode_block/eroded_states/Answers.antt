-- Face by face.
use Rattle.vdb_morph.proofs.Common.{◌≡◌, ap, ◌∙◌, arith, get_or, take, ℕ, Bool, List, ◌&&◌, offset, vdb, faces, Leaf, MinusX, is_on, field_of, state_behind}
use Rattle.vdb_morph.proofs.ErodedBlocks.{eroded_is, stays_by, stays_first, stays_more}
use Rattle.vdb_morph.proofs.erode_block.eroded_states.Goals as goal

pub loop-face-init : goal.loop-face-init
loop-face-init g c = λ q inside around.
    ap (λ (m : List Bool). is_on m (offset vdb Leaf q)) c.copied-left.ensures.same ∙ c.states_at-own.ensures q inside around ∙ stays_first (field_of vdb c.args.tree.now) q

pub loop-face-preserved : goal.loop-face-preserved
loop-face-preserved g c = λ q inside around.
    let f = field_of vdb c.args.tree.now in
    c.narrow.ensures q inside around
    ∙ ap (λ b. b && state_behind f (get_or faces c.loop-face.face-index MinusX) q) (c.loop-face.invariant q inside around)
    ∙ stays_more f c.loop-face.face-index MinusX q c.loop-face-test.true

pub returns : goal.returns
returns g c = λ q inside around.
    let f = field_of vdb c.args.tree.now in
    let all : c.loop-face.face-index ≡ 6 = omega arith in
    c.loop-face.invariant q inside around ∙ ap (λ (n : ℕ). stays_by f (take n faces) q) all ∙ eroded_is f q inside
