-- Both masks have the state behind the face.
use Rattle.vdb_morph.proofs.Common.{ap, sym, ◌∙◌, rules, ◌&&◌, offset, vdb, Leaf, fits_everywhere, is_on, field_of, state_behind}
use Rattle.vdb_morph.proofs.Crossings.{vdb_bits}
use Rattle.vdb_morph.proofs.ErodedBlocks.{beside_behind}
use Rattle.vdb_morph.proofs.erode_block.narrow.Goals as goal

pub returns-then-all_off : goal.returns-then-all_off
returns-then-all_off g c = λ q inside around.
    let none = c.all_off.ensures.0 c.if-all_off.true (offset vdb Leaf q) in
    none ∙ ap (λ b. b && state_behind (field_of vdb c.args.tree.now) c.args.face q) (sym none)

pub returns : goal.returns
returns g c = λ q inside around.
    c.both.ensures (offset vdb Leaf q)
    ∙ ap (λ b. is_on c.args.left.now (offset vdb Leaf q) && b)
    (c.beside.ensures q ∙ beside_behind vdb vdb_bits (field_of vdb c.args.tree.now) c.args.face c.args.p (fits_everywhere c.args.p (search rules) (search rules) (search rules))
    c.args.own.now c.states_behind-other.result c.requires c.states_behind-other.ensures q inside around)
