use Rattle.vdb_morph.proofs.Common.{◌∙◌, ap, arith, refl, sym, Bool, List, offset, vdb, Leaf, is_on, Cell}
use Rattle.vdb_morph.proofs.BesideStates.{offset_low}
use Rattle.vdb_morph.proofs.Spreading.{from_around}
use Rattle.vdb_morph.proofs.dilated.block_states.Goals as goal

pub returns-in-Some : goal.returns-in-Some
returns-in-Some g c = λ q inside h.
    ap (λ (m : List Bool). is_on m (offset vdb Leaf q)) (c.copied.ensures.same ∙ c.states.ensures.same)
    ∙ sym (ap (λ (d : Cell g.row.V.Denot). d.on) (c.in-Some.ensures.leaf q inside (from_around vdb c.args.p q h)))

pub returns-in-None : goal.returns-in-None
returns-in-None g c = λ q inside h.
    c.filled.ensures.within (offset vdb Leaf q) (offset_low q 8 (omega arith))
    ∙ ap (λ (d : Cell g.row.V.Denot). d.on) (c.get.ensures.cell ∙ sym (c.in-None.ensures.tile refl q inside (from_around vdb c.args.p q h)))
