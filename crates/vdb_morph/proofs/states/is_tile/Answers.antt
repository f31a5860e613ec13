-- All cells of the tile are the one at p.
use Rattle.vdb_morph.proofs.Common.{◌∙◌, refl, sym, vdb}
use Rattle.vdb_morph.proofs.BlockStates.{around_number, same_truths}
use Rattle.vdb_morph.proofs.states.is_tile.Goals as goal

pub returns-in-None : goal.returns-in-None
returns-in-None c = λ yes q inside around.
    c.in-None.ensures.tile refl q inside (around_number vdb c.args.p q around)
    ∙ sym c.get.ensures.cell ∙ same_truths c.get.result c.args.cell c.eq.result c.eq.ensures yes
