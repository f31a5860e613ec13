-- The states of the leaf, or of a tile.
use Rattle.vdb_morph.proofs.Common.{refl, ◌∙◌, arith, vdb, field_of}
use Rattle.vdb_morph.proofs.BlockStates.{leaf_states, tile_states}
use Rattle.vdb_morph.proofs.erode_block.states_at.Goals as goal

pub returns-in-Some : goal.returns-in-Some
returns-in-Some g c =
    leaf_states vdb c.args.p c.copied.result (field_of vdb c.args.tree.now) c.in-Some.leaf.now c.in-Some.ensures.leaf (c.copied.ensures.same ∙ c.states.ensures.same)

pub returns-in-None : goal.returns-in-None
returns-in-None g c =
    tile_states vdb c.args.p c.filled.result 8 (field_of vdb c.args.tree.now) c.get.result (omega arith) c.filled.ensures.within c.get.ensures.cell
    (c.in-None.ensures.tile refl)
