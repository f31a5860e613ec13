-- The written states are those of the eroded field.
use Rattle.vdb_morph.proofs.Common.{◌∙◌, vdb, erode, field_of}
use Rattle.vdb_morph.proofs.BlockStates.{states_taken}
use Rattle.vdb_morph.proofs.erode_block.erode_block.Goals as goal

pub returns : goal.returns
returns g c = λ ok.
    c.put_states.ensures ok ∙ states_taken vdb c.args.p c.eroded_states-left.result (field_of vdb c.args.states.now) (erode (field_of vdb c.args.tree.now)) c.eroded_states-left.ensures
