-- The states of the block there, or all on if the range ends.
use Rattle.vdb_morph.proofs.Common.{refl, rules, arith, offset, vdb, Leaf, fits_everywhere, field_of}
use Rattle.vdb_morph.proofs.BesideStates.{offset_low}
use Rattle.vdb_morph.proofs.Crossings.{vdb_bits}
use Rattle.vdb_morph.proofs.ErodedBlocks.{nowhere_behind, there_behind}
use Rattle.vdb_morph.proofs.erode_block.states_behind.Goals as goal

pub returns-in-Some : goal.returns-in-Some
returns-in-Some g c =
    there_behind vdb vdb_bits (field_of vdb c.args.tree.now) c.args.face c.args.p c.in-Some.r c.states_at.result
    (fits_everywhere c.in-Some.r (search rules) (search rules) (search rules)) c.in-Some.ensures.there c.states_at.ensures

pub returns-in-None : goal.returns-in-None
returns-in-None g c =
    nowhere_behind vdb vdb_bits (field_of vdb c.args.tree.now) c.args.face c.args.p c.filled.result
    (λ q. c.filled.ensures.within (offset vdb Leaf q) (offset_low q 8 (omega arith))) (c.in-None.ensures.nowhere refl)
