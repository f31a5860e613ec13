-- The neighbour of a corner at the face lies in the block behind it.
use Rattle.vdb_morph.proofs.Common.{◌≡◌, ◌∙◌, ap, Box, block_around, vdb, Leaf, layer}
use Rattle.vdb_morph.proofs.Crossings.{block_nowhere, block_there, vdb_bits}
use Rattle.vdb_morph.proofs.faces.block_behind.Goals as goal

least : (c : goal.After-neighbour) → c.layer.result.0 ≡ (layer c.args.face (block_around vdb Leaf c.args.p)).min
least c = c.layer.ensures.min ∙ ap (λ (b : Box). (layer c.args.face b).min) c.block.ensures

pub returns-clause-there : goal.returns-clause-there
returns-clause-there c = block_there vdb c.args.face c.args.p c.layer.result.0 (least c) c.neighbour.result c.neighbour.ensures

pub returns-clause-nowhere : goal.returns-clause-nowhere
returns-clause-nowhere c = block_nowhere vdb c.args.face c.args.p c.layer.result.0 (least c) vdb_bits c.neighbour.result c.neighbour.ensures
