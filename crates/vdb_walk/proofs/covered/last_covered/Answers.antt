use Rattle.vdb_walk.proofs.Common.{ap, sym, ◌∙◌, Box, everywhere, is_box, is_inside, is_within, both}
use Rattle.vdb_walk.proofs.covered.last_covered.Goals as goal

pub last_of_layer-requires-clause-held : goal.last_of_layer-requires-clause-held
last_of_layer-requires-clause-held c = rw c.block_in-block.ensures at (sym c.covers.ensures ∙ c.if-covers.true)

pub last_of_layer-requires-clause-end : goal.last_of_layer-requires-clause-end
last_of_layer-requires-clause-end c = c.max-end.ensures.corner ∙ ap (λ (b : Box). b.max) c.block_in-block.ensures

pub last_of_layer-requires-clause-end_inside : goal.last_of_layer-requires-clause-end_inside
last_of_layer-requires-clause-end_inside c =
    let b = c.block_in-block.result in
    let fits = (both (is_box b) (is_within b everywhere) c.max-end.ensures.bounds).1 in
    rw c.max-end.ensures.corner (both (is_inside everywhere b.min) (is_inside everywhere b.max) fits).1
