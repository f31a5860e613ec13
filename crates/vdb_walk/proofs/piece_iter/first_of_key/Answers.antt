use Rattle.vdb_walk.proofs.Common.{◌∙◌, ap, Box, bits_of}
use Rattle.vdb_walk.proofs.PiecesInTurn.{first_of_key, none_of_key}
use Rattle.vdb_walk.proofs.piece_iter.first_of_key.Goals as goal

pub returns-in-Some-clause-first : goal.returns-in-Some-clause-first
returns-in-Some-clause-first g c =
    first_of_key (bits_of g.row.U g.row.L g.row.F) c.args.tree.now c.args.after c.in-Some.key (rw c.bits-bits.ensures.value at c.bits-bits.ensures.configured) (c.in-Some.ensures.inside c.in-Some.key c.in-Some.ensures.least.0) c.in-Some.ensures.least
    c.min.result (rw c.bits-bits.ensures.value at (c.min.ensures.corner ∙ ap (λ (b : Box). b.min) c.numbered_block_in.ensures))

pub returns-in-None-clause-first : goal.returns-in-None-clause-first
returns-in-None-clause-first g c = none_of_key (bits_of g.row.U g.row.L g.row.F) c.args.tree.now c.args.after c.in-None.ensures.least
