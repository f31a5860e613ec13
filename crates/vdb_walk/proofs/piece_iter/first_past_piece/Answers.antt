use Rattle.vdb_tree.specs.Layout.{bits_of}
use Rattle.vdb_walk.proofs.PiecesInTurn.{first_here, first_later}
use Rattle.vdb_walk.proofs.piece_iter.first_past_piece.Goals as goal

pub returns-in-Some-clause-first : goal.returns-in-Some-clause-first
returns-in-Some-clause-first g c =
    first_here (bits_of g.row.U g.row.L g.row.F) c.args.tree.now c.args.last (rw c.bits-bits.ensures.value at c.bits-bits.ensures.configured) c.requires.inside c.requires.entry c.in-Some.p
    (rw (c.block_in.ensures, c.bits-bits.ensures.value) at c.in-Some.ensures)

pub returns-in-None-clause-first : goal.returns-in-None-clause-first
returns-in-None-clause-first g c =
    first_later (bits_of g.row.U g.row.L g.row.F) c.args.tree.now c.args.last (rw (c.block_in.ensures, c.bits-bits.ensures.value) at c.in-None.ensures) c.first_of_key.result
    (rw (c.key_in.ensures.key, c.bits-bits.ensures.value) at c.first_of_key.ensures.first)
