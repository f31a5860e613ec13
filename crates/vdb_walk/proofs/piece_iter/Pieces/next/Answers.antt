use Rattle.vdb_walk.proofs.Common.{subst, Some, bits_of, IsNextPiece, Passage}
use Rattle.vdb_walk.proofs.PiecesInTurn.{ends_piece, next_piece}
use Rattle.vdb_walk.proofs.piece_iter.Pieces.next.Goals as goal

pub invariant_of-self : goal.invariant_of-self
invariant_of-self g c =
    rw c.max.ensures.corner
    (ends_piece (bits_of g.row.U g.row.L g.row.F) c.self.inside.tree.now c.in-Some.p c.piece-piece.result.bounds c.in-Some.ensures.first.1.0 c.piece-piece.ensures.bounds c.max.ensures.bounds)

pub returns-in-Some-clause-piece : goal.returns-in-Some-clause-piece
returns-in-Some-clause-piece g c =
    let bits = bits_of g.row.U g.row.L g.row.F in
    subst (λ (p : Passage g.row.V.Denot). IsNextPiece bits p (Some c.piece-piece.result)) c.self.view_is
    (next_piece bits c.self.inside.tree.now c.self.inside.last c.in-Some.p c.piece-piece.result c.first_ahead.ensures.configured c.self.invariant c.in-Some.ensures.first c.piece-piece.ensures.bounds c.piece-piece.ensures.cells)
