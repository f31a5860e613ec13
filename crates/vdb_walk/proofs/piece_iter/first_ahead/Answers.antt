use Rattle.vdb_walk.proofs.Common.{sym, subst, Option, everywhere, Coord, bits_of, IsEnteredPast, IsFirst}
use Rattle.vdb_walk.proofs.PiecesInTurn.{all_ahead}
use Rattle.vdb_walk.proofs.piece_iter.first_ahead.Goals as goal

pub returns-in-None-clause-first : goal.returns-in-None-clause-first
returns-in-None-clause-first g c =
    let bits = bits_of g.row.U g.row.L g.row.F in
    subst (λ (l : Option Coord). IsFirst bits (IsEnteredPast bits c.args.tree.now l) everywhere c.first_of_key.result) (sym c.in-None.is) (all_ahead bits c.args.tree.now c.first_of_key.result c.first_of_key.ensures.first)
