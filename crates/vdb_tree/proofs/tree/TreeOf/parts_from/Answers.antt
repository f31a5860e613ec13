use Rattle.vdb_tree.proofs.Common.{◌≡◌, ap, false, subst, Option, Some, Coord, not_before_min, bits_of, TreeWalk, is_left}
use Rattle.vdb_tree.proofs.PartStarts.{gone_before}
use Rattle.vdb_tree.proofs.tree.TreeOf.parts_from.Goals as goal

pub returns-then-contains-clause-earlier : goal.returns-then-contains-clause-earlier
returns-then-contains-clause-earlier g c = λ q i gone.
    let bits = bits_of g.row.U g.row.L g.row.F in
    let at : c.go_to.new.self.at ≡ Some c.start_around-first.result = ap (λ (w : TreeWalk g.row.V.Denot). w.at) c.go_to.ensures in
    c.start_around-first.ensures.earlier q (gone_before bits c.start_around-first.result q (subst (λ (o : Option Coord). is_left bits o q ≡ false) at gone))

pub returns-else-contains-clause-earlier : goal.returns-else-contains-clause-earlier
returns-else-contains-clause-earlier g c = λ q i gone.
    let bits = bits_of g.row.U g.row.L g.row.F in
    absurd (not_before_min bits c.args.bounds q i (gone_before bits c.args.bounds.min q (subst (λ (o : Option Coord). is_left bits o q ≡ false) c.parts-walk.ensures.at gone)))
