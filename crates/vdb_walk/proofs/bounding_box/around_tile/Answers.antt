use Rattle.vdb_walk.proofs.Common.{ap, ◌∙◌, Field, bits_of, field_of, Cell}
use Rattle.vdb_walk.proofs.Surrounds.{grown, kept_off}
use Rattle.vdb_walk.proofs.bounding_box.around_tile.Goals as goal

pub returns-then-cell-clause-least : goal.returns-then-cell-clause-least
returns-then-cell-clause-least g c =
    let f : Field g.row.V.Denot = field_of (bits_of g.row.U g.row.L g.row.F) c.args.tree.now in
    grown f c.args.found c.args.part _ c.joined.ensures.least (λ p i. ap (λ (d : Cell g.row.V.Denot). d.on) (c.requires p i) ∙ c.if-cell.true)

pub returns-else-cell-clause-least : goal.returns-else-cell-clause-least
returns-else-cell-clause-least g c =
    let f : Field g.row.V.Denot = field_of (bits_of g.row.U g.row.L g.row.F) c.args.tree.now in
    kept_off f c.args.found c.args.part (λ p i. ap (λ (d : Cell g.row.V.Denot). d.on) (c.requires p i) ∙ c.if-cell.false)
