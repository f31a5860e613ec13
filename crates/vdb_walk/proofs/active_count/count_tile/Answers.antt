use Rattle.vdb_walk.proofs.Common.{ap, sym, ◌∙◌, Field, bits_of, field_of, Cell}
use Rattle.vdb_walk.proofs.Counts.{count_all, count_none}
use Rattle.vdb_walk.proofs.active_count.count_tile.Goals as goal

pub returns-then-cell : goal.returns-then-cell
returns-then-cell g c =
    let f : Field g.row.V.Denot = field_of (bits_of g.row.U g.row.L g.row.F) c.args.tree.now in
    c.volume.ensures.value ∙ sym (count_all f c.args.part (λ p i. ap (λ (d : Cell g.row.V.Denot). d.on) (c.requires p i) ∙ c.if-cell.true))

pub returns-else-cell : goal.returns-else-cell
returns-else-cell g c =
    let f : Field g.row.V.Denot = field_of (bits_of g.row.U g.row.L g.row.F) c.args.tree.now in
    sym (count_none f c.args.part (λ p i. ap (λ (d : Cell g.row.V.Denot). d.on) (c.requires p i) ∙ c.if-cell.false))
