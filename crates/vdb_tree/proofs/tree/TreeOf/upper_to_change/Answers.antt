use Rattle.vdb_tree.proofs.Common.{◌∙◌, refl, bits_of}
use Rattle.vdb_tree.proofs.Descents.{entry_at}
use Rattle.vdb_tree.proofs.tree.TreeOf.upper_to_change.Goals as goal

pub returns-then-not-can_change-clause-refined : goal.returns-then-not-can_change-clause-refined
returns-then-not-can_change-clause-refined g c =
    (c.in-Tile.tile, entry_at (bits_of g.row.U g.row.L g.row.F) c.args.self.now c.args.p c.args.entry c.requires ∙ c.in-Tile.is, c.if-not-can_change.ensures.stays refl)
