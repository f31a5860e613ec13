use Rattle.std.proofs.Common.{◌∙◌, refl}
use Rattle.vdb_tree.proofs.tree.TreeOf.lower_to_change.Goals as goal

pub returns-then-not-can_change-clause-refined : goal.returns-then-not-can_change-clause-refined
returns-then-not-can_change-clause-refined g c = (c.in-Tile.tile, c.upper_entry.ensures.value ∙ c.in-Tile.is, c.if-not-can_change.ensures.stays refl)
