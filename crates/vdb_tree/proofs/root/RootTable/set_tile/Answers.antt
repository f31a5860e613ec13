use Rattle.vdb_tree.proofs.Common.{◌∙◌, sym, Tile, IsDistinct-from_sorted}
use Rattle.std.proofs.lemmas.Map.Steps.{set_value_same}
use Rattle.vdb_tree.proofs.root.RootTable.set_tile.Goals as goal

pub returns-in-Child-clause-child : goal.returns-in-Child-clause-child
returns-in-Child-clause-child g c = λ _ _. rw (← c.self.view_is) ((c.get_mut.follows.holds c.in-Some.entry.now).0 ∙ set_value_same _ _ _ (sym c.in-Some.ensures.value))

pub returns-in-Child-clause-apart : goal.returns-in-Child-clause-apart
returns-in-Child-clause-apart g c = IsDistinct-from_sorted _ _ (c.get_mut.follows.holds c.in-Some.entry.now).4

pub returns-clause-tile : goal.returns-clause-tile
returns-clause-tile g c = λ _ _ k. rw (← c.self.view_is) (((c.get_mut.follows.holds (Tile c.args.cell)).3 (rw (← c.self.view_is) at c.requires)).0 k)

pub returns-clause-apart : goal.returns-clause-apart
returns-clause-apart g c = IsDistinct-from_sorted _ _ (c.get_mut.follows.holds (Tile c.args.cell)).4
