use Rattle.vdb_tree.proofs.Ruled.{idle_tile}
use Rattle.vdb_tree.proofs.pairs.upper_states.is_idle_tile.Goals as goal

pub returns-in-Tile-clause-idle : goal.returns-in-Tile-clause-idle
returns-in-Tile-clause-idle g c = λ h. idle_tile c.args.rule c.args.entry c.in-Tile.tile c.acting_state.result c.in-Tile.is c.acting_state.ensures h
