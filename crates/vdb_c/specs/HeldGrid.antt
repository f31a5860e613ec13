-- What the pointer of a held grid owns.
use base.Fml.{Fml}
use base.Stored.{Coded}
use denote.RattleType.{RattleType}
use denote.RawPtr.{Ptr}
use Rattle.std.specs.Coded.{coded_option}
use Rattle.std.specs.declared.option.Option.{Option}
use Rattle.vdb_scene.specs.declared.any_grid.AnyGrid.{AnyGrid}
use Rattle.vdb_scene.specs.contracts.any_grid.AnyGrid as any_grid
use Rattle.vdb_c.specs.Kept.{freeing, owns_boxed}

-- a grid, as the logic describes it
abbrev pub Row : RattleType
Row = any_grid.the_row

-- the box of the grid, or nothing
abbrev pub owns_held : Ptr → Option AnyGrid → Fml
owns_held = owns_boxed freeing Row

-- how the logic stores what is held
abbrev pub coded_held : Coded (Option AnyGrid)
coded_held = coded_option Row.coded
