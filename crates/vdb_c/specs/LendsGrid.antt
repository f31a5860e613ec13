-- What a held grid ends as, once a `&mut` to its grid has ended.
use Rattle.std.specs.Borrow.{Fml, MutBor, LendsIf}
use Rattle.std.specs.declared.option.Option.{Option}
use Rattle.std.specs.declared.option.Option.TheVariants.{Some}
use Rattle.vdb_scene.specs.declared.any_grid.AnyGrid.{AnyGrid}
use Rattle.vdb_c.specs.declared.handles.held_grid.HeldGrid.{HeldGrid}
use Rattle.vdb_c.specs.contracts.handles.held_grid.HeldGrid.{the_row}
use Rattle.vdb_c.specs.HeldGrid.{Row}

-- the same pointer, with this grid
abbrev pub with_grid : HeldGrid → AnyGrid → HeldGrid
with_grid h g = record { at = h.at; held = Some g }

-- it holds the last grid written through r, or it stays as it is without an r
abbrev pub lends_grid : MutBor HeldGrid → Option (MutBor AnyGrid) → Fml
lends_grid h r = LendsIf the_row Row h r (with_grid h.now) h.now
