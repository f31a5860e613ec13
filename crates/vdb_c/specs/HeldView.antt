-- What the pointer of a held view owns.
use base.Fml.{Fml}
use base.Stored.{Coded}
use denote.RattleType.{RattleType}
use denote.RawPtr.{Ptr}
use Rattle.std.specs.Coded.{coded_option}
use Rattle.std.specs.declared.option.Option.{Option}
use Rattle.vdb_c.specs.declared.handles.view.View.{View}
use Rattle.vdb_c.specs.contracts.handles.view.View as view
use Rattle.vdb_c.specs.Kept.{freeing, owns_boxed}

-- a view, as the logic describes it
abbrev pub Row : RattleType
Row = view.the_row

-- the box of the view, or nothing
abbrev pub owns_held : Ptr → Option View → Fml
owns_held = owns_boxed freeing Row

-- how the logic stores what is held
abbrev pub coded_held : Coded (Option View)
coded_held = coded_option Row.coded
