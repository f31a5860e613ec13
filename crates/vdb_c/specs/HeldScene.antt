-- What the pointer of a held scene owns.
use base.Fml.{Fml}
use base.Stored.{Coded}
use denote.RattleType.{RattleType}
use denote.RawPtr.{Ptr}
use Rattle.std.specs.Coded.{coded_option}
use Rattle.std.specs.declared.option.Option.{Option}
use Rattle.vdb_scene.specs.declared.scene.Scene.{Scene}
use Rattle.vdb_scene.specs.contracts.scene.Scene as scene
use Rattle.vdb_c.specs.Kept.{freeing, owns_boxed}

-- a scene, as the logic describes it
abbrev pub Row : RattleType
Row = scene.the_row

-- the box of the scene, or nothing
abbrev pub owns_held : Ptr → Option Scene → Fml
owns_held = owns_boxed freeing Row

-- how the logic stores what is held
abbrev pub coded_held : Coded (Option Scene)
coded_held = coded_option Row.coded
