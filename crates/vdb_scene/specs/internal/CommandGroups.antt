-- Groups of commands, each with a function of its own.
use Rattle.std.specs.Prelude.{Bool, true, false}
use Rattle.vdb_scene.specs.declared.command.Command.{Command}
use Rattle.vdb_scene.specs.declared.command.Command.TheVariants as commands

-- whether a command looks up or writes one voxel
abbrev pub is_on_voxel : Command → Bool
is_on_voxel (commands.Get name k p) = true
is_on_voxel (commands.Set name k p v) = true
is_on_voxel (commands.Unset name k p v) = true
is_on_voxel (commands.Only name k p v) = true
is_on_voxel (commands.State name k p on) = true
is_on_voxel c = false
