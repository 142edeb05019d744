-- The commands of a drill as the definitions see them.
use Rattle.nagsched_protocol.specs.declared.drill_command.DrillCommand.{DrillCommand}
use Rattle.nagsched_protocol.specs.declared.drill_command.DrillCommand.TheVariants.{Plugin, Moment}
use Rattle.nagsched_protocol.specs.DrillCommand.{Command, PluginOf, MomentAt}

abbrev pub drill_command : DrillCommand → Command
drill_command (Plugin object codes) = PluginOf object codes.items
drill_command (Moment now) = MomentAt now
