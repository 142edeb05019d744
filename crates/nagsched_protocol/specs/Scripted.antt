-- The scripts of the code as the definitions see them.
use Rattle.nagsched_protocol.specs.declared.script.Script.{Script}
use Rattle.nagsched_protocol.specs.Script as spec

abbrev pub script : Script → spec.Script
script s = record { state = s.sched; commands = s.commands.items }
