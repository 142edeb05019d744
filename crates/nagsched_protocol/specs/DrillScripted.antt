-- The script of a drill as the definitions see it.
use Rattle.std.specs.Prelude.{map}
use Rattle.nagsched_protocol.specs.declared.drill_script.DrillScript.{DrillScript}
use Rattle.nagsched_protocol.specs.DrillScript as spec

abbrev pub drill_script : DrillScript → spec.DrillScript
drill_script s = record { setup = s.setup; returns = map (λ list. list.items) s.codes.items; moments = s.moments.items }
