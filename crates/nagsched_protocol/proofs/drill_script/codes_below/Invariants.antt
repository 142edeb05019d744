use Rattle.std.proofs.Common.{◌≡◌, map}
use Rattle.nagsched_protocol.specs.DrillCommanded.{drill_command}
use Rattle.nagsched_protocol.specs.DrillScript.{returns_below}
use Rattle.nagsched_protocol.proofs.drill_script.codes_below.Given as goal

abbrev pub invariant-loop-command : goal.invariant-loop-command
invariant-loop-command l = map (λ list. list.items) l.lists.items ≡ returns_below l.count (map drill_command l.yielded)
