use Rattle.std.proofs.Common.{◌≡◌, ◌+◌, drop}
use Rattle.serde_json.specs.View.{items_view}
use Rattle.nagsched_protocol.specs.DrillCommand.{first_other}
use Rattle.nagsched_protocol.proofs.drill_command.first_other.Given as goal

abbrev pub invariant-loop-index : goal.invariant-loop-index
invariant-loop-index l = first_other 2 (items_view l.values) ≡ first_other (l.index + 2) (items_view (drop l.index l.values))
