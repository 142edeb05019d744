use Rattle.std.proofs.Common.{◌≡◌, ◌+◌, drop}
use Rattle.setup_model.specs.Agreement.{with_front}
use Rattle.serde_json.specs.View.{items_view}
use Rattle.nagsched_protocol.specs.DrillCommand.{codes_from}
use Rattle.nagsched_protocol.proofs.drill_command.codes_from.Given as goal

abbrev pub invariant-loop-index : goal.invariant-loop-index
invariant-loop-index l =
    codes_from 2 (items_view l.values) ≡ with_front l.codes.items (codes_from (l.index + 2) (items_view (drop l.index l.values)))
