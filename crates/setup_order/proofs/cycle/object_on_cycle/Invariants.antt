use Rattle.std.proofs.Common.{◌≡◌}
use Rattle.setup_order.specs.Search.{steps}
use Rattle.setup_order.proofs.cycle.object_on_cycle.Given as goal

abbrev pub invariant-loop-step : goal.invariant-loop-step
invariant-loop-step l = l.at ≡ steps l.next l.object l._step
