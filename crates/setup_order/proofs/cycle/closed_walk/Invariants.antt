use Rattle.setup_order.proofs.WalkLemmas.{IsOnWay}
use Rattle.setup_order.proofs.cycle.closed_walk.Given as goal

abbrev pub invariant-loop-step : goal.invariant-loop-step
invariant-loop-step l = IsOnWay l.next l.object l._step l.at l.cycle.items
