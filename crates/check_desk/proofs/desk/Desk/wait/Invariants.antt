use Rattle.std.proofs.Common.{◌≡◌}
use Rattle.check_desk.specs.Desks.{IsWaitingAt}
use Rattle.check_desk.specs.Passes.{turn_caller}
use Rattle.check_desk.proofs.desk.Desk.wait.Given as goal

abbrev pub invariant-loop : goal.invariant-loop
invariant-loop g l =
    (goal.iterator-loop g).can_next l.iterator' × (goal.iterator-loop g).is_finite l.iterator'
    × IsWaitingAt l.self l.turn × (turn_caller l.turn ≡ turn_caller l.fn.turn)
