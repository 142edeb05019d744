use Rattle.ticket_lock.specs.Tokens.{IsTurnOf}
use Rattle.lock_tests.proofs.lock.wait_and_add.Given as goal

abbrev pub invariant-loop : goal.invariant-loop
invariant-loop l = IsTurnOf l.lock l.turn
