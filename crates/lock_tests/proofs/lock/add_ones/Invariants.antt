use Rattle.ticket_lock.specs.Tokens.{IsSeatOf}
use Rattle.lock_tests.proofs.lock.add_ones.Given as goal

abbrev pub invariant-loop : goal.invariant-loop
invariant-loop l = IsSeatOf l.lock l.seat
