use Rattle.std.proofs.Common.{◌≡◌}
use Rattle.ticket_steps.specs.Sums.{numbers_from}
use Rattle.ticket_steps.proofs.core_steps.first_numbers.Given as goal

abbrev pub invariant-loop-number : goal.invariant-loop-number
invariant-loop-number l = l.numbers ≡ numbers_from 0 l.number
