use Rattle.std.proofs.Common.{◌≡◌, [], replicate}
use Rattle.check_sched.proofs.results.Results.empty.Given as goal

abbrev pub invariant-loop-number : goal.invariant-loop-number
invariant-loop-number l = l.by_number.items ≡ replicate l._number []
