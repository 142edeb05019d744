use Rattle.std.proofs.Common.{◌≡◌, take}
use Rattle.check_sched.specs.Intervals.{intervals_of}
use Rattle.check_sched.proofs.intervals.intervals_by_number.Given as goal

abbrev pub invariant-loop-number : goal.invariant-loop-number
invariant-loop-number l = l.intervals.items ≡ take l.number (intervals_of l.setup)
