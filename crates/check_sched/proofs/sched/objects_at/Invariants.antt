use Rattle.std.proofs.Common.{◌≡◌, take}
use Rattle.check_sched.specs.State.{objects_at}
use Rattle.check_sched.proofs.sched.objects_at.Given as goal

abbrev pub invariant-loop-number : goal.invariant-loop-number
invariant-loop-number l = l.objects.items ≡ take l.number (objects_at l.setup l.times)
