use Rattle.std.proofs.Common.{◌≡◌, take}
use Rattle.check_sched.specs.Saved.{objects_kept}
use Rattle.check_sched.proofs.sched.resuming.kept_objects.Given as goal

abbrev pub invariant-loop-number : goal.invariant-loop-number
invariant-loop-number l = l.objects.items ≡ take l.number (objects_kept l.setup l.saved l.times)
