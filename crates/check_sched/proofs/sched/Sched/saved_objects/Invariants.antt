use Rattle.std.proofs.Common.{◌≡◌, take}
use Rattle.check_sched.specs.Saved.{saved_of}
use Rattle.check_sched.proofs.sched.Sched.saved_objects.Given as goal

abbrev pub invariant-loop-number : goal.invariant-loop-number
invariant-loop-number l = l.objects.items ≡ take l.number (saved_of l.self).objects
