use Rattle.std.proofs.Common.{◌≡◌, take}
use Rattle.check_sched.specs.Saved.{result_lists_after_resume}
use Rattle.check_sched.proofs.sched.resuming.resumed_results.Given as goal

abbrev pub invariant-loop-number : goal.invariant-loop-number
invariant-loop-number l = l.by_number.items ≡ take l.number (result_lists_after_resume l.setup l.saved)
