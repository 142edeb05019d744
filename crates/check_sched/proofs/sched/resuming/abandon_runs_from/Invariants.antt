use Rattle.std.proofs.Common.{◌≡◌, ◌≤◌}
use Rattle.check_sched.proofs.AbandonLaws.{freed_below}
use Rattle.check_sched.proofs.sched.resuming.abandon_runs_from.Given as goal

abbrev pub invariant-loop-number : goal.invariant-loop-number
invariant-loop-number l = record {
  given : l.objects.items ≡ freed_below l.number l.from l.now l.fn.objects.items;
  above : l.from ≤ l.number;
}
