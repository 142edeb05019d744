use Rattle.std.proofs.Common.{◌≡◌, ◌≤◌, ◌+◌, drop}
use Rattle.check_sched.specs.Roster.{running_among}
use Rattle.check_sched.proofs.roster.running_from.Given as goal

abbrev pub invariant-loop-number : goal.invariant-loop-number
invariant-loop-number l = record {
  counted : l.running + running_among (drop l.number l.objects) ≡ running_among (drop l.from l.objects);
  bounded : l.running ≤ l.number;
}
