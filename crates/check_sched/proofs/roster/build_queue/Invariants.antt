use Rattle.std.proofs.Common.{◌≡◌, ◌≤◌}
use Rattle.check_sched.specs.Roster.{waiting_times}
use Rattle.check_sched.proofs.RosterLaws.{between}
use Rattle.check_sched.proofs.roster.build_queue.Given as goal

abbrev pub invariant-loop-number : goal.invariant-loop-number
invariant-loop-number l = record { waiting : l.queue ≡ waiting_times (between l.from l.number) l.objects; above : l.from ≤ l.number }
