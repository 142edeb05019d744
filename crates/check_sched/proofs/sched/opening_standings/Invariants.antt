use Rattle.std.proofs.Common.{◌≡◌, take}
use Rattle.check_sched.specs.State.{opening_standings}
use Rattle.check_sched.proofs.sched.opening_standings.Given as goal

abbrev pub invariant-loop-index : goal.invariant-loop-index
invariant-loop-index l = l.standings.items ≡ take l.index (opening_standings l.setup)
