use Rattle.std.proofs.Common.{◌≡◌, take}
use Rattle.check_sched.specs.Saved.{standings_after_resume}
use Rattle.check_sched.proofs.sched.resuming.resumed_standings.Given as goal

abbrev pub invariant-loop-index : goal.invariant-loop-index
invariant-loop-index l = l.standings.items ≡ take l.index (standings_after_resume l.setup l.saved)
