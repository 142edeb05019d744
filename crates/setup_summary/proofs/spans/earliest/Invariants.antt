use Rattle.std.proofs.Common.{◌≡◌, drop}
use Rattle.setup_summary.specs.Summary.{earliest}
use Rattle.check_states.specs.Times.{earlier}
use Rattle.setup_summary.proofs.spans.earliest.Given as goal

abbrev pub invariant-loop-time : goal.invariant-loop-time
invariant-loop-time l = earliest l.times ≡ earlier l.first (earliest (drop l.time-index l.times))
