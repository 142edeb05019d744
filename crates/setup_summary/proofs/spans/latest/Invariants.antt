use Rattle.std.proofs.Common.{◌≡◌, drop}
use Rattle.setup_summary.specs.Summary.{later, latest}
use Rattle.setup_summary.proofs.spans.latest.Given as goal

abbrev pub invariant-loop-time : goal.invariant-loop-time
invariant-loop-time l = latest l.times ≡ later l.last (latest (drop l.time-index l.times))
