use Rattle.std.proofs.Common.{◌≡◌, ◌-◌}
use Rattle.setup_diagnostics.specs.JsonFaults.{after_feeds}
use Rattle.setup_diagnostics.proofs.json_faults.after_feeds.Given as goal

abbrev pub invariant-loop-passed : goal.invariant-loop-passed
invariant-loop-passed l = after_feeds l.feeds l.bytes ≡ after_feeds (l.feeds - l.passed) l.rest
