use Rattle.std.proofs.Common.{◌≡◌, ◌-◌}
use Rattle.nagsched_protocol.specs.Explanation.{item_at}
use Rattle.nagsched_protocol.proofs.explanation.pass_items.Given as goal

abbrev pub invariant-loop-passed : goal.invariant-loop-passed
invariant-loop-passed l = item_at l.number l.initial.reader ≡ item_at (l.number - l.passed) l.reader
