use Rattle.std.proofs.Common.{◌≡◌}
use Rattle.nagsched_protocol.specs.Input.{lines_of}
use Rattle.nagsched_protocol.specs.Script.{line_at}
use Rattle.nagsched_protocol.proofs.script.line_at.Given as goal

abbrev pub invariant-loop-line : goal.invariant-loop-line
invariant-loop-line l = line_at l.number (lines_of l.input) ≡ line_at l.left (lines_of l.line-iterator.rest.now)
