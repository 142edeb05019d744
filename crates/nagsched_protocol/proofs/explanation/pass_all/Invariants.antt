use Rattle.std.proofs.Common.{length}
use Rattle.nagsched_protocol.proofs.explanation.pass_all.Given as goal

abbrev pub decreases-loop : goal.decreases-loop
decreases-loop l = length l.reader
