use Rattle.std.proofs.Common.{length}
use Rattle.nagsched_protocol.specs.Output.{WroteUpTo}
use Rattle.nagsched_protocol.proofs.output.write_text.Given as goal

abbrev pub invariant-loop-rest : goal.invariant-loop-rest
invariant-loop-rest g l = WroteUpTo (g.W.Write.contents l.initial.writer) (g.W.Write.contents l.writer) l.text l.rest

abbrev pub decreases-loop-rest : goal.decreases-loop-rest
decreases-loop-rest g l = length l.rest
