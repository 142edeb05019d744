use Rattle.std.proofs.lemmas.List.{take_rest}
use Rattle.nagsched_protocol.proofs.OutputLemmas.{WroteUpTo-more}
use Rattle.nagsched_protocol.proofs.output.write_text.Goals as goal

pub loop-rest-preserved : goal.loop-rest-preserved
loop-rest-preserved g c = rw (take_rest c.loop-rest.rest.now c.in-Ok.count) (WroteUpTo-more _ _ _ _ _ c.in-Ok.count c.loop-rest.invariant c.in-Ok.ensures.bytes)
