use Rattle.nagsched_protocol.proofs.OutputLemmas.{front_all, on_err_any, Appends-Keeps}
use Rattle.nagsched_protocol.proofs.output.print_text.Goals as goal

pub returns-clause-fault : goal.returns-clause-fault
returns-clause-fault g c = on_err_any _ (front_all _ _ _ (Appends-Keeps _ _ _ _ c.in_ok-write_text.ensures.ok c.flush.ensures.kept))
