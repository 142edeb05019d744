use Rattle.nagsched_loop.proofs.RunLemmas.{keeps_called}
use Rattle.nagsched_loop.proofs.round.Round.make_call.Goals as goal

pub returns-clause-returned : goal.returns-clause-returned
returns-clause-returned g c = (c.in_ok-pass.ensures.returned.0, rw c.forget.ensures (keeps_called _ _ _ _ _ c.in_ok-pass.ensures.made))
