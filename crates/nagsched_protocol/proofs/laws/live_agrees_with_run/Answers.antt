use Rattle.nagsched_protocol.proofs.LiveLaws.{agrees}
use Rattle.nagsched_protocol.proofs.laws.live_agrees_with_run.Goals as goal

pub returns : goal.returns
returns c = agrees
