use Rattle.nagsched_protocol.proofs.LiveLaws.{goes_on}
use Rattle.nagsched_protocol.proofs.laws.live_output_only_grows.Goals as goal

pub returns : goal.returns
returns c = goes_on
